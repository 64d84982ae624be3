-- `Payload::len` meets its contract.
use Rattle.std.proofs.Common.{sym}
use Rattle.primitives.specs.declared.base64.Alphabet.TheVariants.{UrlSafe}
use Rattle.primitives.proofs.Base64Lengths.{length_bytes}
use Rattle.exports.proofs.payload.Payload.len.Goals as goal

pub returns : goal.returns
returns c = sym (length_bytes UrlSafe c.args.self.now.letters.now)
