use Rattle.primitives.specs.Base64.{bytes}
use Rattle.primitives.specs.declared.base64.Alphabet.TheVariants.{UrlSafe}
use Rattle.exports.proofs.PayloadMarks.{Filling}
use Rattle.exports.proofs.payload.Payload.name.Given as goal

abbrev pub invariant-loop-i : goal.invariant-loop-i
invariant-loop-i l = Filling (bytes UrlSafe l.self.letters.now) l.a l.e l.i-end l.bytes l.i
