use Rattle.primitives.specs.Base64.{bytes}
use Rattle.primitives.specs.declared.base64.Alphabet.TheVariants.{UrlSafe}
use Rattle.exports.proofs.PayloadMarks.{Seeking}
use Rattle.exports.proofs.payload.Payload.next_mark.Given as goal

abbrev pub invariant-loop-i : goal.invariant-loop-i
invariant-loop-i l = Seeking (bytes UrlSafe l.self.letters.now) l.from l.n l.i
