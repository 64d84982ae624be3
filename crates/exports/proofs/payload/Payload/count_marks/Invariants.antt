use Rattle.primitives.specs.Base64.{bytes}
use Rattle.primitives.specs.declared.base64.Alphabet.TheVariants.{UrlSafe}
use Rattle.exports.proofs.PayloadMarks.{Counting}
use Rattle.exports.proofs.payload.Payload.count_marks.Given as goal

abbrev pub invariant-loop-i : goal.invariant-loop-i
invariant-loop-i l = Counting (bytes UrlSafe l.self.letters.now) l.i-end l.count l.i
