use Rattle.primitives.specs.Base64.{bytes}
use Rattle.primitives.specs.declared.base64.Alphabet.TheVariants.{UrlSafe}
use Rattle.exports.specs.Running.{PayloadPlace}
use Rattle.exports.proofs.payload.Payload.skip_marks.Given as goal

abbrev pub invariant-loop : goal.invariant-loop
invariant-loop l = PayloadPlace (bytes UrlSafe l.self.letters.now) l.counter l.p
