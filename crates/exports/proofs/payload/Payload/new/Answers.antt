-- `Payload::new` meets its contract.
use Rattle.std.proofs.Common.{refl}
use Rattle.exports.proofs.PayloadLetters.{told_read, told_refused}
use Rattle.exports.proofs.payload.Payload.new.Goals as goal

pub returns-then-eq : goal.returns-then-eq
returns-then-eq c = told_refused _ _ _ c.base64_decode-answer.ensures.0 _ refl refl c.if-eq.ensures

pub invariant_of-result : goal.invariant_of-result
invariant_of-result c = record { canonical = told_read _ _ _ c.base64_decode-answer.ensures.0 _ refl refl c.if-eq.ensures }
