-- A row of questions.
use Rattle.std.proofs.Common.{◌≡◌, ◌&&◌, true, false, ap}
use Rattle.std.specs.Option.{is_some}
use Rattle.exports.specs.Passing.{survey_answer}
use Rattle.primitives.proofs.Rows.{rows}
use Rattle.exports.proofs.Surveying.{and_then, and_else}
use Rattle.exports.proofs.survey.survey_answer.Goals as goal
use Rattle.exports.proofs.survey.survey_answer.Goals.{then-some, else-some}

pub returns-then-not-good-clause-number : goal.returns-then-not-good-clause-number
unfolding survey_answer
returns-then-not-good-clause-number c =
    let good : c.if-some.good ≡ (c.args.some && c.args.s.good) = elim c.if-some.branch [ then-some w ↦ and_then w.if-some.true w.good-is | else-some w ↦ and_else c.args.s.good w.if-some.false w.good-is ] in
    search rows depth 12

pub returns-then-not-s-clause-number : goal.returns-then-not-s-clause-number
unfolding survey_answer
returns-then-not-s-clause-number c =
    let good : c.if-some.good ≡ (c.args.some && c.args.s.good) = elim c.if-some.branch [ then-some w ↦ and_then w.if-some.true w.good-is | else-some w ↦ and_else c.args.s.good w.if-some.false w.good-is ] in
    search rows depth 12

pub returns-then-not-s-2-clause-number : goal.returns-then-not-s-2-clause-number
unfolding survey_answer
returns-then-not-s-2-clause-number c =
    let good : c.if-some.good ≡ (c.args.some && c.args.s.good) = elim c.if-some.branch [ then-some w ↦ and_then w.if-some.true w.good-is | else-some w ↦ and_else c.args.s.good w.if-some.false w.good-is ] in
    search rows depth 12

pub returns-in_default-clause-number : goal.returns-in_default-clause-number
unfolding survey_answer
returns-in_default-clause-number c =
    let good : c.if-some.good ≡ (c.args.some && c.args.s.good) = elim c.if-some.branch [ then-some w ↦ and_then w.if-some.true w.good-is | else-some w ↦ and_else c.args.s.good w.if-some.false w.good-is ] in
    let end : is_some c.args.s.end ≡ false = ap is_some c.in_default.is in
    search rows depth 12

pub returns : goal.returns
unfolding survey_answer
returns c =
    let good : c.if-some.good ≡ (c.args.some && c.args.s.good) = elim c.if-some.branch [ then-some w ↦ and_then w.if-some.true w.good-is | else-some w ↦ and_else c.args.s.good w.if-some.false w.good-is ] in
    let end : is_some c.args.s.end ≡ true = ap is_some c.in-Some.is in
    record { number = search rows depth 12; end = c.in-Some.is }
