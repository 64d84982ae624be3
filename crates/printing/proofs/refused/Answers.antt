-- Each call appends its part of the line, and the one that fails a beginning of it.
use Rattle.std.specs.Prelude.{codes, decimal}
use Rattle.printing.proofs.Parts.{part_of_first, part_of_second, on_err, on_err_also}
use Rattle.printing.proofs.refused.Goals as goal

pub returns-in_err-text-clause-err : goal.returns-in_err-text-clause-err
returns-in_err-text-clause-err g c = on_err _ (part_of_first _ c.in_err-text.ensures.err)

pub returns-in_err-count-clause-err : goal.returns-in_err-count-clause-err
returns-in_err-count-clause-err g c = on_err _ (part_of_second (codes "refused ") c.in_ok-text.ensures.ok (part_of_first _ c.in_err-count.ensures.err))

pub returns-in_err-text-2-clause-err : goal.returns-in_err-text-2-clause-err
returns-in_err-text-2-clause-err g c = on_err _ (part_of_second (codes "refused ") c.in_ok-text.ensures.ok (part_of_second (decimal c.args.question) c.in_ok-count.ensures.ok (part_of_first _ c.in_err-text-2.ensures.err)))

pub returns-in_err-count-2-clause-err : goal.returns-in_err-count-2-clause-err
returns-in_err-count-2-clause-err g c = on_err _ (part_of_second (codes "refused ") c.in_ok-text.ensures.ok (part_of_second (decimal c.args.question) c.in_ok-count.ensures.ok (part_of_second (codes " ") c.in_ok-text-2.ensures.ok (part_of_first _ c.in_err-count-2.ensures.err))))

pub returns-clause-err : goal.returns-clause-err
returns-clause-err g c = on_err_also _ (λ p. part_of_second (codes "refused ") c.in_ok-text.ensures.ok (part_of_second (decimal c.args.question) c.in_ok-count.ensures.ok (part_of_second (codes " ") c.in_ok-text-2.ensures.ok (part_of_second (decimal c.args.index) c.in_ok-count-2.ensures.ok p)))) c.text-3.ensures.err
