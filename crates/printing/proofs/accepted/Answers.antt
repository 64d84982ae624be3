-- Each call appends its part of the line, and the one that fails a beginning of it.
use Rattle.std.specs.Prelude.{codes, decimal}
use Rattle.std.specs.Fmt.{signed_decimal}
use Rattle.std.specs.Io.KnownBytes.{Appends}
use Rattle.std.proofs.lemmas.Int.{to_z-of_z}
use Rattle.std.proofs.KnownBytes.{Appends-trans}
use Rattle.printing.proofs.Parts.{part_of_first, part_of_second, on_err, on_err_also, on_ok_also}
use Rattle.printing.proofs.accepted.Goals as goal

pub returns-in_err-text-clause-err : goal.returns-in_err-text-clause-err
returns-in_err-text-clause-err g c = on_err _ (part_of_first _ c.in_err-text.ensures.err)

pub returns-in_err-count-clause-err : goal.returns-in_err-count-clause-err
returns-in_err-count-clause-err g c = on_err _ (part_of_second (codes "accepted ") c.in_ok-text.ensures.ok (part_of_first _ c.in_err-count.ensures.err))

pub returns-in_err-text-2-clause-err : goal.returns-in_err-text-2-clause-err
returns-in_err-text-2-clause-err g c = on_err _ (part_of_second (codes "accepted ") c.in_ok-text.ensures.ok (part_of_second (decimal c.args.receipts) c.in_ok-count.ensures.ok (part_of_first _ c.in_err-text-2.ensures.err)))

pub returns-in_err-cents-clause-err : goal.returns-in_err-cents-clause-err
returns-in_err-cents-clause-err g c =
    let fits = c.ranges.counter in
    let cents = simp to_z-of_z at c.in_err-cents.ensures.err in
    on_err _ (part_of_second (codes "accepted ") c.in_ok-text.ensures.ok (part_of_second (decimal c.args.receipts) c.in_ok-count.ensures.ok (part_of_second (codes " ") c.in_ok-text-2.ensures.ok (part_of_first _ cents))))

pub returns-clause-err : goal.returns-clause-err
returns-clause-err g c =
    let fits = c.ranges.counter in
    let cents = simp to_z-of_z at c.in_ok-cents.ensures.ok in
    on_err_also _ (λ p. part_of_second (codes "accepted ") c.in_ok-text.ensures.ok (part_of_second (decimal c.args.receipts) c.in_ok-count.ensures.ok (part_of_second (codes " ") c.in_ok-text-2.ensures.ok (part_of_second (signed_decimal c.args.counter) cents p)))) c.text-3.ensures.err

pub returns-clause-ok : goal.returns-clause-ok
returns-clause-ok g c =
    let fits = c.ranges.counter in
    let cents = simp to_z-of_z at c.in_ok-cents.ensures.ok in
    on_ok_also c.text-3.result (λ (p : Appends (g.W.Write.contents c.cents.new.out) (g.W.Write.contents c.text-3.new.out) (codes "\n")). Appends-trans _ _ _ (codes "accepted ") _ c.in_ok-text.ensures.ok (Appends-trans _ _ _ (decimal c.args.receipts) _ c.in_ok-count.ensures.ok (Appends-trans _ _ _ (codes " ") _ c.in_ok-text-2.ensures.ok (Appends-trans _ _ _ (signed_decimal c.args.counter) _ cents p)))) c.text-3.ensures.ok
