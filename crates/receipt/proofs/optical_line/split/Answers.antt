-- Each mark is the last one before the mark that was found.
use Rattle.receipt.proofs.LineCalls.{no_fourth, no_third_mark, no_second_mark, no_first_mark, four_marks}
use Rattle.receipt.proofs.optical_line.split.Goals as goal

pub returns-in_err-text : goal.returns-in_err-text
returns-in_err-text c = rw c.from_residual.ensures (no_fourth c.args.text.now c.in_err-text.ensures)

pub returns-in_err-text-2 : goal.returns-in_err-text-2
returns-in_err-text-2 c =
    rw c.from_residual-in_err-text-2.ensures (no_third_mark c.args.text.now c.in_ok-text.ensures c.in_err-text-2.ensures)

pub returns-in_err-text-3 : goal.returns-in_err-text-3
returns-in_err-text-3 c =
    rw c.from_residual-in_err-text-3.ensures (no_second_mark c.args.text.now c.in_ok-text.ensures c.in_ok-text-2.ensures c.in_err-text-3.ensures)

pub returns-in_err-start : goal.returns-in_err-start
returns-in_err-start c =
    rw c.from_residual-in_err-start.ensures
    (no_first_mark c.args.text.now c.in_ok-text.ensures c.in_ok-text-2.ensures c.in_ok-text-3.ensures c.in_err-start.ensures)

pub returns : goal.returns
returns c = four_marks c.args.text.now c.in_ok-text.ensures c.in_ok-text-2.ensures c.in_ok-text-3.ensures c.in_ok-start.ensures
