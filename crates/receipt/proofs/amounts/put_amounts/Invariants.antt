-- `amounts::put_amounts` meets its contract.
use Rattle.std.proofs.Common.{drop}
use Rattle.receipt.specs.Amount.{amounts_text}
use Rattle.primitives.proofs.Writing.{Writing}
use Rattle.receipt.proofs.amounts.put_amounts.Given as goal

abbrev pub invariant-loop-z : goal.invariant-loop-z
invariant-loop-z l = Writing l.initial.out l.at (amounts_text l.z-items) l.out l.p (amounts_text (drop l.z-index l.z-items))
