-- `head::Head::length` meets its contract.
use Rattle.std.proofs.Common.{arith}
use Rattle.receipt.proofs.Names.{good_settings}
use Rattle.journal.proofs.head.Head.length.Goals as goal

pub overflow_add-result : goal.overflow_add-result
overflow_add-result c = let g = good_settings _ c.args.self.good in omega (arith, g.id.most)

pub overflow_add-result-2 : goal.overflow_add-result-2
overflow_add-result-2 c = let g = good_settings _ c.args.self.good in omega (arith, g.id.most, g.serial.most)
