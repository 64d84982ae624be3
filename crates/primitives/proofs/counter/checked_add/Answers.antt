-- `checked_add` meets its contract: machine numbers stand for the numbers that they were made of.
use Rattle.std.proofs.Common.{to_z-of_z}
use Rattle.primitives.proofs.Adding.{sum_is}
use Rattle.primitives.proofs.counter.checked_add.Goals as goal

pub returns : goal.returns
returns c = let h = rw (to_z-of_z c.ranges.a, to_z-of_z c.ranges.b) at c.checked_add.ensures in sum_is c.args.a c.args.b c.checked_add.result h
