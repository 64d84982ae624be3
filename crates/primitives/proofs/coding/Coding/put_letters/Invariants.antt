-- `put_letters` meets its contract. The loop's invariant: whole groups are written, and the iterator has the rest (`Groups`).
use Rattle.primitives.specs.BaseRule.{letters_of}
use Rattle.primitives.proofs.Groups.{Groups}
use Rattle.primitives.proofs.coding.Coding.put_letters.Given as goal

abbrev pub invariant-loop-group : goal.invariant-loop-group
invariant-loop-group g l =
    let b = g.D.Digits.base l.self.digits in
    Groups (letters_of b) b.bits l.s l.initial.out l.at l.out l.end l.group-iterator.rest.now l.group-iterator.size
