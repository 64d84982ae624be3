-- Turn by turn, the steps that are left give the same.
use Rattle.std.proofs.Common.{◌≡◌, ◌-◌}
use Rattle.primitives.specs.Aes.{key_schedule}
use Rattle.journal.specs.Checking.{Steady, steps}
use Rattle.journal.proofs.checking.steps_from.Given as goal

abbrev pub invariant-loop : goal.invariant-loop
invariant-loop l =
    record {
      steady : Steady l.state l.journal;
      same : steps (key_schedule l.fn.start.key) l.n l.fn.start l.journal ≡ steps l.schedule (l.n - l.counter) l.state l.journal;
    }
