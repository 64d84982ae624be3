-- A turn that is not refused goes on.
use Rattle.std.proofs.Common.{refl, ◌∙◌, arith, ℕ, ◌+◌, ◌-◌, ◌≡◌, ap}
use Rattle.journal.specs.Checking.{steps}
use Rattle.journal.proofs.CheckCalls.{turn_yes, turn_steady}
use Rattle.journal.proofs.checking.steps_from.Goals as goal

pub loop-preserved : goal.loop-preserved
loop-preserved c =
    let left : c.args.n - c.loop.counter - 1 ≡ c.args.n - (c.loop.counter + 1) = omega arith in
    record {
      steady = turn_steady _ c.loop.state c.args.journal.now c.in-Ok.ensures refl c.loop.invariant.steady;
      same =
          c.loop.invariant.same
          ∙ (turn_yes _ c.loop.state c.args.journal.now c.in-Ok.ensures refl (c.args.n - c.loop.counter) (omega arith)
          ∙ ap (λ (m : ℕ). steps c.counter_key.result m c.in-Ok.step.state c.args.journal.now) left);
    }
