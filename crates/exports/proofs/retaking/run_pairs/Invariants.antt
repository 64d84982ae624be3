-- `retaking::run_pairs` meets its contract.
use Rattle.std.proofs.Common.{ℕ, ◌≡◌, not, List, [], ◌∷◌, ◌++◌}
use Rattle.exports.specs.Text.{mark}
use Rattle.exports.specs.Shape.{array, Written, written, document}
use Rattle.exports.specs.Places.{from}
use Rattle.exports.proofs.Arrays.{remains}
use Rattle.exports.proofs.Passing.{Passing}
use Rattle.exports.proofs.RunsAlong.{run_written}
use Rattle.exports.proofs.retaking.run_pairs.Given as goal

abbrev pub invariant-loop-c : goal.invariant-loop-c
invariant-loop-c l =
    (g : ℕ) × ((ws : List Written) → from l.text 0 ≡ document ws → from l.text g ≡ array written ws ++ (mark 125 ∷ []))
    × (Passing written (run_written l.schedule (not l.initial.later) l.initial.state) (run_written l.schedule (not l.later) l.state) l.text g l.c)

abbrev pub decreases-loop-c : goal.decreases-loop-c
decreases-loop-c l = remains l.text l.c
