-- A number that is there.
use Rattle.std.proofs.Common.{◌≡◌, ℕ, ◌+◌, ◌≤◌, ◌<◌, List, length, sym, ◌∙◌, arith}
use Rattle.std.specs.Prelude.{Option, Some, None}
use Rattle.std.specs.Option.{unwrap_or}
use Rattle.primitives.specs.Bytes.{AllBytes}
use Rattle.primitives.specs.Number.{number_at, count_at}
use Rattle.primitives.proofs.Counts.{count_found, count-missing}
use Rattle.journal.proofs.head.count_at.Goals as goal

read : (j : List ℕ) (at n : ℕ) → n ≤ 4 → at + n ≤ length j → AllBytes j → (r : Option ℕ) {v : ℕ} → r ≡ number_at j at n → v ≡ unwrap_or r 0
    → (v ≡ count_at j at n) × (v < 4294967296)
read j at n few room b (Some x) e u = let f = count_found j at n few b (sym e) in (u ∙ f.0, omega (arith, u, f.1))
read j at n few room b None e u = count-missing j at n few room (sym e)

pub returns : goal.returns
returns c =
    read c.args.j.now c.args.at c.args.n c.requires.0 c.requires.1 (record { at = λ i. (c.type_inv.j i).fits }) c.number_at.result c.number_at.ensures c.unwrap_or.ensures
