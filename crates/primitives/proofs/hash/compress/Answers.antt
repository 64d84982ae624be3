-- `compress` meets its contract.
use Rattle.std.proofs.Common.{ℕ, List, ap, ◌∙◌}
use Rattle.primitives.specs.declared.hash.HashValue.{HashValue}
use Rattle.primitives.specs.Sha256 as S
use Rattle.primitives.proofs.hash.compress.Goals as goal

pub returns : goal.returns
unfolding S.compress
returns c =
    let s = c.args.s in
    c.sums.ensures
    ∙ ap (λ (v : HashValue). S.sums v s) (c.rounds.ensures ∙ ap (λ (W : List ℕ). S.rounds s W 0 64) c.schedule.ensures)
