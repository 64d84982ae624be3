-- `decimal::width` meets its contract.
use Rattle.std.proofs.Common.{◌+◌, ℕ, ap, ◌∙◌, arith}
use Rattle.receipt.proofs.Digits.{width_from}
use Rattle.receipt.proofs.decimal.width.Goals as goal

pub returns : goal.returns
returns c =
    let log = c.checked_ilog10 in
    ap (λ (k : ℕ). k + 1) c.unwrap_or.ensures ∙ width_from c.args.n log.result (omega arith) log.ensures.none log.ensures.power_le log.ensures.next_power_gt
