-- `amount::read_amount` meets its contract.
use Rattle.std.proofs.Common.{sym, ◌∙◌}
use Rattle.receipt.proofs.Cents.{read_below, read_from}
use Rattle.receipt.proofs.amount.read_amount.Goals as goal

pub returns-then-starts_with : goal.returns-then-starts_with
returns-then-starts_with c =
    read_below c.value_of-cents.ensures.1 _ c.value_of-cents.ensures.0 (sym c.starts_with.ensures.value ∙ c.if-starts_with.true)

pub returns-else-starts_with : goal.returns-else-starts_with
returns-else-starts_with c =
    read_from c.value_of-cents.ensures.1 _ c.value_of-cents.ensures.0 (sym c.starts_with.ensures.value ∙ c.if-starts_with.false)
