-- `amounts::amounts_good` meets its contract.
use Rattle.std.proofs.Common.{◌∙◌, rules, tests}
use Rattle.std.proofs.lemmas.Iterator.{YieldsList-from_slice}
use Rattle.std.proofs.lemmas.Iterator.Search.{all_from_yields_List}
use Rattle.receipt.specs.Amount.{within_limit}
use Rattle.receipt.proofs.Joined.{all_good}
use Rattle.receipt.proofs.amounts.amounts_good.Goals as goal

pub returns : goal.returns
returns c =
    all_from_yields_List within_limit _ _ _ c.all.ensures.ran (YieldsList-from_slice c.args.a cc) (λ x b q k. search (rules, tests))
    ∙ all_good c.args.a
