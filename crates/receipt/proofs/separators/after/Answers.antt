-- `separators::after` meets its contract.
use Rattle.std.proofs.Common.{◌+◌, sym, ◌∙◌, eqb, rules, tests}
use Rattle.std.proofs.lemmas.Iterator.{YieldsList-from_slice}
use Rattle.std.proofs.lemmas.Iterator.Search.{position_from_yields_List}
use Rattle.receipt.proofs.Joined.{after_some, after_none}
use Rattle.receipt.proofs.Loose.{rest_lent}
use Rattle.receipt.proofs.separators.after.Goals as goal

pub returns-in-None : goal.returns-in-None
returns-in-None c =
    let found = position_from_yields_List (λ b. eqb b 95) _ _ c.position.result c.position.ensures.ran (YieldsList-from_slice c.args.text.now cc) (λ x b q k. search (rules, tests)) in
    after_none c.args.text.now (sym c.in-None.is ∙ found)

pub returns-in-Some : goal.returns-in-Some
returns-in-Some c =
    let found = position_from_yields_List (λ b. eqb b 95) _ _ c.position.result c.position.ensures.ran (YieldsList-from_slice c.args.text.now cc) (λ x b q k. search (rules, tests)) in
    rest_lent c.args.text.now (c.in-Some.n + 1) ∙ (after_some c.args.text.now (sym c.in-Some.is ∙ found)).1
