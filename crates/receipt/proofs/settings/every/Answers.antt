-- `settings::every` meets its contract.
use Rattle.std.proofs.Common.{◌∙◌, rules, tests}
use Rattle.std.proofs.lemmas.Iterator.{YieldsList-from_slice}
use Rattle.std.proofs.lemmas.Iterator.Search.{all_from_yields_List}
use Rattle.receipt.specs.Settings.{letter_good}
use Rattle.receipt.proofs.Names.{every_all}
use Rattle.receipt.proofs.settings.every.Goals as goal

pub returns : goal.returns
returns c =
    all_from_yields_List (letter_good c.args.class) _ _ _ c.all.ensures.ran (YieldsList-from_slice c.args.s.now cc) (λ x b q k. search (rules, tests))
    ∙ every_all c.args.class c.args.s.now
