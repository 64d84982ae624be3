-- `state::all_good` meets its contract.
use Rattle.std.proofs.Common.{◌∙◌, rules, tests}
use Rattle.std.proofs.lemmas.Iterator.{YieldsList-from_slice}
use Rattle.std.proofs.lemmas.Iterator.Search.{all_from_yields_List}
use Rattle.receipt.specs.Settings.{serial_good}
use Rattle.journal.proofs.Serials.{good_are}
use Rattle.journal.proofs.state.all_good.Goals as goal

pub returns : goal.returns
returns c =
    all_from_yields_List serial_good _ _ _ c.all.ensures.ran (YieldsList-from_slice c.args.names.now cc) (λ x b q k. search (rules, tests))
    ∙ good_are c.args.names.now
