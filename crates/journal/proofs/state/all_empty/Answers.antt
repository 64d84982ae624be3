-- `state::all_empty` meets its contract.
use Rattle.std.proofs.Common.{◌∙◌, rules, tests}
use Rattle.std.proofs.lemmas.Iterator.{YieldsList-from_slice}
use Rattle.std.proofs.lemmas.Iterator.Search.{all_from_yields_List}
use Rattle.receipt.specs.contracts.settings.NamePartialEq.TheImpl.{ghosts}
use Rattle.receipt.specs.declared.settings.Name.{Name}
use Rattle.journal.specs.State.{no_name}
use Rattle.journal.proofs.Serials.{empty_are}
use Rattle.journal.proofs.state.all_empty.Goals as goal

pub returns : goal.returns
returns c =
    all_from_yields_List (λ (n : Name). ghosts.eq n no_name) _ _ _ c.all.ensures.ran (YieldsList-from_slice c.args.names.now cc) (λ x b q k. search (rules, tests))
    ∙ empty_are c.args.names.now
