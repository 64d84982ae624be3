use Rattle.std.proofs.Common.{◌≡◌, eqb, length, rules, tests}
use Rattle.std.proofs.lemmas.Iterator.{YieldsList-from_slice}
use Rattle.std.proofs.lemmas.Iterator.Search.{position_from_yields_List}
use Rattle.receipt.specs.declared.settings.Name.{Name}
use Rattle.journal.proofs.Serials.{used_before}
use Rattle.journal.proofs.state.used.Goals as goal

pub returns : goal.returns
returns c =
    let len : length c.args.slots.now ≡ 8 = search rules in
    let p = position_from_yields_List (λ (n : Name). eqb n.len 0) _ _ c.position.result c.position.ensures.ran (YieldsList-from_slice c.args.slots.now cc) (λ x b q k. search (rules, tests)) in
    used_before c.args.slots.now c.position.result c.unwrap_or-k.result len p c.unwrap_or-k.ensures
