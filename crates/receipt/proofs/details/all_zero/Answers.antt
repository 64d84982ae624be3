-- `details::all_zero` meets its contract.
use Rattle.std.proofs.Common.{◌≡◌, length, rules, ◌∙◌}
use Rattle.receipt.proofs.Counting.{zeros_are}
use Rattle.receipt.proofs.details.all_zero.Goals as goal

pub returns : goal.returns
returns c =
    let five : length c.args.a ≡ 5 = search rules in
    c.eq.ensures ∙ zeros_are c.args.a five
