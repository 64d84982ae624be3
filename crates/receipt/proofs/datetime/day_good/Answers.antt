-- `datetime::day_good` meets its contract.
use Rattle.std.proofs.Common.{◌≤◌, arith, rules}
use Rattle.std.proofs.lemmas.Grind.{common_steps}
use Rattle.receipt.specs.DateTime.{day_good}
use Rattle.receipt.proofs.datetime.day_good.Goals.{then-contains, else-contains}
use Rattle.receipt.proofs.datetime.day_good.Goals as goal

pub returns-then-contains-2 : goal.returns-then-contains-2
unfolding day_good
returns-then-contains-2 c =
    let least : 2000 ≤ c.args.t.year = elim c.if-contains.branch [ then-contains w ↦ search rules | else-contains w ↦ cc ] in
    let most : c.args.t.year ≤ 2099 = elim c.if-contains.branch [ then-contains w ↦ search rules | else-contains w ↦ cc ] in
    grind (arith, common_steps)
