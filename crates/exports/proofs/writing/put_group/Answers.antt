-- `writing::put_group` meets its contract.
use Rattle.std.proofs.Common.{◌≡◌, ◌≤◌, ◌<◌, length, get_or, sym, ◌∙◌, rules}
use Rattle.exports.specs.Writing.{before_issuers, before_receipts}
use Rattle.exports.proofs.Exporting.{group_none, group_zero, group_unsigned, group_unlisted, group_put}
use Rattle.exports.proofs.writing.put_group.Goals as goal

pub returns-in_err-count : goal.returns-in_err-count
returns-in_err-count g c = let h : length c.args.groups.now ≤ c.args.at = search rules in rw c.from_residual.ensures (group_none _ _ _ _ _ h)

pub returns-then-count-eq0 : goal.returns-then-count-eq0
returns-then-count-eq0 g c =
    let e : c.in_ok-count.field-0.now ≡ get_or c.args.groups.now c.args.at 0 = search rules in
    let h : c.args.at < length c.args.groups.now = search rules in
    group_zero _ _ _ _ _ h (sym e ∙ c.if-count-eq0.true)

pub returns-in_err-issuers : goal.returns-in_err-issuers
returns-in_err-issuers g c =
    let h : c.args.at < length c.args.groups.now = search rules in
    rw c.from_residual-in_err-issuers.ensures (group_unsigned _ _ _ _ _ h c.in_err-issuers.ensures)

pub returns-in_err-end : goal.returns-in_err-end
unfolding before_issuers
returns-in_err-end g c =
    let e : c.in_ok-count.field-0.now ≡ get_or c.args.groups.now c.args.at 0 = search rules in
    let h : c.args.at < length c.args.groups.now = search rules in
    rw c.from_residual-in_err-end.ensures (group_unlisted _ _ _ _ _ h e c.in_ok-issuers.ensures c.put.ensures c.in_err-end.ensures)

pub returns : goal.returns
unfolding before_issuers before_receipts
returns g c =
    let e : c.in_ok-count.field-0.now ≡ get_or c.args.groups.now c.args.at 0 = search rules in
    let h : c.args.at < length c.args.groups.now = search rules in
    group_put _ _ _ _ _ h e c.in_ok-issuers.ensures c.put.ensures c.in_ok-end.ensures c.put-2.ensures
