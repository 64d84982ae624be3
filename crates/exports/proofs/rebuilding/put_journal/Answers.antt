-- `rebuilding::put_journal` meets its contract.
use Rattle.std.proofs.Common.{◌≡◌, ◌∙◌, length, arith, ap, rules}
use Rattle.primitives.specs.Place.{overwrite}
use Rattle.exports.specs.Reading.{journal_of_elements}
use Rattle.exports.specs.Output.{Out}
use Rattle.exports.proofs.Carrying.{pairs_start, pairs_next, journal_put, journal_missing}
use Rattle.exports.proofs.rebuilding.put_journal.Goals as goal

pub loop-c-init : goal.loop-c-init
loop-c-init c = pairs_start c.begin_group-c.ensures

pub returns-in_default-put_element : goal.returns-in_default-put_element
returns-in_default-put_element c es s o l = journal_missing c.loop-c.invariant c.in-Item.is c.in_default-put_element.ensures es s

pub loop-c-preserved : goal.loop-c-preserved
loop-c-preserved c = pairs_next c.loop-c.invariant c.in-Item.is c.in-Some.ensures _ c.follow-c.ensures

pub returns : goal.returns
returns c es s o l =
    let e = c.new-w.ensures in
    let h : c.loop-c.w.out.now ≡ overwrite c.args.out.now 0 (journal_of_elements es)
    = journal_put c.loop-c.invariant (ap (λ (x : Out). x.at) e) c.put_owner.ensures c.in_default.not-Item es s o (omega (arith, l, ap (λ (x : Out). length x.bytes) e))
    ∙ ap (λ (x : Out). overwrite x.bytes 0 (journal_of_elements es)) e in
    search rules
