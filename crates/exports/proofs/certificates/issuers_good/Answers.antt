-- `certificates::issuers_good` meets its contract.
use Rattle.exports.specs.Text.{every}
use Rattle.exports.specs.Shape.{string}
use Rattle.exports.specs.Reading.{canonical}
use Rattle.exports.proofs.Arrays.{string_opens}
use Rattle.exports.proofs.Passing.{pass_start}
use Rattle.exports.proofs.Quads.{issuers_bad, issuers_more, issuers_end}
use Rattle.exports.proofs.certificates.issuers_good.Goals as goal

pub loop-c-init : goal.loop-c-init
loop-c-init c = pass_start string (every canonical) c.args.text.now c.args.at _ string_opens c.begin-c.ensures

pub returns-then-not-canonical_at : goal.returns-then-not-canonical_at
returns-then-not-canonical_at c = issuers_bad c.loop-c.invariant c.in-Item.is c.in-Some.ensures c.canonical_at.ensures c.if-not-canonical_at.true

pub loop-c-preserved : goal.loop-c-preserved
loop-c-preserved c = issuers_more c.loop-c.invariant c.in-Item.is c.in-Some.ensures c.canonical_at.ensures _ c.if-not-canonical_at.false c.follow-c.ensures

pub returns : goal.returns
returns c = issuers_end c.loop-c.invariant c.in_default.not-Item
