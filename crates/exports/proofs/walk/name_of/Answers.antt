-- `walk::name_of` meets its contract.
use Rattle.exports.specs.Shape.{certificate_name, issuers_name, receipts_name, group_name}
use Rattle.exports.proofs.Names.{name_yes, name_no, name_none}
use Rattle.exports.proofs.walk.name_of.Goals as goal

pub returns-then-spells : goal.returns-then-spells
unfolding certificate_name
returns-then-spells c = name_yes c.spells.ensures c.if-spells.true

pub returns-then-spells-2 : goal.returns-then-spells-2
unfolding issuers_name
returns-then-spells-2 c = name_yes c.spells-2.ensures c.if-spells-2.true

pub returns-then-spells-3 : goal.returns-then-spells-3
unfolding receipts_name
returns-then-spells-3 c = name_yes c.spells-3.ensures c.if-spells-3.true

pub returns-then-spells-4 : goal.returns-then-spells-4
unfolding group_name
returns-then-spells-4 c = name_yes c.spells-4.ensures c.if-spells-4.true

pub returns : goal.returns
unfolding certificate_name issuers_name receipts_name group_name
returns c =
    name_none (name_no c.spells.ensures c.if-spells.false) (name_no c.spells-2.ensures c.if-spells-2.false)
    (name_no c.spells-3.ensures c.if-spells-3.false) (name_no c.spells-4.ensures c.if-spells-4.false)
