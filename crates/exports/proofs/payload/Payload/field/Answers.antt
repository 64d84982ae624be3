-- `Payload::field` meets its contract.
use Rattle.std.proofs.Common.{ap, ◌∙◌}
use Rattle.receipt.specs.Settings.{name_of}
use Rattle.exports.proofs.PayloadMarks.{place_ordered, field_is}
use Rattle.exports.proofs.payload.Payload.field.Goals as goal

pub name-requires : goal.name-requires
name-requires c = record { ordered = place_ordered _ _ c.next_mark.ensures.at; inside = c.next_mark.ensures.inside }

pub returns : goal.returns
returns c = c.name.ensures ∙ ap name_of (field_is _ _ _ c.skip_marks-a.ensures c.next_mark.ensures.at)
