-- The end of a section, and the part before it.
use Rattle.std.proofs.Common.{arith}
use Rattle.journal.proofs.Readings.{count_there, section_ends, serial_is}
use Rattle.journal.proofs.head.serial_at.Goals as goal

pub overflow_add-at : goal.overflow_add-at
overflow_add-at c = omega (arith, count_there c.args.j.now _ c.requires, c.well_formed)

pub slice_bounds-name_of-count : goal.slice_bounds-name_of-count
slice_bounds-name_of-count c = (section_ends c.args.j.now _ c.requires c.section_end.ensures).0

pub slice_bounds-name_of-start : goal.slice_bounds-name_of-start
slice_bounds-name_of-start c = (section_ends c.args.j.now _ c.requires c.section_end.ensures).0

pub slice_bounds-name_of-end : goal.slice_bounds-name_of-end
slice_bounds-name_of-end c = (section_ends c.args.j.now _ c.requires c.section_end.ensures).1

pub returns : goal.returns
returns c =
    serial_is c.args.j.now _ c.requires c.section_end.ensures
    c.name_of.ensures
