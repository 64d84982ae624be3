-- The end of a section, its part, and the serial after it.
use Rattle.std.proofs.Common.{◌≤◌, length, arith}
use Rattle.journal.proofs.Readings.{id_room, second_room, id_ends, settings_read}
use Rattle.journal.proofs.head.head_settings.Goals as goal

pub section_end-id_end-requires : goal.section_end-id_end-requires
section_end-id_end-requires c = id_room c.args.j.now c.requires.0 c.requires.1

pub slice_bounds-name_of-count : goal.slice_bounds-name_of-count
slice_bounds-name_of-count c =
    let ends : (11 ≤ c.section_end-id_end.result) × (c.section_end-id_end.result ≤ length c.args.j.now) = id_ends c.args.j.now c.requires.0 c.requires.1 c.section_end-id_end.ensures in
    ends.0

pub slice_bounds-name_of-start : goal.slice_bounds-name_of-start
slice_bounds-name_of-start c =
    let ends : (11 ≤ c.section_end-id_end.result) × (c.section_end-id_end.result ≤ length c.args.j.now) = id_ends c.args.j.now c.requires.0 c.requires.1 c.section_end-id_end.ensures in
    ends.0

pub slice_bounds-name_of-end : goal.slice_bounds-name_of-end
slice_bounds-name_of-end c =
    let ends : (11 ≤ c.section_end-id_end.result) × (c.section_end-id_end.result ≤ length c.args.j.now) = id_ends c.args.j.now c.requires.0 c.requires.1 c.section_end-id_end.ensures in
    ends.1

pub serial_at-requires : goal.serial_at-requires
serial_at-requires c =
    second_room c.args.j.now c.requires.0
    c.requires.1 c.section_end-id_end.ensures

pub bounds-j-4 : goal.bounds-j-4
bounds-j-4 c =
    let ends : (11 ≤ c.section_end-id_end.result) × (c.section_end-id_end.result ≤ length c.args.j.now) = id_ends c.args.j.now c.requires.0 c.requires.1 c.section_end-id_end.ensures in
    omega (arith, ends)

pub bounds-j-5 : goal.bounds-j-5
bounds-j-5 c =
    let ends : (11 ≤ c.section_end-id_end.result) × (c.section_end-id_end.result ≤ length c.args.j.now) = id_ends c.args.j.now c.requires.0 c.requires.1 c.section_end-id_end.ensures in
    omega (arith, ends)

pub bounds-j-6 : goal.bounds-j-6
bounds-j-6 c =
    let ends : (11 ≤ c.section_end-id_end.result) × (c.section_end-id_end.result ≤ length c.args.j.now) = id_ends c.args.j.now c.requires.0 c.requires.1 c.section_end-id_end.ensures in
    omega (arith, ends)

pub returns : goal.returns
returns c =
    settings_read c.args.j.now
    c.requires.0
    c.requires.1
    c.section_end-id_end.ensures c.name_of.ensures
    c.serial_at.ensures
