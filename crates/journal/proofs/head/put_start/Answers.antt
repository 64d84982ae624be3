-- The section of the serial, then the count.
use Rattle.std.proofs.Common.{◌≡◌, length, rules, arith}
use Rattle.receipt.specs.declared.settings.Letters.TheVariants.{Serial}
use Rattle.receipt.proofs.Names.{good_name}
use Rattle.journal.proofs.OpenCalls.{lent_room, put_start}
use Rattle.journal.proofs.head.put_start.Goals as goal

pub shared_ref_as_front-put_section : goal.shared_ref_as_front-put_section
shared_ref_as_front-put_section c =
    let long : length c.args.serial.bytes ≡ 32 = search rules in
    omega (arith, long, (good_name Serial _ c.requires.0).most)

pub put_section-requires : goal.put_section-requires
put_section-requires c =
    let long : length c.args.serial.bytes ≡ 32 = search rules in
    lent_room c.args.serial long c.requires.0 c.args.buf.now _ c.requires.1

pub overflow_add-at : goal.overflow_add-at
overflow_add-at c =
    omega
    (arith, c.requires.1, c.well_formed)

pub overflow_add-at-2 : goal.overflow_add-at-2
overflow_add-at-2 c =
    omega
    (arith, c.requires.1, c.well_formed)

pub returns : goal.returns
returns c =
    let long : length c.args.serial.bytes ≡ 32 = search rules in
    put_start c.args.serial long c.requires.0 c.args.buf.now _ c.requires.1
    c.put_section.ensures c.put_count.ensures
