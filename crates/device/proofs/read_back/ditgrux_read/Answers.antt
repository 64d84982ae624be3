use Rattle.std.proofs.Common.{refl}
use Rattle.primitives.proofs.Refusals.{numbers_are_not_zero}
use Rattle.device.proofs.ReadBackCalls.{read_refused, read_room, read_done}
use Rattle.device.proofs.read_back.ditgrux_read.Goals as goal

pub returns-in-Err : goal.returns-in-Err
returns-in-Err c =
    let a = c.args in
    rw c.number.ensures
    (read_refused a.settings.now a.form.now a.details.now a.signature.now c.settings_of-s.ensures c.width_of-n.ensures c.read_entry-found.ensures
    c.in-Err.ensures.number (numbers_are_not_zero _))

pub put_details-requires : goal.put_details-requires
put_details-requires c =
    let a = c.args in
    (read_room a.settings.now a.form.now a.details.now a.signature.now c.settings_of-s.ensures c.width_of-n.ensures c.read_entry-found.ensures
    c.in-Ok.ensures.number refl).0

pub put_signature-requires : goal.put_signature-requires
put_signature-requires c =
    let a = c.args in
    (read_room a.settings.now a.form.now a.details.now a.signature.now c.settings_of-s.ensures c.width_of-n.ensures c.read_entry-found.ensures
    c.in-Ok.ensures.number refl).1

pub returns-in-Ok : goal.returns-in-Ok
returns-in-Ok c =
    let a = c.args in
    let found = rw c.in-Ok.ensures.entry at c.read_entry-found.ensures in
    let number = rw c.in-Ok.ensures.entry at c.in-Ok.ensures.number in
    read_done a.settings.now a.form.now a.details.now a.signature.now c.settings_of-s.ensures c.width_of-n.ensures found
    number refl c.put_details.ensures c.put_signature.ensures
