-- A payload has room in a buffer of the longest.
use Rattle.std.proofs.Common.{◌≡◌, length, ap, not, rules, arith}
use Rattle.receipt.specs.Payload.{longest_payload}
use Rattle.receipt.specs.Settings.{SettingsLengths}
use Rattle.receipt.proofs.Written.{Sizes}
use Rattle.primitives.proofs.Rows.{not_no, not_yes}
use Rattle.receipt.proofs.EntryCalls.{payload_none, payload_room, payload_some}
use Rattle.receipt.proofs.entry.write_payload.Goals as goal

pub returns-then-not-preparable : goal.returns-then-not-preparable
returns-then-not-preparable c =
    payload_none c.args.s c.args.n c.args.f (not_no _ _ c.preparable.ensures (ap not c.if-not-preparable.true))

pub put_payload-m-requires : goal.put_payload-m-requires
put_payload-m-requires c =
    let settings : SettingsLengths c.args.s = record { csp = search rules; id = search rules; serial = search rules } in
    let sizes : Sizes c.args.f = record { number = search rules; amounts = search rules; counter = search rules; chain = search rules } in
    payload_room c.args.s c.args.n c.args.f settings sizes c.args.buffer.now (search rules)
    (not_yes _ _ c.preparable.ensures (ap not c.if-not-preparable.false))

pub shared_ref_as_front-result : goal.shared_ref_as_front-result
shared_ref_as_front-result c =
    let settings : SettingsLengths c.args.s = record { csp = search rules; id = search rules; serial = search rules } in
    let sizes : Sizes c.args.f = record { number = search rules; amounts = search rules; counter = search rules; chain = search rules } in
    let long : length c.args.buffer.now ≡ longest_payload = search rules in
    let h =
    payload_some c.args.s c.args.n c.args.f settings sizes c.args.buffer.now long
    (not_yes _ _ c.preparable.ensures (ap not c.if-not-preparable.false)) c.put_payload-m.ensures in
    omega (arith, h.0, long)

pub returns : goal.returns
returns c =
    let settings : SettingsLengths c.args.s = record { csp = search rules; id = search rules; serial = search rules } in
    let sizes : Sizes c.args.f = record { number = search rules; amounts = search rules; counter = search rules; chain = search rules } in
    (payload_some c.args.s c.args.n c.args.f settings sizes c.args.buffer.now (search rules)
    (not_yes _ _ c.preparable.ensures (ap not c.if-not-preparable.false)) c.put_payload-m.ensures).1
