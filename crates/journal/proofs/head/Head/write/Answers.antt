-- Two sections, and the start of a pair.
use Rattle.std.proofs.Common.{rules, arith}
use Rattle.receipt.proofs.Names.{good_settings}
use Rattle.receipt.specs.Settings.{SettingsLengths}
use Rattle.journal.proofs.OpenCalls.{csp_room, id_room, pair_room, put_head}
use Rattle.journal.proofs.head.Head.write.Goals as goal

pub put_section-requires : goal.put_section-requires
put_section-requires c =
    let typed : SettingsLengths c.args.self.settings = record { csp = search rules; id = search rules; serial = search rules } in
    csp_room c.args.self.settings typed c.args.buf.now c.args.self.good c.requires

pub shared_ref_as_front-put_section : goal.shared_ref_as_front-put_section
shared_ref_as_front-put_section c =
    let typed : SettingsLengths c.args.self.settings = record { csp = search rules; id = search rules; serial = search rules } in
    omega
    (arith, typed.id, (good_settings _ c.args.self.good).id.most)

pub put_section-requires-2 : goal.put_section-requires-2
put_section-requires-2 c =
    let typed : SettingsLengths c.args.self.settings = record { csp = search rules; id = search rules; serial = search rules } in
    id_room c.args.self.settings typed c.args.buf.now c.args.self.good c.requires
    c.put_section.new.buf (search rules)

pub overflow_add-id : goal.overflow_add-id
overflow_add-id c =
    omega
    (arith, (good_settings _ c.args.self.good).id.most)

pub put_start-requires : goal.put_start-requires
put_start-requires c =
    let typed : SettingsLengths c.args.self.settings = record { csp = search rules; id = search rules; serial = search rules } in
    pair_room c.args.self.settings typed c.args.buf.now c.args.self.good c.requires
    c.put_section-2.new.buf (search rules)

pub returns : goal.returns
returns c =
    let typed : SettingsLengths c.args.self.settings = record { csp = search rules; id = search rules; serial = search rules } in
    put_head c.args.self.settings typed c.args.buf.now c.args.self.good c.requires
    c.put_section.ensures
    c.put_section-2.ensures c.put_start.ensures
