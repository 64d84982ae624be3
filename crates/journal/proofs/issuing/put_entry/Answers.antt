-- `issuing::put_entry` meets its contract.
use Rattle.std.proofs.Common.{ap, not, length, ◌+◌, arith}
use Rattle.journal.proofs.IssueCalls.{moved, compact_some, as_compact, entry_short, entry_full, entry_placed}
use Rattle.primitives.proofs.Questions.{at_most, above}
use Rattle.journal.proofs.issuing.put_entry.Goals as goal

pub returns-then-not-has_room : goal.returns-then-not-has_room
returns-then-not-has_room c = entry_short _ c.args.buf.now c.args.st.length (compact_some _ _ _) (above _ _ c.has_room.ensures (ap not c.if-not-has_room.true))

pub overflow_add-start : goal.overflow_add-start
overflow_add-start c = omega (arith, at_most (c.args.st.length + 2) (length c.args.buf.now) c.has_room.ensures (ap not c.if-not-has_room.false), c.well_formed)

pub returns-then-end-start : goal.returns-then-end-start
returns-then-end-start c =
    let w = as_compact _ _ _ c.requires c.args.buf.now (c.args.st.length + 2) c.settings_now.ensures c.put_compact-end.ensures in
    entry_full _ c.args.buf.now c.args.st.length (compact_some _ _ _) w c.if-end-start.true

pub overflow_sub-end : goal.overflow_sub-end
overflow_sub-end c =
    let w = as_compact _ _ _ c.requires c.args.buf.now (c.args.st.length + 2) c.settings_now.ensures c.put_compact-end.ensures in
    let m = moved _ _ _ w c.if-end-start.false in
    omega (arith, m.end)

pub returns : goal.returns
returns c =
    let w = as_compact _ _ _ c.requires c.args.buf.now (c.args.st.length + 2) c.settings_now.ensures c.put_compact-end.ensures in
    entry_placed _ c.args.buf.now c.args.st.length (compact_some _ _ _) w c.if-end-start.false c.put_number.ensures.1
