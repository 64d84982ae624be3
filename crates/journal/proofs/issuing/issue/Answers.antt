-- `issuing::issue` meets its contract.
use Rattle.std.proofs.Common.{◌<◌, ap, refl, ◌∙◌, arith, rules}
use Rattle.std.proofs.lemmas.Result.{err_from_is_err_and}
use Rattle.receipt.specs.Compact.{spellable}
use Rattle.journal.specs.State.{settings_now}
use Rattle.primitives.proofs.Refusals.{numbers_are_not_zero}
use Rattle.journal.proofs.IssueCalls.{issue_refused, signature_refused, entry_taken, issue_spellable, room_refused, issue_made, issue_count, issue_place, issue_done}
use Rattle.journal.proofs.issuing.issue.Goals as goal

pub returns-in_err-ask_issue : goal.returns-in_err-ask_issue
returns-in_err-ask_issue c =
    let p = err_from_is_err_and c.from_residual.result c.from_residual.ensures.1 in
    rw (p.1, p.2) (issue_refused c.args.st c.args.d c.args.signature.now c.args.buf.now c.in_err-ask_issue.ensures (numbers_are_not_zero _))

pub returns-in_err-given : goal.returns-in_err-given
returns-in_err-given c =
    let p = err_from_is_err_and c.from_residual-in_err-given.result c.from_residual-in_err-given.ensures.1 in
    rw (p.1, p.2) (signature_refused c.args.st c.args.d c.args.signature.now c.args.buf.now c.in_ok-ask_issue.ensures refl c.in_err-given.ensures)

pub put_entry-requires : goal.put_entry-requires
put_entry-requires c =
    let t = entry_taken c.args.st c.args.d c.args.signature.now c.args.buf.now c.in_ok-ask_issue.ensures refl c.fields_of.ensures c.in_ok-given.ensures in
    ap (spellable (settings_now c.args.st) c.args.st.width) t.1 ∙ issue_spellable c.args.st c.args.d c.args.signature.now c.args.buf.now c.in_ok-ask_issue.ensures refl t.0

pub returns-in_default : goal.returns-in_default
returns-in_default c =
    let t = entry_taken c.args.st c.args.d c.args.signature.now c.args.buf.now c.in_ok-ask_issue.ensures refl c.fields_of.ensures c.in_ok-given.ensures in
    room_refused c.args.st c.args.d c.args.signature.now c.args.buf.now c.in_ok-ask_issue.ensures refl t.0 t.1 c.in_default.ensures

pub overflow_add-st : goal.overflow_add-st
overflow_add-st c =
    let t = entry_taken c.args.st c.args.d c.args.signature.now c.args.buf.now c.in_ok-ask_issue.ensures refl c.fields_of.ensures c.in_ok-given.ensures in
    let m = issue_made c.args.st c.args.d c.args.signature.now c.args.buf.now c.in_ok-ask_issue.ensures refl t.0 t.1 c.in-Some.ensures in
    omega (arith, m.start, m.end, c.well_formed)

pub slice_bounds-next-count : goal.slice_bounds-next-count
slice_bounds-next-count c =
    let t = entry_taken c.args.st c.args.d c.args.signature.now c.args.buf.now c.in_ok-ask_issue.ensures refl c.fields_of.ensures c.in_ok-given.ensures in
    let m = issue_made c.args.st c.args.d c.args.signature.now c.args.buf.now c.in_ok-ask_issue.ensures refl t.0 t.1 c.in-Some.ensures in
    m.start

pub slice_bounds-next-start : goal.slice_bounds-next-start
slice_bounds-next-start c =
    let t = entry_taken c.args.st c.args.d c.args.signature.now c.args.buf.now c.in_ok-ask_issue.ensures refl c.fields_of.ensures c.in_ok-given.ensures in
    let m = issue_made c.args.st c.args.d c.args.signature.now c.args.buf.now c.in_ok-ask_issue.ensures refl t.0 t.1 c.in-Some.ensures in
    m.start

pub slice_bounds-next-end : goal.slice_bounds-next-end
slice_bounds-next-end c =
    let t = entry_taken c.args.st c.args.d c.args.signature.now c.args.buf.now c.in_ok-ask_issue.ensures refl c.fields_of.ensures c.in_ok-given.ensures in
    let m = issue_made c.args.st c.args.d c.args.signature.now c.args.buf.now c.in_ok-ask_issue.ensures refl t.0 t.1 c.in-Some.ensures in
    omega (arith, m.end, m.same)

pub next-state-requires : goal.next-state-requires
next-state-requires c =
    let t = entry_taken c.args.st c.args.d c.args.signature.now c.args.buf.now c.in_ok-ask_issue.ensures refl c.fields_of.ensures c.in_ok-given.ensures in
    let m = issue_made c.args.st c.args.d c.args.signature.now c.args.buf.now c.in_ok-ask_issue.ensures refl t.0 t.1 c.in-Some.ensures in
    let below : c.args.d.number < 4294967296 = search rules in
    let n = issue_count c.args.st c.args.d c.args.signature.now c.args.buf.now c.in_ok-ask_issue.ensures refl t.0 below in
    (n.0, n.1, omega (arith, m.long, c.well_formed))

pub overflow_add-st-2 : goal.overflow_add-st-2
overflow_add-st-2 c =
    let t = entry_taken c.args.st c.args.d c.args.signature.now c.args.buf.now c.in_ok-ask_issue.ensures refl c.fields_of.ensures c.in_ok-given.ensures in
    let below : c.args.d.number < 4294967296 = search rules in
    let n = issue_count c.args.st c.args.d c.args.signature.now c.args.buf.now c.in_ok-ask_issue.ensures refl t.0 below in
    omega (arith, n.1)

pub put_count-requires : goal.put_count-requires
put_count-requires c =
    let t = entry_taken c.args.st c.args.d c.args.signature.now c.args.buf.now c.in_ok-ask_issue.ensures refl c.fields_of.ensures c.in_ok-given.ensures in
    let m = issue_made c.args.st c.args.d c.args.signature.now c.args.buf.now c.in_ok-ask_issue.ensures refl t.0 t.1 c.in-Some.ensures in
    omega (arith, issue_place c.args.st c.args.d c.args.signature.now c.args.buf.now c.in_ok-ask_issue.ensures refl t.0, m.same)

pub returns : goal.returns
returns c =
    let t = entry_taken c.args.st c.args.d c.args.signature.now c.args.buf.now c.in_ok-ask_issue.ensures refl c.fields_of.ensures c.in_ok-given.ensures in
    issue_done c.args.st c.args.d c.args.signature.now c.args.buf.now c.in_ok-ask_issue.ensures refl t.0 t.1 c.in-Some.ensures c.next-state.ensures c.put_count.ensures
