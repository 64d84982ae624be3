-- What is read, then the questions, then the state after the entry.
use Rattle.std.proofs.Common.{rules, arith, refl, sym, ap, ◌∙◌, ◌^◌, ◌<◌}
use Rattle.std.proofs.lemmas.Result.{err_from_is_err_and}
use Rattle.receipt.specs.Compact.{read_entry}
use Rattle.receipt.specs.declared.settings.Settings.{Settings}
use Rattle.receipt.proofs.Entries.{none_found}
use Rattle.journal.proofs.CheckCalls.{above_of, text_unread, text_refused, text_passed}
use Rattle.journal.proofs.checking.check_text.Goals as goal

pub returns-in_default : goal.returns-in_default
returns-in_default c =
    let read = c.in_default.ensures ∙ ap (λ (x : Settings). read_entry x c.args.st.width c.args.text.now) c.settings_now.ensures in
    text_unread _ c.args.st c.args.text.now read none_found

pub returns-in_err-ask_context : goal.returns-in_err-ask_context
returns-in_err-ask_context c =
    let read = c.in-Some.ensures ∙ ap (λ (x : Settings). read_entry x c.args.st.width c.args.text.now) c.settings_now.ensures in
    let p = err_from_is_err_and c.from_residual.result c.from_residual.ensures.1 in
    rw (p.1, p.2) (text_refused _ c.args.st c.args.text.now read refl c.in_err-ask_context.field-0.0 c.in_err-ask_context.ensures)

pub next-state-requires : goal.next-state-requires
next-state-requires c =
    let small : c.in-Some.entry.fields.details.number < 2 ^ 32 = search rules in
    let a = above_of _ c.args.st c.in-Some.entry.fields (sym c.in_ok-ask_context.ensures) in
    let n = small in
    (omega (arith, a, c.requires.0, n), omega (arith, a, c.requires.0, c.requires.1, n), c.requires.2)

pub returns : goal.returns
returns c =
    let read = c.in-Some.ensures ∙ ap (λ (x : Settings). read_entry x c.args.st.width c.args.text.now) c.settings_now.ensures in
    text_passed _ c.args.st c.args.text.now read refl c.in_ok-ask_context.ensures c.next-state.ensures
