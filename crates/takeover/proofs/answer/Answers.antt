-- The bytes after the key are the journal, and the line is that of its take-over.
use Rattle.std.proofs.Common.{rules, OnOk, ◌≡◌, ◌-◌, ◌≤◌, length, nat_lt, take_all, length-drop, le_refl, take, drop, sym, ap, ◌∙◌, subst, if◌then◌else◌}
use Rattle.std.specs.Prelude.{OnErr, slice_index, List, ℕ, false}
use Rattle.std.specs.Io.KnownBytes.{Appends}
use Rattle.printing.specs.Line.{AppendsPart, refused_line}
use Rattle.journal.specs.Checking.{take_over}
use Rattle.journal.specs.State.{as_taken_over}
use Rattle.takeover.specs.Answer.{line_of, answer_to}
use Rattle.takeover.proofs.answer.Given as Given
use Rattle.takeover.proofs.answer.Goals as goal

whole : (k : ℕ) (xs : List ℕ) → take (length xs - k) (drop k xs) ≡ drop k xs
whole k xs = let e = length-drop k xs in take_all (length xs - k) (drop k xs) (rw e (le_refl (length xs - k)))

not_short : (n : ℕ) → 33 ≤ n → nat_lt n 33 ≡ false
not_short n h = search rules

-- the line of what the call answered is the input's
same_line : (g : Given.Over) (c : goal.After-print_answer g) → line_of (as_taken_over c.take_over.result) ≡ answer_to c.args.input.now
same_line g c =
    let input = c.args.input.now in
    let key = take 32 (drop 1 input) in
    let taken : as_taken_over c.take_over.result ≡ take_over (drop 33 input) key (slice_index input 0) =
    c.take_over.ensures
    ∙ ap (λ j. take_over j c.copy_from_slice.new.self c.from-width.result) (whole 33 input)
    ∙ ap (λ k. take_over (drop 33 input) k c.from-width.result) c.copy_from_slice.ensures.after
    ∙ ap (take_over (drop 33 input) key) c.from-width.ensures in
    let long : answer_to input ≡ line_of (take_over (drop 33 input) key (slice_index input 0)) =
    ap (λ b. if b then refused_line 25 0 else line_of (take_over (drop 33 input) key (slice_index input 0))) (not_short (length input) c.if-input-lt33.false) in
    ap line_of taken ∙ sym long

pub returns-clause-ok : goal.returns-clause-ok
returns-clause-ok g c = subst (λ l. OnOk c.print_answer.result (Appends (g.W.Write.contents c.args.out.now) (g.W.Write.contents c.print_answer.new.out) l)) (same_line g c) c.print_answer.ensures.ok

pub returns-clause-err : goal.returns-clause-err
returns-clause-err g c = subst (λ l. OnErr c.print_answer.result (AppendsPart (g.W.Write.contents c.args.out.now) (g.W.Write.contents c.print_answer.new.out) l)) (same_line g c) c.print_answer.ensures.err
