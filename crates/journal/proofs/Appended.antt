-- What Issue appends: where it stands, and that it is read as what Issue was given.
use Rattle.std.proofs.Common.{ℕ, ◌+◌, ◌<◌, ◌≡◌, refl, sym, ap, ◌∙◌, Bool, true, false, cond, List, [], ◌∷◌, arith, eqb-true, eqb, length, take, drop, replicate}
use Rattle.primitives.specs.Bytes.{AllBytes}
use Rattle.primitives.specs.Place.{overwrite}
use Rattle.primitives.specs.Number.{bytes_of}
use Rattle.primitives.proofs.Numbers.{length_bytes_of}
use Rattle.primitives.proofs.Over.{length_over}
use Rattle.primitives.proofs.Rewrites.{over_comm}
use Rattle.primitives.proofs.Rows.{ifZero-yes}
use Rattle.receipt.specs.Compact.{compact, spellable, TypedEntry}
use Rattle.receipt.specs.declared.details.Details.{Details}
use Rattle.receipt.specs.declared.entry.Signature.{Signature}
use Rattle.journal.specs.Head.{entry_text}
use Rattle.journal.specs.State.{settings_now, count_place_now}
use Rattle.journal.specs.Step.{fields_of, next}
use Rattle.journal.specs.Issuing.{given_signature, entry_of, text_of, issue_number, issued, issued_within, with_entry, issue_buffer, issue_buffer_within}
use Rattle.journal.specs.Calls.{order_of}
use Rattle.journal.specs.Demands.{FormIsAppended}
use Rattle.journal.specs.declared.state.State.{State}
use Rattle.journal.proofs.Places.{length_entry}
use Rattle.journal.proofs.Answers.{Eight, Answered, issue-zero, call-spellable, entry-typed}
use Rattle.journal.proofs.IssueCalls.{entry_text_lem}

-- ---- where it stands

module _ (st : State) (d : Details) (sig buf : List ℕ) (z : issue_number st d sig (length buf) ≡ 0) where
  a : Answered st d sig (length buf)
  a = issue-zero st d sig (length buf) z

  new_length : (issued st d sig (length buf)).state.length ≡ st.length + 2 + length (text_of st d sig)
  unfolding issued_within next
  new_length = ap (λ (x : State). x.length) (ifZero-yes (next st d (text_of st d sig)) st z) ∙ omega (arith, length_entry (text_of st d sig))

  -- the count is rewritten before the entry
  after_count : issue_buffer st d sig buf ≡ overwrite (overwrite buf (count_place_now st) (bytes_of 4 (st.since + 1))) st.length (entry_text (text_of st d sig))
  unfolding issue_buffer_within with_entry
  after_count =
      let t = entry_text (text_of st d sig) in
      let n = bytes_of 4 (st.since + 1) in
      let l = length_bytes_of 4 (st.since + 1) in
      ifZero-yes (with_entry st (text_of st d sig) buf) buf z
      ∙ sym (over_comm buf (count_place_now st) n st.length t (omega (arith, a.sound.place)) a.fits)

  there : take (length (text_of st d sig)) (drop (st.length + 2) (issue_buffer st d sig buf)) ≡ text_of st d sig
  there =
      let b = overwrite buf (count_place_now st) (bytes_of 4 (st.since + 1)) in
      let l : length b ≡ length buf =
      length_over buf (count_place_now st) (bytes_of 4 (st.since + 1)) (omega (arith, a.sound.place, a.within, length_bytes_of 4 (st.since + 1))) in
      ap (λ (x : List ℕ). take (length (text_of st d sig)) (drop (st.length + 2) x)) after_count
      ∙ entry_text_lem b (text_of st d sig) st.length (omega (arith, a.fits))

pub form_is_appended : FormIsAppended
form_is_appended st d sig buf z = (new_length st d sig buf z, there st d sig buf z)

-- ---- what it spells

-- what issues the entry of an order is that order
empty : (xs : List ℕ) → length xs ≡ 0 → [] ≡ xs
empty [] e = refl
empty (x ∷ xs) e = absurd (omega arith)

given_back : (sig : List ℕ) → cond (given_signature sig).failed [] (given_signature sig).bytes ≡ sig
unfolding given_signature
given_back sig = go (eqb (length sig) 0) refl
  where
    choose : Bool → Signature
    choose t = cond t (record { failed = true; bytes = replicate 64 0 }) (record { failed = false; bytes = sig })

    go : (t : Bool) → eqb (length sig) 0 ≡ t → cond (choose t).failed [] (choose t).bytes ≡ sig
    go true e = empty sig (eqb-true (length sig) 0 e)
    go false e = refl

pub order_back : (st : State) (d : Details) (sig : List ℕ) → order_of (entry_of st d sig) ≡ record { details = d; signature = sig }
unfolding order_of entry_of fields_of
order_back st d sig = λ i. record { details = d; signature = given_back sig i }

-- the text of a call is the compact form of its entry, which can be spelled where the call is accepted
pub text_is : (st : State) (d : Details) (sig : List ℕ) → text_of st d sig ≡ compact (settings_now st) st.width (entry_of st d sig)
unfolding text_of
text_is st d sig = refl

pub entry_spelled : (st : State) (d : Details) (sig : List ℕ) (room : ℕ) → AllBytes st.key → Eight st.chain → d.number < 4294967296 → length d.amounts ≡ 5
    → AllBytes sig → issue_number st d sig room ≡ 0 → TypedEntry (entry_of st d sig) × (spellable (settings_now st) st.width (entry_of st d sig) ≡ true)
entry_spelled st d sig room key chain number amounts bytes z =
    let a = issue-zero st d sig room z in
    (entry-typed st d sig a.sound a.details a.signature key chain number amounts bytes, call-spellable st d sig a.sound a.details a.signature)
