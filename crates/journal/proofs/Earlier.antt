-- Journals and calls from before the limit of an amount was raised.
use Rattle.std.proofs.lemmas.Bool.{eqb-false}
use Rattle.std.proofs.Common.{ℕ, zero, suc, ◌≤◌, ◌≡◌, refl, sym, ap, ◌∙◌, Bool, true, false, List, [], ◌∷◌, ◌++◌, arith, eqb-true, eqb, length}
use Rattle.primitives.specs.Questions.{ask, ifZero}
use Rattle.primitives.proofs.Rows.{true-is-not-false}
use Rattle.receipt.specs.Amount.{amount_limit}
use Rattle.receipt.specs.DateTime.{date_good}
use Rattle.receipt.specs.Details.{amounts_within, amounts_good}
use Rattle.receipt.specs.declared.details.Details.{Details}
use Rattle.receipt.specs.declared.settings.Name.{Name}
use Rattle.receipt.proofs.Limits.{amounts_other, spellable_amounts, spellable_other}
use Rattle.journal.specs.Step.{sound, number_above, first_good, new_counter, next, details_number_within}
use Rattle.journal.specs.Issuing.{signature_sized, text_of, entry_fits, with_entry, issue_number, issue_number_within, issued, issued_within, issue_buffer, issue_buffer_within}
use Rattle.journal.specs.Checking.{accepted, take_over}
use Rattle.journal.specs.Valid.{Placed, all_placed, ValidWithin, Valid}
use Rattle.journal.specs.Calls.{Order, failed_order, Call, issue, issue_list, change, TypedList, nothing, also, lists, TypedCalls, none, more, Register, journal_of, calls, call, call_within, calls_within}
use Rattle.journal.specs.Earlier.{StaysAccepted, OldJournalsStayAccepted, OldCallsStay, OnlyTheLimitMoved}
use Rattle.journal.specs.Lists.{single_call}
use Rattle.journal.specs.declared.state.State.{State}
use Rattle.journal.proofs.JournalStates.{state_of_journal}
use Rattle.journal.proofs.Lists.{single_number, list_none, list_yes, list_no}
use Rattle.journal.proofs.Registers.{refused_within}
use Rattle.journal.proofs.WrittenIsAccepted.{written_is_accepted}

-- ---- valid journals under another limit

module _ {j key : List ℕ} {n limit : ℕ} (v : ValidWithin limit j key n) (other : ℕ)
    (h : (before : List Placed) (x : Placed) (later : List Placed) → all_placed v.owner v.pairs ≡ before ++ (x ∷ later) → amounts_within other x.entry.fields.details.amounts ≡ true) where
  -- a journal that is valid under one limit is under any that its amounts keep
  unfoldable valid_other : ValidWithin other j key n
  valid_other =
      record {
        width = v.width;
        owner = v.owner;
        good = v.good;
        pairs = v.pairs;
        some = v.some;
        eight = v.eight;
        bytes = v.bytes;
        begins = v.begins;
        each = λ before x later q.
            let r = v.each before x later q in
            record {
              typed = r.typed;
              spelled = spellable_other limit x.settings n x.entry r.spelled other (h before x later q);
              above = r.above;
              first = r.first;
              chained = r.chained;
              counter = r.counter;
            };
      }

pub only_the_limit_moved : OnlyTheLimitMoved
only_the_limit_moved limit j key n v h = valid_other v limit h

-- ---- question 9

-- if its limit is raised, only the answer 9 changes
asked : (a b c w w' : Bool) (rest : ℕ) → (w ≡ true → w' ≡ true) → (ask a 6 (ask b 7 (ask c 8 (ask w 9 rest))) ≡ 9 → ⊥)
    → ask a 6 (ask b 7 (ask c 8 (ask w' 9 rest))) ≡ ask a 6 (ask b 7 (ask c 8 (ask w 9 rest)))
unfolding ask
asked false b c w w' rest m h = refl
asked true false c w w' rest m h = refl
asked true true false w w' rest m h = refl
asked true true true false w' rest m h = absurd (h refl)
asked true true true true true rest m h = refl
asked true true true true false rest m h = true-is-not-false (m refl)

-- no other question gives 9
nine_asked : (a b c w e f g i : Bool) → ask a 6 (ask b 7 (ask c 8 (ask w 9 (ask e 10 (ask f 11 (ask g 12 (ask i 13 0))))))) ≡ 9 → w ≡ false
unfolding ask
nine_asked false b c w e f g i z = absurd (omega arith)
nine_asked true false c w e f g i z = absurd (omega arith)
nine_asked true true false w e f g i z = absurd (omega arith)
nine_asked true true true false e f g i z = refl
nine_asked true true true true false f g i z = absurd (omega arith)
nine_asked true true true true true false g i z = absurd (omega arith)
nine_asked true true true true true true false i z = absurd (omega arith)
nine_asked true true true true true true true false z = absurd (omega arith)
nine_asked true true true true true true true true z = absurd (omega arith)

nine : (limit : ℕ) (st : State) (d : Details) (sig : List ℕ) (room : ℕ) → issue_number_within limit st d sig room ≡ 9 → amounts_within limit d.amounts ≡ false
unfolding issue_number_within details_number_within
nine limit st d sig room z =
    nine_asked (sound st room) (number_above st d) (date_good d.date) (amounts_within limit d.amounts) (first_good st d) (new_counter st d).fits
    (signature_sized sig) (entry_fits st (text_of st d sig) room) z

-- ---- under a limit that is not above the one of the calls

module _ (limit : ℕ) (lower : limit ≤ amount_limit) where
  stays : (j key : List ℕ) (n : ℕ) (v : ValidWithin limit j key n) → StaysAccepted limit j key n v
  unfolding valid_other
  stays j key n v =
      let w : Valid j key n =
      valid_other v amount_limit
      (λ before x later q. amounts_other limit amount_limit lower x.entry.fields.details.amounts (spellable_amounts limit x.settings n x.entry (v.each before x later q).spelled)) in
      record { valid = w; owner = refl; pairs = refl; taken = state_of_journal j key n w }

  number_stays : (st : State) (d : Details) (sig : List ℕ) (room : ℕ) → (issue_number_within limit st d sig room ≡ 9 → ⊥)
      → issue_number st d sig room ≡ issue_number_within limit st d sig room
  unfolding issue_number_within details_number_within
  number_stays st d sig room h =
      asked (sound st room) (number_above st d) (date_good d.date) (amounts_within limit d.amounts) (amounts_good d.amounts) _
      (amounts_other limit amount_limit lower d.amounts) h

  same : (st : State) (d : Details) (sig buf : List ℕ) → (issue_number_within limit st d sig (length buf) ≡ 9 → ⊥)
      → (issued st d sig (length buf) ≡ issued_within limit st d sig (length buf)) × (issue_buffer st d sig buf ≡ issue_buffer_within limit st d sig buf)
  unfolding issued_within issue_buffer_within
  same st d sig buf h =
      let text = text_of st d sig in
      let e = number_stays st d sig (length buf) h in
      ((λ i. record { number = e i; state = ifZero (e i) (next st d text) st }), ap (λ (k : ℕ). ifZero k (with_entry st text buf) buf) e)

  module _ (g : Register) (c : Order) where
    abbrev number : ℕ
    number = issue_number_within limit g.state c.details c.signature (length g.buf)

    call_stays : (number ≡ 9 → ⊥) → call_within limit g (issue c) ≡ call g (issue c)
    unfolding call_within
    call_stays h =
        let p = same g.state c.details c.signature g.buf h in
        λ i. record { state = (sym p.0 i).state; buf = sym p.1 i }

    call_refused : number ≡ 9 → call_within limit g (issue c) ≡ g
    call_refused e = refused_within limit g c (λ z. omega arith)

  -- a Change has no limit
  change_same : (g : Register) (s : Name) → call_within limit g (change s) ≡ call g (change s)
  unfolding call_within
  change_same g s = refl

  -- a list under the limit is a list under that of the calls: it ends before the first that got 9
  record KeptList (g : Register) (ds : List Details) : Type 0 where
    those : List Details
    typed : TypedList those
    kept : call_within limit g (issue_list ds) ≡ call g (issue_list those)

  keep_list : (ds : List Details) (g : Register) → TypedList ds → KeptList g ds
  unfolding failed_order
  keep_list [] g nothing = record { those = []; typed = nothing; kept = list_none limit g ∙ sym (list_none amount_limit g) }
  keep_list (d ∷ ds) g (also t ts) = go (single_number limit g d) refl (keep_list ds (call_within limit g (single_call d)) ts)
    where
      go : (m : ℕ) → single_number limit g d ≡ m → KeptList (call_within limit g (single_call d)) ds → KeptList g (d ∷ ds)
      go zero e k =
          let n : issue_number_within limit g.state d [] (length g.buf) ≡ 9 → ⊥ = λ q. omega (arith, e, q) in
          let z : single_number amount_limit g d ≡ 0 = number_stays g.state d [] (length g.buf) n ∙ e in
          record {
            those = d ∷ k.those;
            typed = also t k.typed;
            kept =
                list_yes limit g d ds e ∙ k.kept ∙ ap (λ (r : Register). call r (issue_list k.those)) (call_stays g (failed_order d) n)
                ∙ sym (list_yes amount_limit g d k.those z);
          }
      go (suc m) e k = record { those = []; typed = nothing; kept = list_no limit g d ds (λ q. omega (arith, e, q)) ∙ sym (list_none amount_limit g) }

  -- calls under the limit are these calls under that of the calls: those that got 9 are left out
  record Kept (g : Register) (cs : List Call) : Type 0 where
    those : List Call
    typed : TypedCalls those
    kept : calls_within limit g cs ≡ calls g those

  keep : (cs : List Call) (g : Register) → TypedCalls cs → Kept g cs
  unfolding calls_within
  keep [] g t = record { those = []; typed = none; kept = refl }
  keep (issue c ∷ cs) g (more t ts) = go (eqb (number g c) 9) refl (keep cs (call_within limit g (issue c)) ts)
    where
      go : (b : Bool) → eqb (number g c) 9 ≡ b → Kept (call_within limit g (issue c)) cs → Kept g (issue c ∷ cs)
      go true e k =
          let q = call_refused g c (eqb-true (number g c) 9 e) in
          record { those = k.those; typed = k.typed; kept = k.kept ∙ ap (λ (r : Register). calls r k.those) q }
      go false e k =
          let q = call_stays g c (eqb-false (number g c) 9 e) in
          record { those = issue c ∷ k.those; typed = more t k.typed; kept = k.kept ∙ ap (λ (r : Register). calls r k.those) q }
  keep (issue_list ds ∷ cs) g (more (lists t) ts) =
      let l = keep_list ds g t in
      let k = keep cs (call_within limit g (issue_list ds)) ts in
      record {
        those = issue_list l.those ∷ k.those;
        typed = more (lists l.typed) k.typed;
        kept = k.kept ∙ ap (λ (r : Register). calls r k.those) l.kept;
      }
  keep (change s ∷ cs) g (more t ts) =
      let k = keep cs (call_within limit g (change s)) ts in
      record { those = change s ∷ k.those; typed = more t k.typed; kept = k.kept ∙ ap (λ (r : Register). calls r k.those) (change_same g s) }

-- ---- the statements

pub old_calls_stay : OldCallsStay
old_calls_stay = record { same = same; nine = nine }

pub old_journals_stay_accepted : OldJournalsStayAccepted
old_journals_stay_accepted =
    record {
      former = omega arith;
      valid = stays;
      written = λ limit lower s key shared n buf ts kb z cs tcs.
          let k = keep limit lower cs _ tcs in
          ap (λ (r : Register). take_over (journal_of r) key n) k.kept
          ∙ (written_is_accepted s key shared n buf ts kb z k.those k.typed).taken
          ∙ ap (λ (r : Register). accepted r.state) (sym k.kept);
    }
