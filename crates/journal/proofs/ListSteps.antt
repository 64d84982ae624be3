-- A list of receipts, one more receipt at a time: it is issued, and the rest follows, or it is refused and ends the list.
use Rattle.std.proofs.Common.{ℕ, ◌+◌, ◌≡◌, refl, sym, ◌∙◌, ap, List, [], ◌∷◌, arith, length}
use Rattle.primitives.proofs.Rows.{ifZero-yes, ifZero-no}
use Rattle.receipt.specs.declared.details.Details.{Details}
use Rattle.journal.specs.Issuing.{issue_number_within, issue_number, issued_within, issued, issue_buffer_within, issue_buffer}
use Rattle.journal.specs.Listing.{counted_from, issued_list_within, issued_list, list_buffer_within, list_buffer}
use Rattle.journal.specs.declared.state.State.{State}
use Rattle.journal.specs.State.{Issued, IssuedList}
use Rattle.journal.proofs.Answers.{issued-number}
use Rattle.journal.proofs.Refusals.{issue_refused}

-- ---- the definitions, under any limit of an amount

module _ (limit : ℕ) (st : State) (buf : List ℕ) where
  pub answer_none : issued_list_within limit st [] buf ≡ record { number = 0; count = 0; state = st }
  unfolding issued_list_within
  answer_none = refl

  pub buffer_none : list_buffer_within limit st [] buf ≡ buf
  unfolding list_buffer_within
  buffer_none = refl

module _ (limit : ℕ) (st : State) (d : Details) (ds : List Details) (buf : List ℕ) where
  -- it is issued
  module _ (z : issue_number_within limit st d [] (length buf) ≡ 0) where
    pub answer_yes : issued_list_within limit st (d ∷ ds) buf
        ≡ counted_from 1 (issued_list_within limit (issued_within limit st d [] (length buf)).state ds (issue_buffer_within limit st d [] buf))
    unfolding issued_list_within
    answer_yes = ifZero-yes _ _ z

    pub buffer_yes : list_buffer_within limit st (d ∷ ds) buf
        ≡ list_buffer_within limit (issued_within limit st d [] (length buf)).state ds (issue_buffer_within limit st d [] buf)
    unfolding list_buffer_within
    buffer_yes = ifZero-yes _ _ z

  -- it is refused
  module _ (h : issue_number_within limit st d [] (length buf) ≡ 0 → ⊥) where
    pub answer_no : issued_list_within limit st (d ∷ ds) buf ≡ record { number = issue_number_within limit st d [] (length buf); count = 0; state = st }
    unfolding issued_list_within
    answer_no = ifZero-no _ _ _ h

    pub buffer_no : list_buffer_within limit st (d ∷ ds) buf ≡ buf
    unfolding list_buffer_within
    buffer_no = ifZero-no _ _ _ h

-- ---- a loop over a list: what it gives from here is what it gives from the start

-- the answer from state s on, with k receipts issued before
abbrev pub listed : ℕ → State → List Details → List ℕ → IssuedList
listed k s ds b = counted_from k (issued_list s ds b)

-- no receipt before
pub listed_start : (s : State) (ds : List Details) (b : List ℕ) → listed 0 s ds b ≡ issued_list s ds b
listed_start s ds b =
    let e : 0 + (issued_list s ds b).count ≡ (issued_list s ds b).count = omega arith in
    λ j. record { number = (issued_list s ds b).number; count = e j; state = (issued_list s ds b).state }

-- no receipt left
pub listed_end : (k : ℕ) (s : State) (b : List ℕ) → record { number = 0; count = k; state = s } ≡ listed k s [] b
listed_end k s b =
    let e : k ≡ k + 0 = omega arith in
    (λ j. record { number = 0; count = e j; state = s }) ∙ ap (counted_from k) (sym (answer_none _ s b))

counted_on : (k : ℕ) (r : IssuedList) → counted_from (k + 1) r ≡ counted_from k (counted_from 1 r)
counted_on k r =
    let e : (k + 1) + r.count ≡ k + (1 + r.count) = omega arith in
    λ j. record { number = r.number; count = e j; state = r.state }

-- one receipt: `one` is the answer to it, ws the buffer after it
module _ (s : State) (d : Details) (ds : List Details) (b ws : List ℕ) (one : Issued) (e : one ≡ issued s d [] (length b)) (f : ws ≡ issue_buffer s d [] b) where
  number_is : one.number ≡ issue_number s d [] (length b)
  number_is = ap (λ (o : Issued). o.number) e ∙ issued-number s d [] (length b)

  -- it is issued
  module _ (z : one.number ≡ 0) where
    pub listed_more : (k : ℕ) → listed (k + 1) one.state ds ws ≡ listed k s (d ∷ ds) b
    listed_more k =
        (λ j. listed (k + 1) (e j).state ds (f j)) ∙ counted_on k (issued_list (issued s d [] (length b)).state ds (issue_buffer s d [] b))
        ∙ ap (counted_from k) (sym (answer_yes _ s d ds b (sym number_is ∙ z)))

    pub buffer_more : list_buffer one.state ds ws ≡ list_buffer s (d ∷ ds) b
    buffer_more = (λ j. list_buffer (e j).state ds (f j)) ∙ sym (buffer_yes _ s d ds b (sym number_is ∙ z))

  -- it is refused: state and buffer stay
  module _ (h : one.number ≡ 0 → ⊥) where
    refused_there : issue_number s d [] (length b) ≡ 0 → ⊥
    refused_there z = h (number_is ∙ z)

    pub left_there : (one.state ≡ s) × (ws ≡ b)
    left_there =
        let same = issue_refused s d [] b (λ z. h (ap (λ (o : Issued). o.number) e ∙ z)) in
        (ap (λ (o : Issued). o.state) e ∙ same.0, f ∙ same.1)

    pub listed_stops : (k : ℕ) → record { number = one.number; count = k; state = s } ≡ listed k s (d ∷ ds) b
    listed_stops k =
        let m : k ≡ k + 0 = omega arith in
        (λ j. record { number = number_is j; count = m j; state = s }) ∙ ap (counted_from k) (sym (answer_no _ s d ds b refused_there))

    pub buffer_stops : ws ≡ list_buffer s (d ∷ ds) b
    buffer_stops = left_there.1 ∙ sym (buffer_no _ s d ds b refused_there)
