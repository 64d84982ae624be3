-- A list of receipts, one by one.
use Rattle.std.proofs.Common.{ℕ, zero, suc, ◌+◌, ◌≡◌, refl, sym, ap, ◌∙◌, subst, List, [], ◌∷◌, ◌++◌, map, arith, length, take, replicate}
use Rattle.receipt.specs.Amount.{amount_limit}
use Rattle.receipt.specs.declared.details.Details.{Details}
use Rattle.journal.specs.Issuing.{issue_number_within}
use Rattle.journal.specs.Listing.{counted_from, issued_list_within, issued_list, list_buffer_within}
use Rattle.journal.specs.Calls.{issue_list, failed_order, Register, number_of, call_within, call, calls, calls_within, numbers_of, receipt_of_call, receipts_of_list}
use Rattle.journal.specs.Lists.{single_call, single_calls, NoneRefused, FirstRefused, Ends, whole, early, ListLeaves, ListEqualsSingleCalls, EmptyListChangesNothing}
use Rattle.journal.specs.State.{IssuedList}
use Rattle.journal.proofs.ListSteps.{answer_none, buffer_none, answer_yes, buffer_yes, answer_no, buffer_no}

-- ---- one receipt of a list: it is issued, or it ends the list

-- the number of a singleCall call under a limit of an amount
abbrev pub single_number : ℕ → Register → Details → ℕ
single_number limit g d = issue_number_within limit g.state d [] (length g.buf)

pub single_number_lem : (g : Register) (d : Details) → number_of g (single_call d) ≡ single_number amount_limit g d
unfolding number_of failed_order
single_number_lem g d = refl

pub list_none : (limit : ℕ) (g : Register) → call_within limit g (issue_list []) ≡ g
unfolding call_within issued_list_within list_buffer_within
list_none limit g = refl

module _ (limit : ℕ) (g : Register) (d : Details) (ds : List Details) where
  pub list_yes : single_number limit g d ≡ 0 → call_within limit g (issue_list (d ∷ ds)) ≡ call_within limit (call_within limit g (single_call d)) (issue_list ds)
  unfolding call_within failed_order
  list_yes z = λ i. record { state = (answer_yes limit g.state d ds g.buf z i).state; buf = buffer_yes limit g.state d ds g.buf z i }

  pub list_no : (single_number limit g d ≡ 0 → ⊥) → call_within limit g (issue_list (d ∷ ds)) ≡ g
  unfolding call_within
  list_no h = λ i. record { state = (answer_no limit g.state d ds g.buf h i).state; buf = buffer_no limit g.state d ds g.buf h i }

one_plus : (k : ℕ) → 1 + k ≡ suc k
one_plus k = omega arith

-- ---- the receipts of a list

pub receipts_nothing : (g : Register) → receipts_of_list g [] ≡ []
unfolding receipts_of_list issued_list_within
receipts_nothing g = refl

module _ (g : Register) (d : Details) (ds : List Details) where
  pub receipts_yes : single_number amount_limit g d ≡ 0 → receipts_of_list g (d ∷ ds) ≡ receipt_of_call (failed_order d) ∷ receipts_of_list (call g (single_call d)) ds
  unfolding receipts_of_list call_within failed_order
  receipts_yes z =
      ap (λ (r : IssuedList). map (λ (x : Details). receipt_of_call (failed_order x)) (take r.count (d ∷ ds))) (answer_yes amount_limit g.state d ds g.buf z)
      ∙ ap (λ (m : ℕ). map (λ (x : Details). receipt_of_call (failed_order x)) (take m (d ∷ ds))) (one_plus (issued_list (call g (single_call d)).state ds (call g (single_call d)).buf).count)

  pub receipts_no : (single_number amount_limit g d ≡ 0 → ⊥) → receipts_of_list g (d ∷ ds) ≡ []
  unfolding receipts_of_list
  receipts_no h = ap (λ (r : IssuedList). map (λ (x : Details). receipt_of_call (failed_order x)) (take r.count (d ∷ ds))) (answer_no amount_limit g.state d ds g.buf h)

-- ---- the statements

pub empty_list_changes_nothing : EmptyListChangesNothing
empty_list_changes_nothing st buf = (answer_none amount_limit st buf, buffer_none amount_limit st buf)

-- the first number and the others, where all are 0
first_zero : (m : ℕ) (ms : List ℕ) (n : ℕ) → m ∷ ms ≡ replicate (suc n) 0 → (m ≡ 0) × (ms ≡ replicate n 0)
first_zero m ms n e = (ap (λ (l : List ℕ). lib.ListN.get_or l 0 0) e, ap (λ (l : List ℕ). lib.ListN.drop 1 l) e)

numbers_first : (g : Register) (d : Details) (ds : List Details) → NoneRefused g (d ∷ ds) → (single_number amount_limit g d ≡ 0) × NoneRefused (call g (single_call d)) ds
unfolding numbers_of
numbers_first g d ds h =
    let p = first_zero (number_of g (single_call d)) (numbers_of (call g (single_call d)) (single_calls ds)) (length ds) h in
    (sym (single_number_lem g d) ∙ p.0, p.1)

none_more : (g : Register) (d : Details) (ds : List Details) → single_number amount_limit g d ≡ 0 → NoneRefused (call g (single_call d)) ds → NoneRefused g (d ∷ ds)
unfolding numbers_of
none_more g d ds z h = λ i. (single_number_lem g d ∙ z) i ∷ h i

none_nothing : (g : Register) → NoneRefused g []
unfolding numbers_of
none_nothing g = refl

calls_first : (g : Register) (d : Details) (ds : List Details) → calls g (single_calls (d ∷ ds)) ≡ calls (call g (single_call d)) (single_calls ds)
unfolding calls_within
calls_first g d ds = refl

calls_nothing : (g : Register) → calls g (single_calls []) ≡ g
unfolding calls_within
calls_nothing g = refl

-- one receipt more that is issued
also_listed : (g : Register) (d : Details) (ds done : List Details) (m : ℕ) → single_number amount_limit g d ≡ 0 → ListLeaves (call g (single_call d)) ds done m → ListLeaves g (d ∷ ds) (d ∷ done) m
unfolding call_within failed_order
also_listed g d ds done m z h =
    record {
      answer =
          answer_yes amount_limit g.state d ds g.buf z
          ∙ ap (counted_from 1) h.answer
          ∙ (λ i. record { number = m; count = one_plus (length done) i; state = (sym (calls_first g d done) i).state });
      buffer = buffer_yes amount_limit g.state d ds g.buf z ∙ h.buffer ∙ ap (λ (r : Register). r.buf) (sym (calls_first g d done));
    }

all_listed : (ds : List Details) (g : Register) → NoneRefused g ds → ListLeaves g ds ds 0
all_listed [] g h =
    let e = empty_list_changes_nothing g.state g.buf in
    let c = sym (calls_nothing g) in
    record { answer = e.0 ∙ (λ i. record { number = 0; count = 0; state = (c i).state }); buffer = e.1 ∙ ap (λ (r : Register). r.buf) c }
all_listed (d ∷ ds) g h =
    let p = numbers_first g d ds h in
    also_listed g d ds ds 0 p.0 (all_listed ds (call g (single_call d)) p.1)

first_listed : (before : List Details) (g : Register) (d : Details) (later : List Details) → FirstRefused g before d
    → ListLeaves g (before ++ (d ∷ later)) before (number_of (calls g (single_calls before)) (single_call d))
first_listed [] g d later h =
    let c = sym (calls_nothing g) in
    let r = subst (λ (x : Register). number_of x (single_call d) ≡ 0 → ⊥) (calls_nothing g) h.refused in
    let s : single_number amount_limit g d ≡ 0 → ⊥ = λ z. r (single_number_lem g d ∙ z) in
    record {
      answer = answer_no amount_limit g.state d later g.buf s ∙ (λ i. record { number = (sym (single_number_lem g d) ∙ ap (λ (x : Register). number_of x (single_call d)) c) i; count = 0; state = (c i).state });
      buffer = buffer_no amount_limit g.state d later g.buf s ∙ ap (λ (x : Register). x.buf) c;
    }
first_listed (b ∷ before) g d later h =
    let p = numbers_first g b before h.none in
    let e = calls_first g b before in
    let f : FirstRefused (call g (single_call b)) before d = record { none = p.1; refused = subst (λ (x : Register). number_of x (single_call d) ≡ 0 → ⊥) e h.refused } in
    subst (ListLeaves g (b ∷ (before ++ (d ∷ later))) (b ∷ before)) (ap (λ (x : Register). number_of x (single_call d)) (sym e))
    (also_listed g b (before ++ (d ∷ later)) before _ p.0 (first_listed before (call g (single_call b)) d later f))

list_ends : (ds : List Details) (g : Register) → Ends g ds
list_ends [] g = whole (none_nothing g)
list_ends (d ∷ ds) g = go (single_number amount_limit g d) refl (list_ends ds (call g (single_call d)))
  where
    grown : single_number amount_limit g d ≡ 0 → Ends (call g (single_call d)) ds → Ends g (d ∷ ds)
    grown z (whole h) = whole (none_more g d ds z h)
    grown z (early before x later e f) =
        early (d ∷ before) x later (ap (λ (l : List Details). d ∷ l) e)
        (record { none = none_more g d before z f.none; refused = subst (λ (r : Register). number_of r (single_call x) ≡ 0 → ⊥) (sym (calls_first g d before)) f.refused })

    go : (m : ℕ) → single_number amount_limit g d ≡ m → Ends (call g (single_call d)) ds → Ends g (d ∷ ds)
    go zero e h = grown e h
    go (suc m) e h =
        early [] d ds refl
        (record { none = none_nothing g; refused = λ q. omega (arith, e, sym (single_number_lem g d) ∙ ap (λ (x : Register). number_of x (single_call d)) (sym (calls_nothing g)) ∙ q) })

pub list_equals_single_calls : ListEqualsSingleCalls
list_equals_single_calls = record { all = λ g ds h. all_listed ds g h; until = λ g before d later h. first_listed before g d later h; either = λ g ds. list_ends ds g }
