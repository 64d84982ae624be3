-- ditgrux_issue_list does what the single calls of ditgrux_issue do, up to the first that is refused.
use Rattle.std.proofs.Common.{ℕ, zero, suc, ◌<◌, ◌≡◌, refl, sym, ap, ◌∙◌, subst, List, [], ◌∷◌, ◌++◌, map, arith, ℤ, length}
use Rattle.receipt.specs.declared.details.Details.{Details}
use Rattle.journal.specs.State.{TypedState, IssuedList}
use Rattle.journal.specs.Calls.{Order, TypedOrder, failed_order, Call, issue, TypedList, nothing, also, Register, number_of, numbers_of, call, calls}
use Rattle.journal.specs.Lists as lists
use Rattle.journal.specs.Lists.{single_calls, NoneRefused, FirstRefused, Ends, ListLeaves}
use Rattle.journal.proofs.Lists.{list_equals_single_calls}
use Rattle.journal.proofs.Registers.{issue_kept}
use Rattle.journal.proofs.Touching.{issue_room}
use Rattle.journal.proofs.Answers.{issued-number}
use Rattle.device.specs.Layout.{state_of}
use Rattle.device.specs.Details.{date_of, details_with, of_kind, details_of, kind_number, details_in, list_in}
use Rattle.device.specs.Calls.{Slices, order_in, issued_number}
use Rattle.device.specs.Demand.{issuing, listing, call_in, number_from_c, slices_after, call_with_details, slices_after_all, numbers_from_c}
use Rattle.device.specs.ListLaws.{single_calls_from_c, single_number_after, AllReturnZero, FirstNonzero, EndsInC, whole, early, ListLeavesInC, Lent, ListReadsAsIssue, ListEqualsSingleCallsInC}
use Rattle.device.proofs.Below.{issue_number_lem, issue_call, issued_typed, list_call, list_number}
use Rattle.device.proofs.Spelling.{bytes_typed, bytes_are_kept}
use Rattle.device.proofs.DetailLaws.{five, kind_same}
use Rattle.device.proofs.CallsFromC.{slices_of, list_typed, after_same, number_same, count_same, Same, more_same, none_same}

-- ---- the details at a place of a list

pub list_reads_as_issue : ListReadsAsIssue
unfolding order_in failed_order details_in
list_reads_as_issue b = refl

-- ---- a single call keeps what the types say

record Kept (g : Register) (c : Order) : Type 0 where
  typed : TypedState (call g (issue c)).state
  long : length (call g (issue c)).buf ≡ length g.buf

issue_keeps : (g : Register) (c : Order) → TypedState g.state → length g.buf < 18446744073709551616 → TypedOrder c → Kept g c
issue_keeps g c t l o = go (number_of g (issue c)) refl
  where
    go : (k : ℕ) → number_of g (issue c) ≡ k → Kept g c
    go zero z =
        let n = sym (issued-number g.state c.details c.signature (length g.buf)) ∙ sym (issue_number_lem g c) ∙ z in
        record {
          typed = subst (λ (x : Register). TypedState x.state) (sym (issue_call g c)) (issued_typed g.state c.details c.signature (length g.buf) t o.number l n);
          long = ap (λ (x : Register). length x.buf) (issue_call g c) ∙ issue_room g.state c.details c.signature g.buf;
        }
    go (suc k) z =
        let e = issue_kept g c (λ q. omega (arith, z, q)) in
        record { typed = subst (λ (x : Register). TypedState x.state) (sym e) t; long = ap (λ (x : Register). length x.buf) e }

-- ---- the single calls from C are those of the journal

one_same : (d : Details) → TypedOrder (failed_order d) → call_in (issuing (call_with_details d [])) ≡ issue (failed_order d)
unfolding call_in order_in details_of details_with date_of failed_order
one_same d t =
    let p = ap (λ (zs : List ℤ). of_kind d.number d.date zs (kind_number d.kind)) (five d.amounts t.amounts) ∙ kind_same d.number d.date d.amounts d.kind in
    λ i. issue (record { details = p i; signature = [] })

singles_same : (ds : List Details) → TypedList ds → map call_in (single_calls_from_c ds) ≡ single_calls ds
singles_same [] nothing = refl
singles_same (d ∷ ds) (also t ts) = λ i. one_same d t i ∷ singles_same ds ts i

singles_leave : (ds : List Details) (g : Register) → TypedState g.state → length g.buf < 18446744073709551616 → TypedList ds → Same g (single_calls_from_c ds)
singles_leave [] g t l nothing = none_same g t
singles_leave (d ∷ ds) g t l (also td ts) =
    let c = issuing (call_with_details d []) in
    let e = one_same d td in
    let k = issue_keeps g (failed_order d) t l td in
    more_same g t (single_calls_from_c ds) c
    (subst (λ (x : Call). Same (call g x) (single_calls_from_c ds)) (sym e) (singles_leave ds (call g (issue (failed_order d))) k.typed (omega (arith, k.long, l)) ts))

-- ---- parts of a list

typed_first : (before : List Details) (d : Details) (later : List Details) → TypedList (before ++ (d ∷ later)) → TypedList before × TypedOrder (failed_order d)
typed_first [] d later (also t ts) = (nothing, t)
typed_first (b ∷ before) d later (also t ts) = let p = typed_first before d later ts in (also t p.0, p.1)

-- ---- a register with a state as the bytes say

module _ (g : Register) (t : TypedState g.state) (l : length g.buf < 18446744073709551616) where
  module _ (ds : List Details) (ts : TypedList ds) where
    numbers_are : numbers_from_c (slices_of g) (single_calls_from_c ds) ≡ numbers_of g (single_calls ds)
    numbers_are = (singles_leave ds g t l ts).numbers ∙ ap (numbers_of g) (singles_same ds ts)

    slices_are : slices_after_all (slices_of g) (single_calls_from_c ds) ≡ slices_of (calls g (single_calls ds))
    slices_are = (singles_leave ds g t l ts).slices ∙ ap (λ (cs : List Call). slices_of (calls g cs)) (singles_same ds ts)

    state_typed : TypedState (calls g (single_calls ds)).state
    state_typed = subst (λ (cs : List Call). TypedState (calls g cs).state) (singles_same ds ts) (singles_leave ds g t l ts).typed

    -- one more after them
    number_after_lem : (d : Details) → TypedOrder (failed_order d) → single_number_after (slices_of g) ds d ≡ number_of (calls g (single_calls ds)) (issue (failed_order d))
    unfolding number_from_c
    number_after_lem d td =
        ap (λ (x : Slices). issued_number x (call_with_details d [])) slices_are
        ∙ number_same (calls g (single_calls ds)) state_typed (issuing (call_with_details d []))
        ∙ ap (number_of (calls g (single_calls ds))) (one_same d td)

  module _ (list : List ℕ) where
    -- what the journal's list does is what the call from C does
    lists_same : (done : List Details) (number : ℕ) → TypedList done → ListLeaves g (list_in list) done number → ListLeavesInC (slices_of g) list done number
    unfolding number_from_c slices_after call_in
    lists_same done number td h =
        let e = list_call g (list_in list) in
        let s = ap (λ (x : IssuedList). x.state) h.answer in
        record {
          returned = number_same g t (listing list) ∙ list_number g (list_in list) ∙ ap (λ (x : IssuedList). x.number) h.answer;
          issued = count_same g t list ∙ ap (λ (x : IssuedList). x.count) h.answer;
          left =
              after_same g t (listing list) ∙ ap slices_of e ∙ (λ i. slices_of (record { state = s i; buf = h.buffer i })) ∙ sym (slices_are done td);
        }

-- ---- the statement

module _ (g : Slices) (list : List ℕ) (lent : Lent g list) where
  register : Register
  register = record { state = state_of g.state; buf = g.journal }

  register_typed : TypedState register.state
  unfolding register
  register_typed = bytes_typed g.state lent.state lent.size

  register_room : length register.buf < 18446744073709551616
  unfolding register
  register_room = lent.room

  slices_is : slices_of register ≡ g
  unfolding slices_of register
  slices_is = λ i. record { state = bytes_are_kept g.state lent.state lent.size i; journal = g.journal }

  all_equal : AllReturnZero g (list_in list) → ListLeavesInC g list (list_in list) 0
  all_equal h =
      let ts = list_typed list lent.bytes in
      let z = sym (numbers_are register register_typed register_room (list_in list) ts) ∙ subst (λ (x : Slices). AllReturnZero x (list_in list)) (sym slices_is) h in
      subst (λ (x : Slices). ListLeavesInC x list (list_in list) 0) slices_is
      (lists_same register register_typed register_room list (list_in list) 0 ts (list_equals_single_calls.all register (list_in list) z))

  module _ (before : List Details) (d : Details) (later : List Details) (e : list_in list ≡ before ++ (d ∷ later)) where
    parts : TypedList before × TypedOrder (failed_order d)
    parts = typed_first before d later (subst TypedList e (list_typed list lent.bytes))

    after_is : single_number_after g before d ≡ number_of (calls register (single_calls before)) (issue (failed_order d))
    after_is =
        ap (λ (x : Slices). single_number_after x before d) (sym slices_is) ∙ number_after_lem register register_typed register_room before parts.0 d parts.1

    zeros_are : AllReturnZero g before → NoneRefused register before
    zeros_are h = sym (numbers_are register register_typed register_room before parts.0) ∙ subst (λ (x : Slices). AllReturnZero x before) (sym slices_is) h

    zeros_from : NoneRefused register before → AllReturnZero g before
    zeros_from h = subst (λ (x : Slices). AllReturnZero x before) slices_is (numbers_are register register_typed register_room before parts.0 ∙ h)

    until_equal : FirstNonzero g before d → ListLeavesInC g list before (single_number_after g before d)
    until_equal h =
        let f : FirstRefused register before d = record { none = zeros_are h.zeros; refused = λ q. h.nonzero (after_is ∙ q) } in
        let m = number_of (calls register (single_calls before)) (issue (failed_order d)) in
        let q = list_equals_single_calls.until register before d later f in
        let r = lists_same register register_typed register_room list before m parts.0 (subst (λ (ds : List Details). ListLeaves register ds before m) (sym e) q) in
        subst (λ (x : Slices). ListLeavesInC x list before (single_number_after g before d)) slices_is (subst (ListLeavesInC (slices_of register) list before) (sym after_is) r)

  ends_in : Ends register (list_in list) → EndsInC g (list_in list)
  ends_in (lists.whole h) =
      whole (subst (λ (x : Slices). AllReturnZero x (list_in list)) slices_is (numbers_are register register_typed register_room (list_in list) (list_typed list lent.bytes) ∙ h))
  ends_in (lists.early before d later e f) =
      early before d later e (record { zeros = zeros_from before d later e f.none; nonzero = λ z. f.refused (sym (after_is before d later e) ∙ z) })

pub list_equals_single_calls_in_c : ListEqualsSingleCallsInC
list_equals_single_calls_in_c =
    record {
      all = λ g list lent h. all_equal g list lent h;
      until = λ g list lent before d later e h. until_equal g list lent before d later e h;
      either = λ g list lent. ends_in g list lent (list_equals_single_calls.either (register g list lent) (list_in list));
    }
