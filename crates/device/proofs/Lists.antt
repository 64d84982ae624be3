-- A list of receipts as bytes: read, issued up to the first that is refused, and what the call leaves. Over plain variables.
use Rattle.std.proofs.Common.{ℕ, zero, suc, ◌+◌, ◌*◌, ◌-◌, ◌/◌, ◌%◌, ◌≤◌, ◌<◌, ◌≡◌, refl, sym, ap, ◌∙◌, Bool, true, false, List, [], ◌∷◌, arith, eq-eqb, ne_eqb, eqb-true, eqb, length, take, drop, get_or, length-append, length-drop, take_at, drop_at, drop-drop, length-take-le}
use Rattle.std.proofs.lemmas.Bool.{eqb-false}
use Rattle.primitives.proofs.Rows.{ask_zero, ask_yes, ask_no}
use Rattle.receipt.specs.Amount.{amount_limit}
use Rattle.receipt.specs.declared.details.Details.{Details}
use Rattle.journal.specs.State.{no_name, unopened, Issued, IssuedList}
use Rattle.journal.specs.Step.{sound}
use Rattle.journal.specs.Issuing.{issue_number, issued, issue_buffer}
use Rattle.journal.specs.Listing.{issued_list, list_buffer}
use Rattle.journal.specs.declared.state.State.{State}
use Rattle.journal.proofs.Refusals.{refused_changes_nothing}
use Rattle.journal.proofs.Lists.{empty_list_changes_nothing}
use Rattle.journal.proofs.ListSteps.{buffer_none, answer_no, buffer_no, listed, listed_start, listed_end, listed_more, buffer_more, listed_stops, buffer_stops}
use Rattle.journal.proofs.Answers.{issued-number}
use Rattle.device.specs.Layout.{state_of, kept}
use Rattle.device.specs.Details.{no_details, pieces, details_bytes, details_in, details_from, list_in}
use Rattle.device.specs.Calls.{Slices, list_answer, listed_number, listed_count, listed_slices}
use Rattle.device.specs.Laws.{TypedDetails, ListIsRead, RefusedListKeepsSlices, EmptyListChangesNothingInC, CutListIssuesNone}
use Rattle.device.proofs.DetailLaws.{details_are_read}
use Rattle.device.proofs.Sizes.{state_none}
use Rattle.device.proofs.Spelling.{kept_as_it_was}
use Rattle.device.proofs.Zeros.{no_details_number, unopened_gets_six}

-- an answer, by its parts
abbrev pub answer_with : ℕ → ℕ → State → IssuedList
answer_with number count st = record { number = number; count = count; state = st }

-- ---- the loop over the list

-- the details that are left at a place of the list
abbrev pub left : List ℕ → ℕ → List Details
left list at = details_from ((length list - at) / 72) (drop at list)

-- after i receipts the call goes on at a place with a state and a buffer: what it gives from here is what it gives from the start
pub record Listing (list b₀ : List ℕ) (s₀ : State) (b : List ℕ) (s : State) (at i : ℕ) : Type 0 where
  pub place : at ≡ 72 * i
  pub whole : length list % 72 ≡ 0
  pub long : length b ≡ length b₀
  pub answer : listed i s (left list at) b ≡ issued_list s₀ (details_from (length list / 72) list) b₀
  pub buffer : list_buffer s (left list at) b ≡ list_buffer s₀ (details_from (length list / 72) list) b₀

pub listing_start : (list b : List ℕ) (s : State) → length list % 72 ≡ 0 → Listing list b s b s 0 0
listing_start list b s w =
    let n : length list - 0 ≡ length list = omega arith in
    let e : left list 0 ≡ details_from (length list / 72) list = ap (λ (k : ℕ). details_from (k / 72) list) n in
    record {
      place = omega arith;
      whole = w;
      long = refl;
      answer = listed_start s (left list 0) b ∙ ap (λ (ds : List Details). issued_list s ds b) e;
      buffer = ap (λ (ds : List Details). list_buffer s ds b) e;
    }

module _ {list b₀ : List ℕ} {s₀ : State} {b : List ℕ} {s : State} {at i : ℕ} (l : Listing list b₀ s₀ b s at i) where
  -- all are issued
  pub listing_end : length list / 72 ≤ i
      → (record { number = 0; count = i; state = s } ≡ issued_list s₀ (details_from (length list / 72) list) b₀)
      × (b ≡ list_buffer s₀ (details_from (length list / 72) list) b₀)
  unfolding details_from
  listing_end h =
      let n : (length list - at) / 72 ≡ 0 = omega (arith, l.place, l.whole) in
      let e : left list at ≡ [] = ap (λ (k : ℕ). details_from k (drop at list)) n in (
        listed_end i s b ∙ sym (ap (λ (ds : List Details). listed i s ds b) e) ∙ l.answer,
        sym (ap (λ (ds : List Details). list_buffer s ds b) e ∙ buffer_none _ s b) ∙ l.buffer,
      )

  module _ (h : i < length list / 72) where
    pub piece_there : at + 72 ≤ length list
    piece_there = omega (arith, l.place, l.whole)

    pub piece_long : 72 ≤ length (take (at + 72 - at) (drop at list))
    piece_long =
        let n : at + 72 - at ≡ 72 = omega arith in
        rw n (omega (arith, length-take-le 72 (drop at list) (omega (arith, length-drop at list, piece_there))))

    left_more : left list at ≡ details_in (take 72 (drop at list)) ∷ left list (at + 72)
    unfolding details_from
    left_more =
        let n : (length list - at) / 72 ≡ suc ((length list - (at + 72)) / 72) = omega (arith, piece_there) in
        ap (λ (k : ℕ). details_from k (drop at list)) n
        ∙ ap (λ (q : List ℕ). details_in (take 72 (drop at list)) ∷ details_from ((length list - (at + 72)) / 72) q) (drop-drop 72 at list)

    -- a turn, with the next details and the answer to them
    module _ {d : Details} {a : Issued} {b₁ : List ℕ} (ed : d ≡ details_in (take (at + 72 - at) (drop at list)))
        (p : (a ≡ issued s d [] (length b)) × (b₁ ≡ issue_buffer s d [] b)) where
      left_is : left list at ≡ d ∷ left list (at + 72)
      left_is =
          let n : at + 72 - at ≡ 72 = omega arith in
          left_more ∙ ap (λ (x : Details). x ∷ left list (at + 72)) (sym (ed ∙ ap (λ (k : ℕ). details_in (take k (drop at list))) n))

      pub listing_stops : (a.number ≡ 0 → ⊥)
          → (record { number = a.number; count = i; state = s } ≡ issued_list s₀ (details_from (length list / 72) list) b₀)
          × (b₁ ≡ list_buffer s₀ (details_from (length list / 72) list) b₀)
      listing_stops refused = (
        listed_stops s d (left list (at + 72)) b b₁ a p.0 p.1 refused i ∙ sym (ap (λ (ds : List Details). listed i s ds b) left_is) ∙ l.answer,
        buffer_stops s d (left list (at + 72)) b b₁ a p.0 p.1 refused ∙ sym (ap (λ (ds : List Details). list_buffer s ds b) left_is) ∙ l.buffer,
      )

      pub listing_more : a.number ≡ 0 → length b₁ ≡ length b → Listing list b₀ s₀ b₁ a.state (at + 72) (i + 1)
      listing_more z m =
          let ds = left list (at + 72) in
          record {
            place = omega (arith, l.place);
            whole = l.whole;
            long = m ∙ l.long;
            answer = listed_more s d ds b b₁ a p.0 p.1 z i ∙ sym (ap (λ (xs : List Details). listed i s xs b) left_is) ∙ l.answer;
            buffer = buffer_more s d ds b b₁ a p.0 p.1 z ∙ sym (ap (λ (xs : List Details). list_buffer s xs b) left_is) ∙ l.buffer;
          }

-- the state that the loop starts from is the one that was given
pub from_state : {s st : State} (ds : List Details) (b₀ : List ℕ) {r : IssuedList} {b : List ℕ} → s ≡ st → (r ≡ issued_list s ds b₀) × (b ≡ list_buffer s ds b₀)
    → (r ≡ issued_list st ds b₀) × (b ≡ list_buffer st ds b₀)
from_state ds b₀ e p = (p.0 ∙ ap (λ (x : State). issued_list x ds b₀) e, p.1 ∙ ap (λ (x : State). list_buffer x ds b₀) e)

-- ---- a list that is cut within details

module _ (st : State) where
  -- a receipt without a number gets 7, or 6 if the state is not sound
  cut_refused : (room : ℕ) → issue_number st no_details [] room ≡ 0 → ⊥
  cut_refused room z = omega (arith, (ask_zero (sound st room) 5 7 (sym (no_details_number st [] room) ∙ z)).1)

  pub none_issued : (buf : List ℕ) {s : State} {d : Details} {a : Issued} {b : List ℕ} → st ≡ s → d ≡ no_details
      → (a ≡ issued st d [] (length buf)) × (b ≡ issue_buffer st d [] buf)
      → (record { number = a.number; count = 0; state = st } ≡ issued_list s (no_details ∷ []) buf) × (b ≡ buf)
  none_issued buf {a = a} f e p =
      let q : a.number ≡ issue_number st no_details [] (length buf) =
      ap (λ (x : Issued). x.number) p.0 ∙ ap (λ (x : Details). (issued st x [] (length buf)).number) e ∙ issued-number st no_details [] (length buf) in
      let r = cut_refused (length buf) in (
        ap (λ (m : ℕ). answer_with m 0 st) q ∙ sym (answer_no _ st no_details [] buf r) ∙ ap (λ (x : State). issued_list x (no_details ∷ []) buf) f,
        p.1 ∙ ap (λ (x : Details). issue_buffer st x [] buf) e
            ∙ (refused_changes_nothing.issues st no_details [] buf (λ z. r (sym (issued-number st no_details [] (length buf)) ∙ z))).1,
      )

-- ---- the list that bytes stand for

module _ (list : List ℕ) where
  list_cut : (length list % 72 ≡ 0 → ⊥) → list_in list ≡ no_details ∷ []
  unfolding list_in
  list_cut h = rw (ne_eqb (length list % 72) 0 h)

  list_whole : length list % 72 ≡ 0 → list_in list ≡ details_from (length list / 72) list
  unfolding list_in
  list_whole h = rw (eq-eqb (length list % 72) 0 h)

  module _ (st : State) (buf : List ℕ) {r : IssuedList} {b : List ℕ} where
    pub cut_issued : (length list % 72 ≡ 0 → ⊥) → (r ≡ issued_list st (no_details ∷ []) buf) × (b ≡ buf)
        → (r ≡ issued_list st (list_in list) buf) × (b ≡ list_buffer st (list_in list) buf)
    cut_issued h p =
        let e = list_cut h in (
          p.0 ∙ sym (ap (λ (ds : List Details). issued_list st ds buf) e),
          p.1 ∙ sym (ap (λ (ds : List Details). list_buffer st ds buf) e ∙ buffer_no _ st no_details [] buf (cut_refused st (length buf))),
        )

    pub whole_issued : length list % 72 ≡ 0
        → (r ≡ issued_list st (details_from (length list / 72) list) buf) × (b ≡ list_buffer st (details_from (length list / 72) list) buf)
        → (r ≡ issued_list st (list_in list) buf) × (b ≡ list_buffer st (list_in list) buf)
    whole_issued h p =
        let e = sym (list_whole h) in
        (p.0 ∙ ap (λ (ds : List Details). issued_list st ds buf) e, p.1 ∙ ap (λ (ds : List Details). list_buffer st ds buf) e)

-- ---- the call from C

pub list_is : (g : Slices) (list : List ℕ) {a : IssuedList} {j b : List ℕ}
    → (a ≡ issued_list (state_of g.state) (list_in list) g.journal) × (j ≡ list_buffer (state_of g.state) (list_in list) g.journal) → b ≡ kept g.state a.state
    → (a.number ≡ listed_number g list) × (b ≡ (listed_slices g list).state) × (j ≡ (listed_slices g list).journal) × (a.count ≡ listed_count g list)
unfolding listed_number listed_count listed_slices list_answer
list_is g list p q = (
  ap (λ (x : IssuedList). x.number) p.0,
  q ∙ ap (λ (x : IssuedList). kept g.state x.state) p.0,
  p.1,
  ap (λ (x : IssuedList). x.count) p.0,
)

-- ---- a call that issues none

module _ (g : Slices) (list : List ℕ) where
  pub list_left : listed_count g list ≡ 0 → kept g.state (state_of g.state) ≡ g.state → listed_slices g list ≡ g
  unfolding listed_count listed_slices list_answer
  list_left z e =
      let r = refused_changes_nothing.lists (state_of g.state) (list_in list) g.journal z in
      let q = ap (kept g.state) r.0 ∙ e in
      λ i. record { state = q i; journal = r.1 i }

pub refused_list_keeps_slices : RefusedListKeepsSlices
refused_list_keeps_slices g a list z = list_left g list z (kept_as_it_was g.state a)

-- ---- an empty list

list_empty : list_in [] ≡ []
unfolding details_from
list_empty = list_whole [] refl

empty_answer : (g : Slices) → list_answer g [] ≡ answer_with 0 0 (state_of g.state)
unfolding list_answer
empty_answer g = ap (λ (ds : List Details). issued_list (state_of g.state) ds g.journal) list_empty ∙ (empty_list_changes_nothing (state_of g.state) g.journal).0

pub empty_list_changes_nothing_in_c : EmptyListChangesNothingInC
unfolding listed_number listed_count
empty_list_changes_nothing_in_c g a =
    let e = empty_answer g in
    let z = ap (λ (x : IssuedList). x.count) e in
    (ap (λ (x : IssuedList). x.number) e, z, refused_list_keeps_slices g a [] z)

-- ---- the call with a list that is cut within details

module _ (g : Slices) (list : List ℕ) (h : length list % 72 ≡ 0 → ⊥) where
  cut_answer : list_answer g list ≡ answer_with (issue_number (state_of g.state) no_details [] (length g.journal)) 0 (state_of g.state)
  unfolding list_answer
  cut_answer =
      let st = state_of g.state in
      ap (λ (ds : List Details). issued_list st ds g.journal) (list_cut list h) ∙ answer_no _ st no_details [] g.journal (cut_refused st (length g.journal))

  cut_count : listed_count g list ≡ 0
  unfolding listed_count
  cut_count = ap (λ (x : IssuedList). x.count) cut_answer

  cut_listed : listed_number g list ≡ issue_number (state_of g.state) no_details [] (length g.journal)
  unfolding listed_number
  cut_listed = ap (λ (x : IssuedList). x.number) cut_answer

pub cut_list_issues_none : CutListIssuesNone
cut_list_issues_none g list a h =
    let st = state_of g.state in
    let n = cut_listed g list h in
    let q = n ∙ no_details_number st [] (length g.journal) in
    let z = cut_count g list h in
    (z, refused_list_keeps_slices g a list z, λ s. q ∙ ask_yes 6 7 s, λ s. q ∙ ask_no 6 7 s)

-- ---- a state that is not 447 bytes long

unopened_lists : (ds : List Details) (buf : List ℕ)
    → ((issued_list unopened ds buf).count ≡ 0) × ((ds ≡ [] → ⊥) → (issued_list unopened ds buf).number ≡ 6)
unopened_lists [] buf = (ap (λ (x : IssuedList). x.count) (empty_list_changes_nothing unopened buf).0, λ some. absurd (some refl))
unopened_lists (d ∷ ds) buf =
    let n : issue_number unopened d [] (length buf) ≡ 6 = (unopened_gets_six d [] no_name (length buf)).0 in
    let e = answer_no amount_limit unopened d ds buf (λ z. omega arith) in
    (ap (λ (x : IssuedList). x.count) e, λ some. ap (λ (x : IssuedList). x.number) e ∙ n)

length_from : (k : ℕ) (b : List ℕ) → length (details_from k b) ≡ k
unfolding details_from
length_from zero b = refl
length_from (suc k) b = ap suc (length_from k (drop 72 b))

-- a list that is not empty stands for one that is not empty
list_some : (list : List ℕ) → (list ≡ [] → ⊥) → list_in list ≡ [] → ⊥
list_some [] some e = some refl
list_some (x ∷ xs) some e = go (eqb (length (x ∷ xs) % 72) 0) refl
  where
    go : (t : Bool) → eqb (length (x ∷ xs) % 72) 0 ≡ t → ⊥
    go true q =
        let w = eqb-true (length (x ∷ xs) % 72) 0 q in
        omega (arith, length_from (length (x ∷ xs) / 72) (x ∷ xs), ap length (sym (list_whole (x ∷ xs) w) ∙ e))
    go false q = omega (arith, ap length (sym (list_cut (x ∷ xs) (eqb-false (length (x ∷ xs) % 72) 0 q)) ∙ e))

pub list_six : (g : Slices) (list : List ℕ) → (length g.state ≡ 447 → ⊥) → (listed_count g list ≡ 0) × ((list ≡ [] → ⊥) → listed_number g list ≡ 6)
unfolding listed_number listed_count list_answer
list_six g list h =
    let e = ap (λ (x : State). issued_list x (list_in list) g.journal) (state_none g.state h) in
    let p = unopened_lists (list_in list) g.journal in
    (ap (λ (x : IssuedList). x.count) e ∙ p.0, λ some. ap (λ (x : IssuedList). x.number) e ∙ p.1 (list_some list some))

-- ---- a list as bytes is read back

abbrev AllTyped : List Details → Type 0
AllTyped ds = (i : ℕ) → i < length ds → TypedDetails (get_or ds i no_details)

all_tail : (d : Details) (ds : List Details) → AllTyped (d ∷ ds) → AllTyped ds
all_tail d ds t i h = t (suc i) (omega arith)

list_long : (ds : List Details) → AllTyped ds → length (pieces details_bytes ds) ≡ 72 * length ds
unfolding pieces
list_long [] t = refl
list_long (d ∷ ds) t =
    length-append (details_bytes d) (pieces details_bytes ds) ∙ omega (arith, (details_are_read d (t 0 (omega arith))).0, list_long ds (all_tail d ds t))

list_back : (ds : List Details) → AllTyped ds → details_from (length ds) (pieces details_bytes ds) ≡ ds
unfolding pieces details_from
list_back [] t = refl
list_back (d ∷ ds) t =
    let p = details_are_read d (t 0 (omega arith)) in
    let rest = pieces details_bytes ds in
    let e = ap details_in (take_at (details_bytes d) rest 72 p.0) ∙ p.1 in
    let f = ap (details_from (length ds)) (drop_at (details_bytes d) rest 72 p.0) ∙ list_back ds (all_tail d ds t) in
    λ i. e i ∷ f i

pub list_is_read : ListIsRead
list_is_read ds t =
    let l = list_long ds t in
    let n : length (pieces details_bytes ds) / 72 ≡ length ds = omega arith in
    list_whole (pieces details_bytes ds) (omega arith) ∙ ap (λ (k : ℕ). details_from k (pieces details_bytes ds)) n ∙ list_back ds t
