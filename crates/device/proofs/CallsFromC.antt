-- The slices of a C program hold what the journal's register holds, call by call.
use Rattle.std.proofs.Common.{ℕ, zero, suc, ◌*◌, ◌/◌, ◌%◌, ◌≤◌, ◌<◌, ◌≡◌, refl, sym, ap, ◌∙◌, subst, Bool, true, false, cond, List, [], ◌∷◌, ◌++◌, map, arith, eq-eqb, eqb-true, eqb, ℤ, length, take, drop, length-drop, length-take-le}
use Rattle.std.proofs.lemmas.Bool.{eqb-false}
use Rattle.primitives.specs.Bytes.{AllBytes}
use Rattle.primitives.specs.Questions.{ifZero}
use Rattle.primitives.proofs.ByteLists.{bytes_take, bytes_drop}
use Rattle.primitives.proofs.Counts.{part_length, count_lt}
use Rattle.receipt.specs.Settings.{name_of, TypedSettings}
use Rattle.receipt.specs.declared.settings.Settings.{Settings}
use Rattle.receipt.specs.declared.datetime.DateTime.{DateTime}
use Rattle.receipt.specs.declared.details.Kind.TheVariants.{Standard, Cancellation, Training}
use Rattle.receipt.specs.declared.details.Details.{Details}
use Rattle.receipt.proofs.Entries.{len_of, length_array, bytes_array}
use Rattle.journal.specs.State.{TypedName, TypedState, Opened}
use Rattle.journal.specs.Opening.{open_number, open_buffer}
use Rattle.journal.specs.Issuing.{issued, issue_buffer}
use Rattle.journal.specs.Listing.{issued_list, list_buffer}
use Rattle.journal.specs.Changing.{changed, change_buffer}
use Rattle.journal.specs.Receipts.{Receipt}
use Rattle.journal.specs.Valid.{Owner, Pair}
use Rattle.journal.specs.Calls.{TypedOrder, Call, issue, issue_list, change, TypedList, nothing, also, TypedCall, issues, lists, changes, TypedCalls, none, more, Register, opening, number_of, numbers_of, receipt_of_call, first_receipts, receipts_of_list, receipts_of, Period, periods_from, call, calls}
use Rattle.journal.specs.declared.state.State.{State}
use Rattle.journal.proofs.OpenCalls.{open_zero}
use Rattle.journal.proofs.Accepting.{owner_in}
use Rattle.journal.proofs.Pairs.{wider, empty_pair}
use Rattle.journal.proofs.Registers.{issue_kept, change_kept, widened, holds_list, entry_in, Holds, issue_length, issue_holds, issue_right, change_holds, opening_holds, opening_length}
use Rattle.journal.proofs.TypedStates.{holds_typed}
use Rattle.device.specs.Layout.{state_bytes, name_at, settings_at, key_at, no_settings, settings_of, width_of, key_of, state_of, kept}
use Rattle.device.specs.Details.{no_details, date_of, details_with, of_kind, details_of, number_in, amount_in, details_in, details_from, list_in}
use Rattle.device.specs.Calls.{Slices, opened_number, opened_slices, IssueCall, order_in, issue_answer, issued_number, issued_slices, list_answer, listed_number, listed_count, listed_slices, change_answer, changed_number, changed_slices}
use Rattle.device.specs.Demand as demand
use Rattle.device.specs.Demand.{TypedIssueCall, CallFromC, issuing, listing, changing, TypedCallFromC, TypedCallsFromC, call_in, number_from_c, slices_after, slices_after_all, numbers_from_c, receipts_of_list_from_c, receipts_from_c, periods_from_c, register_in}
use Rattle.device.proofs.Below.{opened_number_lem, opening_is, calls_none, calls_more, numbers_none, numbers_more, receipts_none, sections_none, issue_number_lem, issue_call, issue_receipts, issue_sections, list_number, list_call, list_issued, list_receipts, list_sections, failed_typed, change_number_lem, change_call, change_receipts, change_sections, changed_number_lem}
use Rattle.device.proofs.Sizes.{kept_all, open_six, open_answer_lem}
use Rattle.device.proofs.Slots.{typed_lengths}
use Rattle.device.proofs.Writers.{length_state}
use Rattle.device.proofs.Spelling.{state_is_read}
use Rattle.device.proofs.Zeros.{no_settings_get_one}

-- ---- the calls are typed

abbrev Small : Details → Type 0
Small d = (d.number < 4294967296) × (length d.amounts ≡ 5)

kind_small : (number : ℕ) (date : DateTime) (amounts : List ℤ) (kind : ℕ) → number < 4294967296 → length amounts ≡ 5 → Small (of_kind number date amounts kind)
unfolding of_kind details_with no_details
kind_small number date amounts kind h l = go (eqb kind 0) (eqb kind 1) (eqb kind 2)
  where
    go : (x y z : Bool)
        → Small (cond x (details_with number date amounts Standard) (cond y (details_with number date amounts Cancellation) (cond z (details_with number date amounts Training) no_details)))
    go true y z = (h, l)
    go false true z = (h, l)
    go false false true = (h, l)
    go false false false = (omega arith, refl)

pub order_typed : (c : IssueCall) → TypedIssueCall c → TypedOrder (order_in c)
unfolding order_in details_of
order_typed c t =
    let date = date_of c.year c.month c.day c.hour c.minute c.second in
    let amounts = c.standard ∷ c.reduced1 ∷ c.reduced2 ∷ c.zero ∷ c.special ∷ [] in
    let p = kind_small c.number date amounts c.kind t.number refl in
    record { number = p.0; amounts = p.1; bytes = t.signature }

-- the details of a list
module _ (b : List ℕ) (a : AllBytes b) (l : 72 ≤ length b) where
  in_small : Small (details_in b)
  unfolding details_in details_of number_in
  in_small =
      kind_small (number_in b 0) (date_of (number_in b 1) (number_in b 2) (number_in b 3) (number_in b 4) (number_in b 5) (number_in b 6))
      (amount_in b 0 ∷ amount_in b 1 ∷ amount_in b 2 ∷ amount_in b 3 ∷ amount_in b 4 ∷ []) (number_in b 7) (count_lt b a 0 4 (omega (arith, l))) refl

from_typed : (k : ℕ) (b : List ℕ) → AllBytes b → 72 * k ≤ length b → TypedList (details_from k b)
unfolding details_from
from_typed zero b a l = nothing
from_typed (suc k) b a l =
    let m : length (take 72 b) ≡ 72 = length-take-le 72 b (omega (arith, l)) in
    let p = in_small (take 72 b) (bytes_take 72 a) (omega (arith, m)) in
    also (failed_typed _ p.0 p.1) (from_typed k (drop 72 b) (bytes_drop 72 a) (omega (arith, l, length-drop 72 b)))

none_typed : TypedList (no_details ∷ [])
unfolding no_details
none_typed = also {d = no_details} (failed_typed no_details (omega arith) refl) nothing

pub list_typed : (b : List ℕ) → AllBytes b → TypedList (list_in b)
unfolding list_in
list_typed b a = go (eqb (length b % 72) 0)
  where
    go : (t : Bool) → TypedList (cond t (details_from (length b / 72) b) (no_details ∷ []))
    go true = from_typed (length b / 72) b a (omega arith)
    go false = none_typed

name_typed : (serial : List ℕ) → AllBytes serial → length serial < 18446744073709551616 → TypedName (name_of serial)
name_typed serial b l = record { long = length_array serial; bytes = bytes_array b; small = omega (arith, len_of serial) }

call_typed : (c : CallFromC) → TypedCallFromC c → TypedCall (call_in c)
unfolding call_in
call_typed (issuing c) (demand.issues t) = issues (order_typed c t)
call_typed (listing list) (demand.lists b) = lists (list_typed list b)
call_typed (changing serial) (demand.changes b l) = changes (name_typed serial b l)

pub calls_typed : (cs : List CallFromC) → TypedCallsFromC cs → TypedCalls (map call_in cs)
calls_typed [] demand.none = none
calls_typed (c ∷ cs) (demand.more t ts) = more (call_typed c t) (calls_typed cs ts)

-- ---- settings that were not refused

module _ (b : List ℕ) where
  settings_long : (shared : Bool) (room : ℕ) → open_number (settings_of b) shared (width_of b) room ≡ 0 → length b ≡ 123
  unfolding settings_of
  settings_long shared room z = go (eqb (length b) 123) refl z
    where
      go : (t : Bool) → eqb (length b) 123 ≡ t → open_number (cond t (settings_at b) no_settings) shared (width_of b) room ≡ 0 → length b ≡ 123
      go true e q = eqb-true (length b) 123 e
      go false e q = absurd (omega (arith, q, no_settings_get_one shared (width_of b) room))

  module _ (a : AllBytes b) (l : length b ≡ 123) where
    pub settings_typed : TypedSettings (settings_of b)
    unfolding settings_of settings_at name_at
    settings_typed =
        rw (eq-eqb (length b) 123 l) (record {
          lengths = record { csp = part_length b a 0 3 (omega arith); id = part_length b a 3 32 (omega arith); serial = part_length b a 43 32 (omega arith) };
          bytes = record { csp = bytes_take 3 (bytes_drop 0 a); id = bytes_take 32 (bytes_drop 3 a); serial = bytes_take 32 (bytes_drop 43 a) };
        })

    key_typed : (length (key_of b) ≡ 32) × AllBytes (key_of b)
    unfolding key_of key_at
    key_typed = rw (eq-eqb (length b) 123 l) (part_length b a 91 32 (omega arith), bytes_take 32 (bytes_drop 91 a))

pub open_accepted : (b : List ℕ) (shared : Bool) (g : Slices) → opened_number b shared g ≡ 0 → (length g.state ≡ 447) × (open_number (settings_of b) shared (width_of b) (length g.journal) ≡ 0)
unfolding opened_number
open_accepted b shared g z = go (eqb (length g.state) 447) refl
  where
    go : (t : Bool) → eqb (length g.state) 447 ≡ t → (length g.state ≡ 447) × (open_number (settings_of b) shared (width_of b) (length g.journal) ≡ 0)
    go true e =
        let h = eqb-true (length g.state) 447 e in
        (h, sym (ap (λ (x : Opened). x.number) (open_answer_lem b shared (length g.journal) (length g.state) h) ∙ opened_number_lem (settings_of b) (key_of b) shared (width_of b) (length g.journal)) ∙ z)
    go false e =
        let q : ◌≡◌ {A = ℕ} 0 6 = sym z ∙ ap (λ (x : Opened). x.number) (open_six b shared (length g.journal) (length g.state) (eqb-false (length g.state) 447 e)) in
        absurd (omega arith)

-- ---- the slices of a register

unfoldable pub slices_of : Register → Slices
slices_of g = record { state = state_bytes g.state; journal = g.buf }

pub opened_same : (b : List ℕ) (shared : Bool) (g : Slices) → length g.state ≡ 447 → opened_slices b shared g ≡ slices_of (register_in b shared g.journal)
unfolding opened_slices slices_of
opened_same b shared g l =
    let p = kept_all g.state _ l ∙ ap (λ (x : Opened). state_bytes x.state) (open_answer_lem b shared (length g.journal) (length g.state) l) in
    let q = ap (λ (t : Bool). cond t (open_buffer (settings_of b) shared (width_of b) g.journal) g.journal) (eq-eqb (length g.state) 447 l) in
    (λ i. record { state = p i; journal = q i }) ∙ ap slices_of (sym (opening_is (settings_of b) (key_of b) shared (width_of b) g.journal))

module _ (g : Register) (t : TypedState g.state) where
  st : State
  st = state_of (state_bytes g.state)

  is_read : st ≡ g.state
  unfolding st
  is_read = state_is_read g.state t

  is_kept : (x : State) → kept (state_bytes g.state) x ≡ state_bytes x
  is_kept x = kept_all (state_bytes g.state) x (length_state g.state (typed_lengths t))

  pub after_same : (c : CallFromC) → slices_after (slices_of g) c ≡ slices_of (call g (call_in c))
  unfolding slices_after slices_of call_in issued_slices issue_answer listed_slices list_answer changed_slices change_answer order_in st
  after_same (issuing c) =
      let o = order_in c in
      let n = length g.buf in
      let k = is_kept (issued st o.details c.signature n).state ∙ ap (λ (x : State). state_bytes (issued x o.details c.signature n).state) is_read in
      (λ i. record { state = k i; journal = issue_buffer (is_read i) o.details c.signature g.buf }) ∙ ap slices_of (sym (issue_call g (order_in c)))
  after_same (listing list) =
      let ds = list_in list in
      let k = is_kept (issued_list st ds g.buf).state ∙ ap (λ (x : State). state_bytes (issued_list x ds g.buf).state) is_read in
      (λ i. record { state = k i; journal = list_buffer (is_read i) ds g.buf }) ∙ ap slices_of (sym (list_call g ds))
  after_same (changing serial) =
      let n = length g.buf in
      let k = is_kept (changed st (name_of serial) n).state ∙ ap (λ (x : State). state_bytes (changed x (name_of serial) n).state) is_read in
      (λ i. record { state = k i; journal = change_buffer (is_read i) (name_of serial) g.buf }) ∙ ap slices_of (sym (change_call g (name_of serial)))

  pub number_same : (c : CallFromC) → number_from_c (slices_of g) c ≡ number_of g (call_in c)
  unfolding number_from_c slices_of call_in issued_number issue_answer listed_number list_answer changed_number change_answer order_in st
  number_same (issuing c) = ap (λ (x : State). (issued x (order_in c).details c.signature (length g.buf)).number) is_read ∙ sym (issue_number_lem g (order_in c))
  number_same (listing list) = ap (λ (x : State). (issued_list x (list_in list) g.buf).number) is_read ∙ sym (list_number g (list_in list))
  number_same (changing serial) = ap (λ (x : State). (changed x (name_of serial) (length g.buf)).number) is_read ∙ sym (change_number_lem g (name_of serial))

  pub count_same : (list : List ℕ) → listed_count (slices_of g) list ≡ (issued_list g.state (list_in list) g.buf).count
  unfolding listed_count list_answer slices_of st
  count_same list = ap (λ (x : State). (issued_list x (list_in list) g.buf).count) is_read

  issued_same : (list : List ℕ) → receipts_of_list_from_c (slices_of g) list ≡ receipts_of_list g (list_in list)
  unfolding receipts_of_list_from_c
  issued_same list =
      ap (λ (k : ℕ). first_receipts k (list_in list)) (count_same list) ∙ sym (list_issued g (list_in list))

-- a list of calls leaves and returns the same, and its receipts and sections are the same
pub record Same (g : Register) (cs : List CallFromC) : Type 0 where
  pub slices : slices_after_all (slices_of g) cs ≡ slices_of (calls g (map call_in cs))
  pub numbers : numbers_from_c (slices_of g) cs ≡ numbers_of g (map call_in cs)
  pub receipts : receipts_from_c (slices_of g) cs ≡ receipts_of g (map call_in cs)
  pub periods : (x : Period) → periods_from_c (slices_of g) x cs ≡ periods_from g x (map call_in cs)
  pub typed : TypedState (calls g (map call_in cs)).state

-- one more call
module _ (g : Register) (t : TypedState g.state) (cs : List CallFromC) where
  more_receipts : (c : CallFromC) → Same (call g (call_in c)) cs → receipts_from_c (slices_of g) (c ∷ cs) ≡ receipts_of g (call_in c ∷ map call_in cs)
  unfolding receipts_from_c call_in slices_after number_from_c
  more_receipts (issuing c) p =
      let z = number_same g t (issuing c) in
      let rs = ap (λ (x : Slices). receipts_from_c x cs) (after_same g t (issuing c)) ∙ p.receipts in
      (λ i. ifZero (z i) (receipt_of_call (order_in c) ∷ rs i) (rs i)) ∙ sym (issue_receipts g (order_in c) (map call_in cs))
  more_receipts (listing list) p =
      let rs = ap (λ (x : Slices). receipts_from_c x cs) (after_same g t (listing list)) ∙ p.receipts in
      (λ i. issued_same g t list i ++ rs i) ∙ sym (list_receipts g (list_in list) (map call_in cs))
  more_receipts (changing serial) p =
      ap (λ (x : Slices). receipts_from_c x cs) (after_same g t (changing serial)) ∙ p.receipts ∙ sym (change_receipts g (name_of serial) (map call_in cs))

  more_sections : (c : CallFromC) → Same (call g (call_in c)) cs → (x : Period) → periods_from_c (slices_of g) x (c ∷ cs) ≡ periods_from g x (call_in c ∷ map call_in cs)
  unfolding periods_from_c call_in slices_after number_from_c
  more_sections (issuing c) p x =
      let z = number_same g t (issuing c) in
      let e = after_same g t (issuing c) in
      let y : Period = record { serial = x.serial; receipts = x.receipts ++ (receipt_of_call (order_in c) ∷ []) } in
      let xs = ap (λ (s : Slices). periods_from_c s y cs) e ∙ p.periods y in
      let ys = ap (λ (s : Slices). periods_from_c s x cs) e ∙ p.periods x in
      (λ i. ifZero (z i) (xs i) (ys i)) ∙ sym (issue_sections g (order_in c) x (map call_in cs))
  more_sections (listing list) p x =
      let y : Period = record { serial = x.serial; receipts = x.receipts ++ receipts_of_list g (list_in list) } in
      ap (λ (l : List Receipt). periods_from_c (listed_slices (slices_of g) list) (record { serial = x.serial; receipts = x.receipts ++ l }) cs) (issued_same g t list)
      ∙ ap (λ (s : Slices). periods_from_c s y cs) (after_same g t (listing list))
      ∙ p.periods y
      ∙ sym (list_sections g (list_in list) x (map call_in cs))
  more_sections (changing serial) p x =
      let z = number_same g t (changing serial) in
      let e = after_same g t (changing serial) in
      let y : Period = record { serial = name_of serial; receipts = [] } in
      let xs = ap (λ (s : Slices). periods_from_c s y cs) e ∙ p.periods y in
      let ys = ap (λ (s : Slices). periods_from_c s x cs) e ∙ p.periods x in
      (λ i. ifZero (z i) (x ∷ xs i) (ys i)) ∙ sym (change_sections g (name_of serial) x (map call_in cs))

  pub more_same : (c : CallFromC) → Same (call g (call_in c)) cs → Same g (c ∷ cs)
  unfolding slices_after_all numbers_from_c
  more_same c p =
      let e = after_same g t c in
      let z = number_same g t c in
      let m = sym (calls_more g (call_in c) (map call_in cs)) in
      let ns = ap (λ (x : Slices). numbers_from_c x cs) e ∙ p.numbers in
      record {
        slices = ap (λ (x : Slices). slices_after_all x cs) e ∙ p.slices ∙ ap slices_of m;
        numbers = (λ i. z i ∷ ns i) ∙ sym (numbers_more g (call_in c) (map call_in cs));
        receipts = more_receipts c p;
        periods = more_sections c p;
        typed = subst (λ (x : Register). TypedState x.state) m p.typed;
      }

pub none_same : (g : Register) → TypedState g.state → Same g []
unfolding slices_after_all numbers_from_c receipts_from_c periods_from_c
none_same g t =
    let e = sym (calls_none g) in
    record {
      slices = ap slices_of e;
      numbers = sym (numbers_none g);
      receipts = sym (receipts_none g);
      periods = λ x. sym (sections_none g x);
      typed = subst (λ (x : Register). TypedState x.state) e t;
    }

-- ---- a register that holds pairs, in a buffer whose length is a number of 64 bits

record Held (k : List ℕ) (n : ℕ) (o : Owner) (g : Register) : Type 0 where
  before : List Pair
  pair : Pair
  holds : Holds k n o g (before ++ (pair ∷ []))
  small : length g.buf < 18446744073709551616

module _ (k : List ℕ) (n : ℕ) (o : Owner) (kl : length k ≡ 32) (kb : AllBytes k) where
  -- one call leaves such a register
  held_call : (g : Register) (c : Call) → TypedCall c → Held k n o g → Held k n o (call g c)
  held_call g (issue c) (issues tc) h = go (number_of g (issue c)) refl
    where
      go : (m : ℕ) → number_of g (issue c) ≡ m → Held k n o (call g (issue c))
      go zero e =
          let r = issue_right k n o g h.before h.pair h.holds c e kb tc in
          record {
            before = h.before;
            pair = wider h.pair (entry_in g c);
            holds = issue_holds k n o g h.before h.pair h.holds c e r;
            small = omega (arith, h.small, issue_length k n o g h.before h.pair h.holds c e);
          }
      go (suc m) e = subst (Held k n o) (sym (issue_kept g c (λ q. omega (arith, e, q)))) h
  held_call g (issue_list ds) (lists ts) h =
      let p = holds_list k n o kb ds g h.before h.pair ts h.holds in
      record { before = h.before; pair = widened g h.pair ds; holds = p.0; small = omega (arith, h.small, p.1) }
  held_call g (change s) (changes ts) h = go (number_of g (change s)) refl
    where
      go : (m : ℕ) → number_of g (change s) ≡ m → Held k n o (call g (change s))
      go zero e =
          let p = change_holds k n o g h.before h.pair h.holds s (sym (change_number_lem g s ∙ changed_number_lem g.state s (length g.buf)) ∙ e) ts in
          record { before = h.before ++ (h.pair ∷ []); pair = empty_pair s; holds = p.0; small = omega (arith, h.small, p.1) }
      go (suc m) e = subst (Held k n o) (sym (change_kept g s (λ q. omega (arith, e, q)))) h

  all_same : (cs : List CallFromC) (g : Register) → TypedCallsFromC cs → Held k n o g → Same g cs
  all_same [] g demand.none h = none_same g (holds_typed h.before h.pair kl kb h.small h.holds)
  all_same (c ∷ cs) g (demand.more t ts) h =
      more_same g (holds_typed h.before h.pair kl kb h.small h.holds) cs c (all_same cs (call g (call_in c)) ts (held_call g (call_in c) (call_typed c t) h))

-- ---- from an Open that was not refused

-- all calls, in a buffer whose length is a number of 64 bits
pub same_calls : (s : Settings) (shared : Bool) (n : ℕ) (key buf : List ℕ) → TypedSettings s → length key ≡ 32 → AllBytes key → length buf < 18446744073709551616
    → open_number s shared n (length buf) ≡ 0 → (cs : List CallFromC) → TypedCallsFromC cs → Same (opening s key shared n buf) cs
same_calls s shared n key buf ts kl kb l z cs tcs =
    let o = open_zero s shared n (length buf) z in
    let h = opening_holds s n key ts o.0 o.1 buf shared z in
    let m = opening_length s n key ts o.0 o.1 buf shared z in
    all_same key n (owner_in s) kl kb cs (opening s key shared n buf) tcs (record { before = []; pair = empty_pair s.serial; holds = h; small = omega (arith, m, l) })

-- what the types say of settings that ditgrux_open or ditgrux_open_shared accepted
pub opened_typed : (b : List ℕ) (shared : Bool) (g : Slices) → AllBytes b → opened_number b shared g ≡ 0
    → TypedSettings (settings_of b) × (length (key_of b) ≡ 32) × AllBytes (key_of b)
opened_typed b shared g a z =
    let l = settings_long b shared (length g.journal) (open_accepted b shared g z).1 in
    let k = key_typed b a l in
    (settings_typed b a l, k.0, k.1)
