-- Laws of definitions of the lower crates that those crates do not state. Apart from proofs/Zeros.antt, which computes, this is the only
-- file of the crate that unfolds a definition of a lower one.
use Rattle.std.proofs.Common.{ℕ, zero, suc, ◌^◌, ◌<◌, ◌≡◌, refl, sym, ap, ◌∙◌, subst, Bool, true, cond, List, [], ◌∷◌, ◌++◌, arith, leb-true, lt-ltb, leb, length, take}
use lib.Signed.{mag}
use Rattle.primitives.specs.Counter.{counter_fits}
use Rattle.primitives.specs.Questions.{ifZero}
use Rattle.primitives.proofs.ByteLists.{bytes_nil}
use Rattle.primitives.proofs.Rows.{both, ifZero-yes}
use Rattle.primitives.proofs.Twos.{width_true, half_small, fits_below, fits_64, counted}
use Rattle.receipt.specs.DateTime.{days_in, day_good, time_good, date_good}
use Rattle.receipt.specs.declared.settings.Name.{Name}
use Rattle.receipt.specs.declared.settings.Settings.{Settings}
use Rattle.receipt.specs.declared.datetime.DateTime.{DateTime}
use Rattle.receipt.specs.declared.details.Details.{Details}
use Rattle.receipt.specs.Details.{After}
use Rattle.receipt.specs.declared.entry.Entry.{Entry}
use Rattle.receipt.proofs.Dates.{days_few}
use Rattle.journal.specs.Opening.{open_number, opened, open_buffer}
use Rattle.journal.specs.State.{TypedState}
use Rattle.journal.specs.Head.{head_settings}
use Rattle.journal.specs.Step.{fresh, new_counter, next}
use Rattle.journal.specs.Issuing.{text_of, issue_number, issued, issued_within, issue_buffer}
use Rattle.journal.specs.Listing.{issued_list, list_buffer}
use Rattle.journal.specs.Checking.{head_number, check_head, refused, accepted}
use Rattle.journal.specs.Parts.{checks_after, check_in_parts}
use Rattle.journal.specs.Changing.{change_number, changed, change_buffer}
use Rattle.journal.specs.Valid.{Owner, Pair, settings_for, placed_under, all_placed, head_of}
use Rattle.journal.specs.Calls.{Order, failed_order, TypedOrder, Call, issue, issue_list, change, Register, journal_of, opening, number_of, numbers_of, receipt_of_call, first_receipts, receipts_of_list, receipts_of, Period, periods_from, call, call_within, calls, calls_within, order_of, issues_of, later_calls, calls_of}
use Rattle.journal.specs.declared.state.State.{State}
use Rattle.journal.proofs.Check.{new_fits, new_is}
use Rattle.journal.proofs.Answers.{chain-eight, issue-zero}

-- ---- receipt

-- a date of the calendar has numbers of 32 bits
pub record Words (t : DateTime) : Type 0 where
  pub year : t.year < 4294967296
  pub month : t.month < 4294967296
  pub day : t.day < 4294967296
  pub hour : t.hour < 4294967296
  pub minute : t.minute < 4294967296
  pub second : t.second < 4294967296

pub date_words : (t : DateTime) → date_good t ≡ true → Words t
unfolding date_good day_good time_good
date_words t h =
    let p = both (day_good t) (time_good t) h in
    let y = (both (leb 2000 t.year) _ p.0).1 in
    let m = both (leb t.year 2099) _ y in
    let d = both (leb t.month 12) _ (both (leb 1 t.month) _ m.1).1 in
    let e = (both (leb 1 t.day) _ d.1).1 in
    let u = both (leb t.hour 23) _ p.1 in
    let v = both (leb t.minute 59) _ u.1 in
    record {
      year = omega (arith, leb-true t.year 2099 m.0);
      month = omega (arith, leb-true t.month 12 d.0);
      day = omega (arith, leb-true t.day (days_in t.year t.month) e, days_few t.year t.month);
      hour = omega (arith, leb-true t.hour 23 u.0);
      minute = omega (arith, leb-true t.minute 59 v.0);
      second = omega (arith, leb-true t.second 59 v.1);
    }

-- ---- journal: a register

pub opened_number_lem : (s : Settings) (key : List ℕ) (shared : Bool) (n room : ℕ) → (opened s key shared n room).number ≡ open_number s shared n room
unfolding opened
opened_number_lem s key shared n room = refl

pub opening_is : (s : Settings) (key : List ℕ) (shared : Bool) (n : ℕ) (buf : List ℕ)
    → opening s key shared n buf ≡ record { state = (opened s key shared n (length buf)).state; buf = open_buffer s shared n buf }
unfolding opening
opening_is s key shared n buf = refl

pub journal_is : (g : Register) → journal_of g ≡ take g.state.length g.buf
unfolding journal_of
journal_is g = refl

pub accepted_is : (st : State) → accepted st ≡ record { number = 0; index = 0; state = st }
unfolding accepted
accepted_is st = refl

-- ---- journal: a check in parts

pub head_index : (j key : List ℕ) (n : ℕ) → (check_head j key n).index ≡ 0
unfolding check_head accepted refused ifZero
head_index j key n = go (head_number j n)
  where
    go : (m : ℕ) → (ifZero m (accepted (fresh (head_settings j) n key)) (refused m 0)).index ≡ 0
    go zero = refl
    go (suc m) = refl

pub in_parts_is : (j key : List ℕ) (n : ℕ) (ns : List ℕ) → check_in_parts j key n ns ≡ checks_after (check_head j key n) j ns
unfolding check_in_parts
in_parts_is j key n ns = refl

-- ---- journal: a call, and lists of calls

module _ (g : Register) where
  pub calls_none : calls g [] ≡ g
  unfolding calls_within
  calls_none = refl

  pub numbers_none : numbers_of g [] ≡ []
  unfolding numbers_of
  numbers_none = refl

  pub receipts_none : receipts_of g [] ≡ []
  unfolding receipts_of
  receipts_none = refl

  pub sections_none : (x : Period) → periods_from g x [] ≡ x ∷ []
  unfolding periods_from
  sections_none x = refl

module _ (g : Register) (c : Call) (cs : List Call) where
  pub calls_more : calls g (c ∷ cs) ≡ calls (call g c) cs
  unfolding calls_within
  calls_more = refl

  pub numbers_more : numbers_of g (c ∷ cs) ≡ number_of g c ∷ numbers_of (call g c) cs
  unfolding numbers_of
  numbers_more = refl

module _ (g : Register) (c : Order) where
  pub issue_number_lem : number_of g (issue c) ≡ (issued g.state c.details c.signature (length g.buf)).number
  unfolding number_of issued_within
  issue_number_lem = refl

  pub issue_call : call g (issue c)
      ≡ record {
        state = (issued g.state c.details c.signature (length g.buf)).state;
        buf = issue_buffer g.state c.details c.signature g.buf;
      }
  unfolding call_within
  issue_call = refl

  pub issue_receipts : (cs : List Call)
      → receipts_of g (issue c ∷ cs) ≡ ifZero (number_of g (issue c)) (receipt_of_call c ∷ receipts_of (call g (issue c)) cs) (receipts_of (call g (issue c)) cs)
  unfolding receipts_of
  issue_receipts cs = refl

  pub issue_sections : (x : Period) (cs : List Call)
      → periods_from g x (issue c ∷ cs)
      ≡ ifZero (number_of g (issue c)) (periods_from (call g (issue c)) (record { serial = x.serial; receipts = x.receipts ++ (receipt_of_call c ∷ []) }) cs)
      (periods_from (call g (issue c)) x cs)
  unfolding periods_from
  issue_sections x cs = refl

module _ (g : Register) (ds : List Details) where
  pub list_number : number_of g (issue_list ds) ≡ (issued_list g.state ds g.buf).number
  unfolding number_of
  list_number = refl

  pub list_call : call g (issue_list ds) ≡ record { state = (issued_list g.state ds g.buf).state; buf = list_buffer g.state ds g.buf }
  unfolding call_within
  list_call = refl

  pub list_issued : receipts_of_list g ds ≡ first_receipts (issued_list g.state ds g.buf).count ds
  unfolding receipts_of_list
  list_issued = refl

  pub list_receipts : (cs : List Call) → receipts_of g (issue_list ds ∷ cs) ≡ receipts_of_list g ds ++ receipts_of (call g (issue_list ds)) cs
  unfolding receipts_of
  list_receipts cs = refl

  pub list_sections : (x : Period) (cs : List Call)
      → periods_from g x (issue_list ds ∷ cs)
      ≡ periods_from (call g (issue_list ds)) (record { serial = x.serial; receipts = x.receipts ++ receipts_of_list g ds }) cs
  unfolding periods_from
  list_sections x cs = refl

-- what the types say of a receipt of a list
pub failed_typed : (d : Details) → d.number < 4294967296 → length d.amounts ≡ 5 → TypedOrder (failed_order d)
unfolding failed_order
failed_typed d h l = record { number = h; amounts = l; bytes = bytes_nil }

module _ (g : Register) (s : Name) where
  pub change_number_lem : number_of g (change s) ≡ (changed g.state s (length g.buf)).number
  unfolding number_of changed
  change_number_lem = refl

  pub change_call : call g (change s) ≡ record { state = (changed g.state s (length g.buf)).state; buf = change_buffer g.state s g.buf }
  unfolding call_within
  change_call = refl

  pub change_receipts : (cs : List Call) → receipts_of g (change s ∷ cs) ≡ receipts_of (call g (change s)) cs
  unfolding receipts_of
  change_receipts cs = refl

  pub change_sections : (x : Period) (cs : List Call)
      → periods_from g x (change s ∷ cs)
      ≡ ifZero (number_of g (change s)) (x ∷ periods_from (call g (change s)) (record { serial = s; receipts = [] }) cs) (periods_from (call g (change s)) x cs)
  unfolding periods_from
  change_sections x cs = refl

pub changed_number_lem : (st : State) (s : Name) (room : ℕ) → (changed st s room).number ≡ change_number st s room
unfolding changed
changed_number_lem st s room = refl

-- what the types say of the state after an Issue that is not refused
pub issued_typed : (st : State) (d : Details) (sig : List ℕ) (room : ℕ) → TypedState st → d.number < 4294967296 → room < 18446744073709551616
    → issue_number st d sig room ≡ 0 → TypedState (issued st d sig room).state
unfolding issued_within next
issued_typed st d sig room t number small z =
    let a = issue-zero st d sig room z in
    let x = (new_counter st d).counter in
    let e = ap (λ (y : After). y.counter) (new_is st d a.details.counter) in
    let f = counted st.width x (ap (counter_fits st.width) e ∙ (new_fits st d a.details.counter).fits) in
    let c = chain-eight (text_of st d sig) in
    subst TypedState (sym (ifZero-yes (next st d (text_of st d sig)) st z)) (record {
      csp = t.csp;
      id = t.id;
      eight = t.eight;
      serials = t.serials;
      width = t.width;
      key_length = t.key_length;
      key_bytes = t.key_bytes;
      counter = fits_64 x ∙ lt-ltb (mag x) (2 ^ 63) (omega (arith, fits_below st.width x f.fits, half_small st.width (width_true st.width f.width).most));
      last = number;
      issued = omega (arith, a.sound.issued, a.details.above);
      chain = c.long;
      chain_bytes = c.bytes;
      in_journal = omega (arith, a.fits);
      since = omega (arith, a.sound.since, a.sound.issued, a.details.above);
      place = t.place;
    })

-- ---- journal: the calls of entries and pairs

pub order_details : (e : Entry) → (order_of e).details ≡ e.fields.details
unfolding order_of
order_details e = refl

pub order_signature : (e : Entry) → (order_of e).signature ≡ cond e.signature.failed [] e.signature.bytes
unfolding order_of
order_signature e = refl

pub issues_none : issues_of [] ≡ []
unfolding issues_of
issues_none = refl

pub issues_more : (e : Entry) (es : List Entry) → issues_of (e ∷ es) ≡ issue (order_of e) ∷ issues_of es
unfolding issues_of
issues_more e es = refl

pub later_none : later_calls [] ≡ []
unfolding later_calls
later_none = refl

pub later_more : (p : Pair) (ps : List Pair) → later_calls (p ∷ ps) ≡ change p.serial ∷ (issues_of p.entries ++ later_calls ps)
unfolding later_calls
later_more p ps = refl

pub pairs_none : calls_of [] ≡ []
unfolding calls_of
pairs_none = refl

pub pairs_more : (p : Pair) (ps : List Pair) → calls_of (p ∷ ps) ≡ issues_of p.entries ++ later_calls ps
unfolding calls_of
pairs_more p ps = refl

-- ---- journal: the entries of pairs

pub placed_more : (s : Settings) (e : Entry) (es : List Entry) → placed_under s (e ∷ es) ≡ record { settings = s; entry = e } ∷ placed_under s es
unfolding placed_under
placed_more s e es = refl

pub all_more : (o : Owner) (p : Pair) (ps : List Pair) → all_placed o (p ∷ ps) ≡ placed_under (settings_for o p.serial) p.entries ++ all_placed o ps
unfolding all_placed
all_more o p ps = refl

pub head_is : (o : Owner) (p : Pair) (ps : List Pair) → head_of o (p ∷ ps) ≡ settings_for o p.serial
unfolding head_of
head_is o p ps = refl
