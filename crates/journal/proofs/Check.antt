-- One entry: the checker accepts exactly the texts of right entries.
use Rattle.std.proofs.Common.{ℕ, ◌+◌, ◌<◌, ◌≡◌, refl, sym, ap, ◌∙◌, Bool, true, false, cond, not, ◌||◌, List, ◌++◌, arith, ltb-true, lt-ltb, eqb-true, eq-eqb, eqb, ℤ, ◌+ℤ◌, length}
use Rattle.primitives.specs.Bytes.{AllBytes}
use Rattle.primitives.specs.Counter.{counter_fits}
use Rattle.primitives.specs.Aes.{key_schedule}
use Rattle.primitives.proofs.ByteLists.{bytes_take, bytes_drop, same_refl, same_true}
use Rattle.receipt.specs.Details.{standard, amounts_good, start_good, counted, After}
use Rattle.receipt.specs.Chain.{decrypted_counter}
use Rattle.receipt.specs.Compact.{compact, spellable, read_entry, TypedEntry, Found}
use Rattle.receipt.specs.Exact.{Spelled}
use Rattle.receipt.specs.declared.details.Kind.{Kind}
use Rattle.receipt.specs.declared.details.Kind.TheVariants.{Standard}
use Rattle.receipt.specs.declared.details.Details.{Details}
use Rattle.receipt.specs.declared.payload.PayloadFields.{PayloadFields}
use Rattle.receipt.specs.declared.entry.Entry.{Entry}
use Rattle.primitives.proofs.Rows.{both, ask_zero}
use Rattle.receipt.proofs.Counting.{Added, after_yes, after_fits}
use Rattle.receipt.proofs.ExactEntry.{back, compact_short, exact}
use Rattle.journal.specs.Head.{entry_text, length_at, text_at}
use Rattle.receipt.specs.Settings.{TypedSettings}
use Rattle.primitives.specs.Questions.{ask}
use Rattle.journal.specs.Step.{number_above, first_good, new_counter, next}
use Rattle.journal.specs.Checking.{found, equal, counter_right, context_number, text_number, after, entry_number}
use Rattle.journal.specs.Valid.{Right}
use Rattle.journal.specs.declared.state.State.{State}
use Rattle.journal.proofs.Equal.{equal_true, equal_refl}
use Rattle.receipt.proofs.Entries.{admitted, standard_is}
use Rattle.journal.proofs.Places.{text_at_lem, there_at}
use Rattle.journal.specs.State.{settings_now}

-- ---- a state's entries

-- the schedule of a state's key
abbrev pub schedule_of : State → List (List ℕ)
schedule_of st = key_schedule st.key

abbrev pub RightAt : State → Entry → Type 0
RightAt st e = Right (settings_now st) st.key st.width st.last st.issued st.counter st.chain e

-- the compact form of an entry under a state's settings
abbrev pub text_in : State → Entry → List ℕ
text_in st e = compact (settings_now st) st.width e

abbrev pub step : State → Entry → State
step st e = next st e.fields.details (text_in st e)

-- ---- the questions of one entry

module _ (st : State) (d : Details) where
  pub first_yes : (st.issued ≡ 0 → start_good d ≡ true) → first_good st d ≡ true
  unfolding first_good
  first_yes h = go (eqb st.issued 0) refl
    where
      go : (t : Bool) → eqb st.issued 0 ≡ t → cond t (start_good d) true ≡ true
      go true e = h (eqb-true st.issued 0 e)
      go false e = refl

  pub first_true : first_good st d ≡ true → st.issued ≡ 0 → start_good d ≡ true
  unfolding first_good
  first_true g e = sym (ap (λ (t : Bool). cond t (start_good d) true) (eq-eqb st.issued 0 e)) ∙ g

  pub above_yes : st.last < d.number → number_above st d ≡ true
  unfolding number_above
  above_yes h = lt-ltb st.last d.number h

  pub above_true : number_above st d ≡ true → st.last < d.number
  unfolding number_above
  above_true e = ltb-true st.last d.number e

  -- the new counter is the sum if it fits
  pub new_yes : amounts_good d.amounts ≡ true → counter_fits st.width (st.counter +ℤ counted d) ≡ true
      → new_counter st d ≡ record { fits = true; counter = st.counter +ℤ counted d }
  unfolding new_counter
  new_yes g f = after_yes st.width st.counter d g f

  pub new_fits : (new_counter st d).fits ≡ true → Added st.width st.counter d
  unfolding new_counter
  new_fits e = after_fits st.width st.counter d e

  pub new_is : (new_counter st d).fits ≡ true → new_counter st d ≡ record { fits = true; counter = st.counter +ℤ counted d }
  unfolding new_counter
  new_is e = (after_fits st.width st.counter d e).is

-- the decrypted counter of a standard receipt
abbrev pub decrypted_in : State → PayloadFields → ℤ
decrypted_in st f = decrypted_counter (key_schedule st.key) (settings_now st).id f.details.number st.width f.counter

module _ (st : State) (f : PayloadFields) where
  pub right_yes : new_counter st f.details ≡ record { fits = true; counter = st.counter +ℤ counted f.details }
      → (f.details.kind ≡ Standard → decrypted_in st f ≡ st.counter +ℤ counted f.details) → counter_right (schedule_of st) st f ≡ true
  unfolding counter_right
  right_yes n h = rw n (go (standard f.details.kind) refl)
    where
      go : (t : Bool) → standard f.details.kind ≡ t → not t || equal (decrypted_in st f) (st.counter +ℤ counted f.details) ≡ true
      go true e = ap (λ (z : ℤ). equal z (st.counter +ℤ counted f.details)) (h (standard_is f.details.kind e)) ∙ equal_refl (st.counter +ℤ counted f.details)
      go false e = refl

  pub right_fits : counter_right (schedule_of st) st f ≡ true → (new_counter st f.details).fits ≡ true
  unfolding counter_right
  right_fits e = (both _ _ e).0

  pub right_true : counter_right (schedule_of st) st f ≡ true → f.details.kind ≡ Standard → decrypted_in st f ≡ st.counter +ℤ counted f.details
  unfolding counter_right
  right_true e k =
      let q : not (standard f.details.kind) || equal (decrypted_in st f) (new_counter st f.details).counter ≡ true = (both (new_counter st f.details).fits _ e).1 in
      let r : equal (decrypted_in st f) (new_counter st f.details).counter ≡ true = sym (ap (λ (x : Kind). not (standard x) || equal (decrypted_in st f) (new_counter st f.details).counter) k) ∙ q in
      equal_true _ _ r ∙ ap (λ (a : After). a.counter) (new_is st f.details (right_fits e))

-- ---- one entry

pub right_new : (st : State) (e : Entry) → RightAt st e
    → new_counter st e.fields.details ≡ record { fits = true; counter = st.counter +ℤ counted e.fields.details }
right_new st e h = new_yes st e.fields.details (admitted (settings_now st) st.width e h.spelled).amounts h.counter.fits

pub found_is : (st : State) (e : Entry) → TypedSettings (settings_now st) → RightAt st e → found st (text_in st e) ≡ record { ok = true; entry = e }
unfolding found
found_is st e ts h = back (settings_now st) st.width e ts.lengths ts.bytes h.typed h.spelled

-- the text of a right entry passes
pub right_passes : (st : State) (e : Entry) → TypedSettings (settings_now st) → RightAt st e → text_number (schedule_of st) st (text_in st e) ≡ 0
unfolding text_number context_number ask
right_passes st e ts h =
    rw (found_is st e ts h, above_yes st e.fields.details h.above, right_yes st e.fields (right_new st e h) h.counter.decrypted, first_yes st e.fields.details h.first, h.chained, same_refl st.chain)

-- what passes is the text of a right entry
pub record Passed (st : State) (text : List ℕ) : Type 0 where
  pub entry : Entry
  pub is : text ≡ text_in st entry
  pub found : found st text ≡ record { ok = true; entry = entry }
  pub right : RightAt st entry

right_from : (st : State) (e : Entry) → TypedEntry e → spellable (settings_now st) st.width e ≡ true → context_number (schedule_of st) st e.fields ≡ 0 → RightAt st e
unfolding context_number
right_from st e te g z =
    let p₁ = ask_zero _ _ _ z in
    let p₂ = ask_zero _ _ _ p₁.1 in
    let p₃ = ask_zero _ _ _ p₂.1 in
    let p₄ = ask_zero _ _ _ p₃.1 in
    record {
      typed = te;
      spelled = g;
      above = above_true st e.fields.details p₁.0;
      first = first_true st e.fields.details p₂.0;
      chained = same_true _ _ p₃.0;
      counter = record { fits = (new_fits st e.fields.details (right_fits st e.fields p₄.0)).fits; decrypted = right_true st e.fields p₄.0 };
    }

pub passes_right : (st : State) (text : List ℕ) → TypedSettings (settings_now st) → AllBytes text → text_number (schedule_of st) st text ≡ 0 → Passed st text
unfolding text_number found
passes_right st text ts b z =
    let p = ask_zero _ _ _ z in
    let x = exact (settings_now st) st.width text ts.lengths ts.bytes b in
    let w : Spelled (settings_now st) st.width text = x.0 p.0 in
    let f : read_entry (settings_now st) st.width text ≡ record { ok = true; entry = w.entry } = x.1 w in
    let q : context_number (schedule_of st) st w.entry.fields ≡ 0 = ap (λ (r : Found). context_number (schedule_of st) st r.entry.fields) (sym f) ∙ p.1 in
    record { entry = w.entry; is = w.is; found = f; right = right_from st w.entry w.typed w.spellable q }

-- ---- one step

-- the length of a text fits two bytes
pub text_small : (st : State) (e : Entry) → TypedSettings (settings_now st) → RightAt st e → length (text_in st e) < 65536
text_small st e ts h = omega (arith, compact_short (settings_now st) st.width e ts.lengths h.typed h.spelled)

module _ (st : State) (e : Entry) (p rest : List ℕ) (at : length p ≡ st.length) (ts : TypedSettings (settings_now st)) (h : RightAt st e) where
  pub step_zero : entry_number (schedule_of st) st (p ++ (entry_text (text_in st e) ++ rest)) ≡ 0
  unfolding entry_number ask
  step_zero =
      rw (there_at p (text_in st e) rest st.length at (text_small st e ts h), text_at_lem p (text_in st e) rest st.length at (text_small st e ts h))
      (right_passes st e ts h)

  pub after_is : after st (text_at (p ++ (entry_text (text_in st e) ++ rest)) st.length) ≡ step st e
  unfolding after
  after_is = rw (text_at_lem p (text_in st e) rest st.length at (text_small st e ts h), found_is st e ts h)

pub step_length : (st : State) (e : Entry) → (step st e).length ≡ st.length + length (entry_text (text_in st e))
unfolding next
step_length st e = refl

pub step_counter : (st : State) (e : Entry) → RightAt st e → (step st e).counter ≡ st.counter +ℤ counted e.fields.details
unfolding next
step_counter st e h = ap (λ (a : After). a.counter) (right_new st e h)

pub bytes_text : (j : List ℕ) (at : ℕ) → AllBytes j → AllBytes (text_at j at)
unfolding text_at
bytes_text j at b = bytes_take (length_at j at) (bytes_drop (at + 2) b)

-- the state after an entry that passed
pub after_passed : (st : State) (text : List ℕ) (w : Passed st text) → after st text ≡ step st w.entry
unfolding after
after_passed st text w = rw w.found (ap (next st w.entry.fields.details) w.is)
