-- What the calls of a register show at their returns, over plain variables.
use Rattle.std.proofs.lemmas.Int.{to_z-of_z}
use Rattle.std.proofs.Common.{ℕ, ◌≤◌, ◌<◌, min, ◌≡◌, refl, sym, ap, ◌∙◌, Bool, true, false, cond, List, [], ◌∷◌, arith, eq-eqb, ne_eqb, eqb-true, le-leb, eqb, ℤ, length, get_or, take, w64, SFits, to_z, of_z}
use Rattle.std.proofs.lemmas.Bool.{lt-leb}
use Rattle.std.proofs.lemmas.List.{length-take, take_min}
use Rattle.primitives.specs.Answers.{Answer}
use Rattle.primitives.specs.Place.{overwrite, placed}
use Rattle.primitives.specs.Counter.{width_good}
use Rattle.primitives.specs.Questions.{ask}
use Rattle.primitives.proofs.Over.{placed_full}
use Rattle.primitives.proofs.Rows.{ask_zero, ask_yes, ask_no, ifZero-yes, ifZero-no}
use Rattle.receipt.specs.Settings.{name_text, name_of, settings_number, SettingsLengths}
use Rattle.receipt.specs.declared.settings.Name.{Name}
use Rattle.receipt.specs.declared.settings.Settings.{Settings}
use Rattle.receipt.specs.declared.datetime.DateTime.{DateTime}
use Rattle.receipt.specs.declared.details.Details.{Details}
use Rattle.receipt.proofs.Names.{settings_zero, settings_pass, settings_stop}
use Rattle.journal.specs.State.{no_name, used, unopened, Opened, Issued, Changed}
use Rattle.journal.specs.declared.state.TakenOver.{TakenOver}
use Rattle.journal.specs.Opening.{opened, open_buffer}
use Rattle.journal.specs.Preparing.{prepare_answer, prepare_buffer}
use Rattle.journal.specs.Issuing.{issued, issue_buffer}
use Rattle.journal.specs.Changing.{changed, change_buffer}
use Rattle.journal.specs.Checking.{take_over}
use Rattle.journal.specs.declared.state.State.{State}
use Rattle.device.specs.Layout.{settings_bytes, array_of, settings_of, width_of, key_of, state_of, kept}
use Rattle.device.specs.Details.{date_of, of_kind, details_of}
use Rattle.device.specs.Calls.{width_with, settings_answer, settings_buffer, Slices, open_answer, opened_number, opened_slices, serial_in, serial_answer, settings_in, settings_in_buffer, IssueCall, order_in, issue_answer, issued_number, issued_slices, change_answer, changed_number, changed_slices, take_over_answer}
use Rattle.device.proofs.Sizes.{array_whole, width_whole, key_long, kept_not, open_six, open_answer_lem, take_six, take_answer}
use Rattle.device.proofs.Reading.{over_all}
use Rattle.device.proofs.Slots.{used_at, name_any, name_none, Lengths}
use Rattle.device.proofs.Writers.{length_settings}

-- ---- settings

-- one of questions 1 to 4 is answered no; or none is, and the output decides
module _ (s : Settings) (n room : ℕ) {k : ℕ} (e : k ≡ settings_number s n 0) where
  pub answer_stops : (k ≡ 0 → ⊥) → k ≡ settings_answer s n room
  unfolding settings_answer
  answer_stops h = e ∙ sym (settings_stop s false n (ask (eqb room 123) 23 0) (λ z. h (e ∙ z)))

  answer_rest : k ≡ 0 → settings_answer s n room ≡ ask (eqb room 123) 23 0
  unfolding settings_answer
  answer_rest z = settings_pass s false n (ask (eqb room 123) 23 0) (sym e ∙ z)

  pub answer_no_room : k ≡ 0 → (room ≡ 123 → ⊥) → 23 ≡ settings_answer s n room
  answer_no_room z h = sym (answer_rest z ∙ ask_no 23 0 (ne_eqb room 123 h))

  pub answer_yes : k ≡ 0 → room ≡ 123 → 0 ≡ settings_answer s n room
  answer_yes z h = sym (answer_rest z ∙ ask_yes 23 0 (eq-eqb room 123 h))

module _ (s : Settings) (key : List ℕ) (n : ℕ) (out : List ℕ) {s₁ : Settings} {n₁ k : ℕ} (es : s₁ ≡ s) (en : n₁ ≡ width_with key n)
    (ek : k ≡ settings_answer s₁ n₁ (length out)) where
  number_is : k ≡ settings_answer s (width_with key n) (length out)
  number_is = ek ∙ (λ i. settings_answer (es i) (en i) (length out))

  pub settings_refused : (k ≡ 0 → ⊥) → (k ≡ settings_answer s (width_with key n) (length out)) × (out ≡ settings_buffer s key n out)
  unfolding settings_buffer
  settings_refused h =
      (number_is, sym (ifZero-no (settings_answer s (width_with key n) (length out)) (settings_bytes s n key) out (λ z. h (number_is ∙ z))))

  module _ (z : k ≡ 0) where
    accepted : settings_answer s (width_with key n) (length out) ≡ 0
    accepted = sym number_is ∙ z

    answers : (width_good (width_with key n) ≡ true) × (length out ≡ 123)
    unfolding settings_answer
    answers =
        let a = settings_zero s false (width_with key n) (ask (eqb (length out) 123) 23 0) accepted in
        (a.1, eqb-true (length out) 123 (ask_zero (eqb (length out) 123) 22 0 a.2).0)

    pub settings_room : 123 ≤ length out
    settings_room = let e = answers.1 in omega arith

    pub settings_done : {k₁ b₁ : List ℕ} → SettingsLengths s → k₁ ≡ array_of 32 key → b₁ ≡ overwrite out 0 (settings_bytes s₁ n₁ k₁)
        → (0 ≡ settings_answer s (width_with key n) (length out)) × (b₁ ≡ settings_buffer s key n out)
    unfolding settings_buffer
    settings_done {k₁} t q e =
        let l = key_long key n answers.0 in
        let f : k₁ ≡ key = q ∙ array_whole 32 key l in
        let w : settings_bytes s₁ n₁ k₁ ≡ settings_bytes s n key = λ i. settings_bytes (es i) ((en ∙ width_whole key n l) i) (f i) in (
          sym accepted,
          e ∙ ap (overwrite out 0) w ∙ over_all out (settings_bytes s n key) (length_settings s t n key l ∙ sym answers.1)
              ∙ sym (ifZero-yes (settings_bytes s n key) out accepted),
        )

-- ---- the serials of a state

module _ (st : State) (which : ℕ) {k : ℕ} (e : k ≡ length (used st.serials)) where
  pub serial_none : k ≤ which → no_name ≡ serial_in st which
  unfolding serial_in
  serial_none h = sym (name_none (used st.serials) which no_name (omega (arith, e)))

  pub serial_some : (d : Name) → which < k → get_or st.serials which d ≡ serial_in st which
  unfolding serial_in
  serial_some d h =
      let l : which < length (used st.serials) = omega (arith, e) in
      sym (used_at st.serials which d l) ∙ name_any (used st.serials) which d no_name l

-- the text of a serial, which ends within its array
module _ (S s : Name) (es : s ≡ S) (long : length s.bytes ≡ 32) where
  abbrev pub Part : ℕ → Type 0
  Part n = (take n s.bytes ≡ name_text S) × (length (name_text S) ≡ n)

  text_is : take s.len s.bytes ≡ name_text S
  unfolding name_text
  text_is = ap name_text es

  pub text_cut : {n : ℕ} → n ≡ min s.len 32 → Part n
  text_cut {n} q =
      let m : n ≡ min s.len (length s.bytes) = q ∙ ap (min s.len) (sym long) in
      (ap (λ (k : ℕ). take k s.bytes) m ∙ take_min s.len s.bytes ∙ text_is, sym (ap length text_is) ∙ length-take s.len s.bytes ∙ sym m)

  module _ (out : List ℕ) {n : ℕ} (p : Part n) where
    pub serial_short : length out < n
        → (23 ≡ (serial_answer (name_text S) (length out)).number) × (out ≡ placed out 0 (name_text S)) × (0 ≡ (serial_answer (name_text S) (length out)).length)
    unfolding serial_answer
    serial_short h =
        let l = p.1 in
        let e = ask_no 23 0 (lt-leb (length (name_text S)) (length out) (omega arith)) in
        (sym e, sym (placed_full out 0 (name_text S) (omega arith)), sym (ifZero-no _ (length (name_text S)) 0 (λ z. omega (arith, z, e))))

    pub serial_done : {out₁ : List ℕ} → n ≤ length out → out₁ ≡ placed out 0 (take n s.bytes)
        → (0 ≡ (serial_answer (name_text S) (length out)).number) × (out₁ ≡ placed out 0 (name_text S)) × (n ≡ (serial_answer (name_text S) (length out)).length)
    unfolding serial_answer
    serial_done h q =
        let l = p.1 in
        let e = ask_yes 23 0 (le-leb (length (name_text S)) (length out) (omega arith)) in
        (sym e, q ∙ ap (placed out 0) p.0, sym (ifZero-yes (length (name_text S)) 0 e ∙ l))

-- the settings with one of them
module _ (st : State) (which : ℕ) (out : List ℕ) where
  pub settings_in_none : (length out ≡ 123 → ⊥) → (23 ≡ ask (eqb (length out) 123) 23 0) × (out ≡ settings_in_buffer st which out)
  unfolding settings_in_buffer
  settings_in_none h = rw (ne_eqb (length out) 123 h) (sym (ask_no 23 0 refl), refl)

  pub settings_in_done : {st₁ : State} {serial : Name} {b₁ : List ℕ} → length out ≡ 123 → st₁ ≡ st → serial ≡ serial_in st₁ which → Lengths st₁
      → length serial.bytes ≡ 32 → b₁ ≡ overwrite out 0 (settings_bytes (record { csp = st₁.csp; id = st₁.id; serial = serial }) st₁.width st₁.key)
      → (0 ≡ ask (eqb (length out) 123) 23 0) × (b₁ ≡ settings_in_buffer st which out)
  unfolding settings_in_buffer settings_in
  settings_in_done {st₁} {serial} h e q t l w =
      let s : serial ≡ serial_in st which = q ∙ ap (λ (x : State). serial_in x which) e in
      let x : Settings = record { csp = st₁.csp; id = st₁.id; serial = serial } in
      let f : settings_bytes x st₁.width st₁.key ≡ settings_bytes (settings_in st which) st.width st.key =
      λ i. settings_bytes (record { csp = (e i).csp; id = (e i).id; serial = s i }) (e i).width (e i).key in
      let m = length_settings x (record { csp = t.csp; id = t.id; serial = l }) st₁.width st₁.key t.key in
      rw (eq-eqb (length out) 123 h)
      (sym (ask_yes 23 0 refl), w ∙ over_all out (settings_bytes x st₁.width st₁.key) (m ∙ sym h) ∙ f)

-- ---- open

module _ (settings : List ℕ) (shared : Bool) (g : Slices) where
  pub open_none : (length g.state ≡ 447 → ⊥)
      → (6 ≡ opened_number settings shared g) × (g.journal ≡ (opened_slices settings shared g).journal) × (g.state ≡ (opened_slices settings shared g).state)
  unfolding opened_number opened_slices
  open_none h =
      let a = open_answer settings shared (length g.journal) (length g.state) in
      let e : a ≡ record { number = 6; state = unopened } = open_six settings shared (length g.journal) (length g.state) h in
      let q = open_buffer (settings_of settings) shared (width_of settings) g.journal in
      (sym (ap (λ (x : Opened). x.number) e), sym (ap (λ (t : Bool). cond t q g.journal) (ne_eqb (length g.state) 447 h)), sym (kept_not g.state a.state h))

  pub open_some : {s : Settings} {n : ℕ} {key : List ℕ} {o : Opened} {j b : List ℕ} → length g.state ≡ 447 → s ≡ settings_of settings → n ≡ width_of settings
      → key ≡ key_of settings → (o ≡ opened s key shared n (length g.journal)) × (j ≡ open_buffer s shared n g.journal) → b ≡ kept g.state o.state
      → (o.number ≡ opened_number settings shared g) × (j ≡ (opened_slices settings shared g).journal) × (b ≡ (opened_slices settings shared g).state)
  unfolding opened_number opened_slices
  open_some {o = o} h es en ek p q =
      let a = open_answer settings shared (length g.journal) (length g.state) in
      let e : o ≡ a = p.0 ∙ (λ i. opened (es i) (ek i) shared (en i) (length g.journal)) ∙ sym (open_answer_lem settings shared (length g.journal) (length g.state) h) in
      let f = open_buffer (settings_of settings) shared (width_of settings) g.journal in (
        ap (λ (x : Opened). x.number) e,
        p.1 ∙ (λ i. open_buffer (es i) shared (en i) g.journal) ∙ sym (ap (λ (t : Bool). cond t f g.journal) (eq-eqb (length g.state) 447 h)),
        q ∙ ap (λ (x : Opened). kept g.state x.state) e,
      )

-- ---- the details of a receipt

module _ (number year month day hour minute second kind : ℕ) {a b c d e : ℤ} {r : Details} (fa : SFits w64 a) (fb : SFits w64 b) (fc : SFits w64 c)
    (fd : SFits w64 d) (fe : SFits w64 e) where
  pub details_made : {date : DateTime} → date ≡ date_of year month day hour minute second
      → r ≡ of_kind number date (to_z w64 (of_z w64 a) ∷ to_z w64 (of_z w64 b) ∷ to_z w64 (of_z w64 c) ∷ to_z w64 (of_z w64 d) ∷ to_z w64 (of_z w64 e) ∷ []) kind
      → r ≡ details_of number year month day hour minute second a b c d e kind
  unfolding details_of
  details_made q p =
      p ∙ (λ i. of_kind number (q i) (to_z-of_z w64 a fa i ∷ to_z-of_z w64 b fb i ∷ to_z-of_z w64 c fc i ∷ to_z-of_z w64 d fd i ∷ to_z-of_z w64 e fe i ∷ []) kind)

  pub details_plain : r
      ≡ details_of number year month day hour minute second (to_z w64 (of_z w64 a)) (to_z w64 (of_z w64 b)) (to_z w64 (of_z w64 c)) (to_z w64 (of_z w64 d)) (to_z w64 (of_z w64 e)) kind
      → r ≡ details_of number year month day hour minute second a b c d e kind
  details_plain p =
      p ∙ (λ i. details_of number year month day hour minute second (to_z-of_z w64 a fa i) (to_z-of_z w64 b fb i) (to_z-of_z w64 c fc i) (to_z-of_z w64 d fd i) (to_z-of_z w64 e fe i) kind)

-- ---- prepare

pub prepare_is : (state out : List ℕ) {D d : Details} {st : State} {a : Answer} {out₁ : List ℕ} → st ≡ state_of state → d ≡ D
    → (a ≡ prepare_answer st d (length out)) × (out₁ ≡ prepare_buffer st d out)
    → (a.number ≡ (prepare_answer (state_of state) D (length out)).number) × (out₁ ≡ prepare_buffer (state_of state) D out)
    × (a.length ≡ (prepare_answer (state_of state) D (length out)).length)
prepare_is state out {D} {a = a} es ed p =
    let e : a ≡ prepare_answer (state_of state) D (length out) = p.0 ∙ (λ i. prepare_answer (es i) (ed i) (length out)) in
    (ap (λ (x : Answer). x.number) e, p.1 ∙ (λ i. prepare_buffer (es i) (ed i) out), ap (λ (x : Answer). x.length) e)

-- ---- issue

pub issue_is : (g : Slices) (c : IssueCall) {d : Details} {st : State} {a : Issued} {j b : List ℕ} → st ≡ state_of g.state
    → d ≡ details_of c.number c.year c.month c.day c.hour c.minute c.second c.standard c.reduced1 c.reduced2 c.zero c.special c.kind
    → (a ≡ issued st d c.signature (length g.journal)) × (j ≡ issue_buffer st d c.signature g.journal) → b ≡ kept g.state a.state
    → (a.number ≡ issued_number g c) × (b ≡ (issued_slices g c).state) × (j ≡ (issued_slices g c).journal)
unfolding issued_number issued_slices issue_answer order_in
issue_is g c {a = a} es ed p q =
    let e : a ≡ issue_answer g c = p.0 ∙ (λ i. issued (es i) (ed i) c.signature (length g.journal)) in
    (ap (λ (x : Issued). x.number) e, q ∙ ap (λ (x : Issued). kept g.state x.state) e, p.1 ∙ (λ i. issue_buffer (es i) (ed i) c.signature g.journal))

-- ---- change

pub change_is : (g : Slices) (serial : List ℕ) {name : Name} {st : State} {a : Changed} {j b : List ℕ} → st ≡ state_of g.state → name ≡ name_of serial
    → (a ≡ changed st name (length g.journal)) × (j ≡ change_buffer st name g.journal) → b ≡ kept g.state a.state
    → (a.number ≡ changed_number g serial) × (b ≡ (changed_slices g serial).state) × (j ≡ (changed_slices g serial).journal)
unfolding changed_number changed_slices change_answer
change_is g serial {a = a} es en p q =
    let e : a ≡ change_answer g serial = p.0 ∙ (λ i. changed (es i) (en i) (length g.journal)) in
    (ap (λ (x : Changed). x.number) e, q ∙ ap (λ (x : Changed). kept g.state x.state) e, p.1 ∙ (λ i. change_buffer (es i) (en i) g.journal))

-- ---- take over

module _ (journal key : List ℕ) (n : ℕ) (state : List ℕ) where
  pub take_none : (length state ≡ 447 → ⊥)
      → (6 ≡ (take_over_answer journal key n (length state)).number) × (state ≡ kept state (take_over_answer journal key n (length state)).state)
      × (0 ≡ (take_over_answer journal key n (length state)).index)
  take_none h =
      let e = take_six journal key n (length state) h in
      (sym (ap (λ (x : TakenOver). x.number) e), sym (kept_not state (take_over_answer journal key n (length state)).state h), sym (ap (λ (x : TakenOver). x.index) e))

  pub take_some : {k : List ℕ} {w : ℕ} {a : TakenOver} {b : List ℕ} → length state ≡ 447 → k ≡ array_of 32 key → w ≡ width_with key n → a ≡ take_over journal k w
      → b ≡ kept state a.state
      → (a.number ≡ (take_over_answer journal key n (length state)).number) × (b ≡ kept state (take_over_answer journal key n (length state)).state)
      × (a.index ≡ (take_over_answer journal key n (length state)).index)
  take_some {a = a} h ek ew p q =
      let e : a ≡ take_over_answer journal key n (length state) = p ∙ (λ i. take_over journal (ek i) (ew i)) ∙ sym (take_answer journal key n (length state) h) in
      (ap (λ (x : TakenOver). x.number) e, q ∙ ap (λ (x : TakenOver). kept state x.state) e, ap (λ (x : TakenOver). x.index) e)
