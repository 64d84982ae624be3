-- The calls from C give the number of their first "no", and ask the key, the width and the state as the header says.
use Rattle.std.proofs.Common.{ℕ, zero, suc, ◌+◌, ◌-◌, ◌≤◌, ◌<◌, ◌≡◌, refl, sym, ap, ◌∙◌, subst, Bool, true, false, cond, List, [], ◌∷◌, ◌++◌, arith, eq-eqb, ne_eqb, eqb-true, eqb, ℤ, pos, ◌+ℤ◌, length, get_or, replicate, take_all}
use Rattle.std.proofs.Math.Option.{Option, none, some}
use Rattle.std.proofs.lemmas.Bool.{eqb-false}
use lib.IntN.{+ℤ_assoc, +ℤ_idr}
use lib.ListN.{get_or-append}
use Rattle.primitives.specs.Bytes.{AllBytes}
use Rattle.primitives.specs.Counter.{width_good, counter_fits}
use Rattle.primitives.specs.Questions.{ask, ifZero, Row, asked_all, question, GivesFirstNo}
use Rattle.primitives.proofs.FirstNo.{gives_none, gives_ask, gives_same}
use Rattle.primitives.proofs.Rows.{ifZero-yes, ifZero-no}
use Rattle.receipt.specs.Compact.{Found}
use Rattle.receipt.specs.Settings.{name_of}
use Rattle.receipt.specs.SettingsWords.{IdByte, SerialByte, GoodCsp, GoodId, GoodSerial, GoodWidth, NoDigitIfShared, one_to_four}
use Rattle.receipt.specs.DetailsWords.{GoodStart, amounts_taken, added_up}
use Rattle.receipt.specs.Exact.{Spelled}
use Rattle.receipt.specs.declared.settings.Settings.{Settings}
use Rattle.receipt.specs.declared.datetime.DateTime.{DateTime}
use Rattle.receipt.specs.declared.details.Kind.{Kind}
use Rattle.receipt.specs.declared.details.Kind.TheVariants.{Standard, Cancellation, Training}
use Rattle.receipt.specs.declared.details.Details.{Details}
use Rattle.receipt.proofs.Entries.{length_array}
use Rattle.receipt.proofs.ExactEntry.{exact}
use Rattle.receipt.proofs.SettingsMeaning.{width_means, one_to_four_asked}
use Rattle.journal.specs.State.{unopened, Opened}
use Rattle.journal.specs.declared.state.TakenOver.{TakenOver}
use Rattle.journal.specs.Opening.{open_number}
use Rattle.journal.specs.Preparing.{prepare_number, prepare_answer}
use Rattle.journal.specs.Checking.{head_number, refused, check_head, take_over}
use Rattle.journal.specs.Parts.{handed_back, check_steps}
use Rattle.journal.specs.Asked.{open_row, details_row, issue_row, prepare_row, change_row}
use Rattle.journal.specs.declared.state.State.{State}
use Rattle.journal.proofs.Answers.{issued-number}
use Rattle.journal.proofs.FirstNo.{bool_no}
use Rattle.journal.proofs.CheckCalls.{head_width}
use Rattle.journal.proofs.Asking.{open_gives_first_no, issue_gives_first_no, prepare_gives_first_no, change_gives_first_no, check_asks_six}
use Rattle.device.specs.Layout.{array_of, settings_at, no_settings, settings_of, width_of, key_of, state_of}
use Rattle.device.specs.Details.{no_details, date_of, details_with, of_kind, details_of, kind_number}
use Rattle.device.specs.Calls.{settings_from, width_with, settings_answer, Slices, open_answer, opened_number, IssueCall, order_in, details_given, prepared_from_c, issue_answer, issued_number, change_answer, changed_number, steps_answer}
use Rattle.device.specs.ReadBack.{found_in, read_number, answered, read_back}
use Rattle.device.specs.AskedInC.{CspBytes, IdBytes, SerialBytes, WidthWithKey, settings_row_in_c, SettingsGiveFirstNoInC, open_row_in_c, OpenGivesFirstNoInC, date_given, amounts_given, StandardWithZeros, CounterFitsAfter, details_row_in_c, issue_row_in_c, IssueGivesFirstNoInC, prepare_row_in_c, PrepareGivesFirstNoInC, change_row_in_c, ChangeGivesFirstNoInC, TakeOverAsksTheKey, HeadAsksTheKey, SoundBytesFor, StepsAskSixInC, read_row, ReadGivesFirstNoInC, ExportAsksTheKey, ReadExportAsksTheKey}
use Rattle.device.specs.Inspection.{export_answer, export_output}
use Rattle.exports.specs.Shape.{Element}
use Rattle.exports.specs.Writing.{exported, export_buffer}
use Rattle.exports.specs.Parsed.{elements_of}
use Rattle.exports.specs.Reading.{journal_of_elements, elements_number, not_read, restored_from, restored_by, restored, restored_buffer, Restored}
use Rattle.exports.proofs.Promising.{refused_by_take_over}
use Rattle.device.proofs.Zeros.{handed_is}
use Rattle.device.proofs.ExportCalls.{answer_six, answer_read, output_read}
use Rattle.device.proofs.RowsAlike.{gives_yes, gives_no, Like, like_same, like_question, gives_like}
use Rattle.device.proofs.Below.{opened_number_lem, changed_number_lem}
use Rattle.device.proofs.Sizes.{array_none, array_whole, width_whole, key_long, from_typed, state_none, open_six, open_answer_lem, take_six, take_answer}
use Rattle.device.proofs.PartCalls.{head_six, head_answer_lem}
use Rattle.device.proofs.Spelling.{bytes_typed}
use Rattle.device.proofs.StateCalls.{other_lengths_get_six}
use Rattle.device.proofs.ReadBackLaws.{any_typed}

-- ---- names of bytes

all_same : {A : Type 0} (z : A) (k i : ℕ) → get_or (replicate k z) i z ≡ z
all_same z zero i = refl
all_same z (suc k) zero = refl
all_same z (suc k) (suc i) = all_same z k i

zeros_after : (xs : List ℕ) (k i : ℕ) → length xs ≤ i → get_or (xs ++ replicate k 0) i 0 ≡ 0
zeros_after [] k i h = all_same 0 k i
zeros_after (x ∷ xs) k zero h = absurd (omega arith)
zeros_after (x ∷ xs) k (suc i) h = zeros_after xs k i (omega arith)

module _ (text : List ℕ) where
  short : length text ≤ 32 → (name_of text).bytes ≡ text ++ replicate (32 - length text) 0
  unfolding name_of
  short h = ap (λ (l : List ℕ). l ++ replicate (32 - length text) 0) (take_all 32 text h)

  letter : length text ≤ 32 → (i : ℕ) → i < length text → get_or (name_of text).bytes i 0 ≡ get_or text i 0
  letter h i l = ap (λ (x : List ℕ). get_or x i 0) (short h) ∙ get_or-append text (replicate (32 - length text) 0) 0 i l

  after : length text ≤ 32 → (i : ℕ) → length text ≤ i → get_or (name_of text).bytes i 0 ≡ 0
  after h i l = ap (λ (x : List ℕ). get_or x i 0) (short h) ∙ zeros_after text (32 - length text) i l

  id_to : GoodId (name_of text) → IdBytes text
  unfolding name_of
  id_to g = record { some = g.some; most = g.most; letters = λ i l. subst IdByte (letter g.most i l) (g.letters i l) }

  id_from : IdBytes text → GoodId (name_of text)
  unfolding name_of
  id_from g =
      record { some = g.some; most = g.most; letters = λ i l. subst IdByte (sym (letter g.most i l)) (g.letters i l); zeros = λ i l. after g.most i l }

  serial_to : GoodSerial (name_of text) → SerialBytes text
  unfolding name_of
  serial_to g = record { some = g.some; most = g.most; letters = λ i l. subst SerialByte (letter g.most i l) (g.letters i l) }

  serial_from : SerialBytes text → GoodSerial (name_of text)
  unfolding name_of
  serial_from g =
      record { some = g.some; most = g.most; letters = λ i l. subst SerialByte (sym (letter g.most i l)) (g.letters i l); zeros = λ i l. after g.most i l }

no_csp : GoodCsp (replicate 3 0) → ⊥
no_csp g = let h = g.first.least in omega (arith, h)

csp_to : (csp : List ℕ) → GoodCsp (array_of 3 csp) → CspBytes csp
csp_to csp g = go (eqb (length csp) 3) refl
  where
    go : (t : Bool) → eqb (length csp) 3 ≡ t → CspBytes csp
    go true e = let l = eqb-true (length csp) 3 e in record { three = l; good = subst GoodCsp (array_whole 3 csp l) g }
    go false e = absurd (no_csp (subst GoodCsp (sym (array_none 3 csp (eqb-false (length csp) 3 e))) g))

csp_from : (csp : List ℕ) → CspBytes csp → GoodCsp (array_of 3 csp)
csp_from csp g = subst GoodCsp (sym (array_whole 3 csp g.three)) g.good

module _ (n : ℕ) (key : List ℕ) where
  width_to : GoodWidth (width_with key n) → WidthWithKey n key
  width_to g =
      let l = key_long key n ((width_means (width_with key n)).always g) in
      record { long = l; width = subst GoodWidth (width_whole key n l) g }

  width_from : WidthWithKey n key → GoodWidth (width_with key n)
  width_from g = subst GoodWidth (sym (width_whole key n g.long)) g.width

  width_bad : (WidthWithKey n key → ⊥) → width_good (width_with key n) ≡ true → ⊥
  width_bad h e = h (width_to ((width_means (width_with key n)).only e))

-- ---- ditgrux_settings

module _ (csp id serial : List ℕ) (n : ℕ) (key out : List ℕ) where
  settings_like : Like (one_to_four (settings_from csp id serial) (width_with key n) (question (length out ≡ 123) 23 asked_all)) (settings_row_in_c csp id serial n key out)
  unfolding settings_from
  settings_like =
      like_question 1 _ _ _ _ (csp_to csp) (csp_from csp)
      (λ c. like_question 2 _ _ _ _ (id_to id) (id_from id)
      (λ i. like_question 3 _ _ _ _ (serial_to serial) (serial_from serial)
      (λ s. like_question 4 _ _ _ _ (width_to n key) (width_from n key) (λ w. like_same _))))

  settings_asks : GivesFirstNo (settings_answer (settings_from csp id serial) (width_with key n) (length out))
      (one_to_four (settings_from csp id serial) (width_with key n) (question (length out ≡ 123) 23 asked_all))
  unfolding settings_answer
  settings_asks =
      one_to_four_asked (settings_from csp id serial) (width_with key n) (ask (eqb (length out) 123) 23 0) (question (length out ≡ 123) 23 asked_all) (from_typed csp id serial)
      (λ g w. gives_ask (eqb (length out) 123) 22 0 (length out ≡ 123) asked_all (eqb-true (length out) 123) (eq-eqb (length out) 123) (λ e. gives_none))

pub settings_give_first_no_in_c : SettingsGiveFirstNoInC
settings_give_first_no_in_c csp id serial n key out = gives_like _ _ (settings_like csp id serial n key out) (settings_asks csp id serial n key out)

-- ---- settings as bytes

-- settings of another length are all zero
long_of : (b : List ℕ) → GoodCsp (settings_of b).csp → length b ≡ 123
unfolding settings_of
long_of b g = go (eqb (length b) 123) refl g
  where
    go : (t : Bool) → eqb (length b) 123 ≡ t → GoodCsp (cond t (settings_at b) no_settings).csp → length b ≡ 123
    go true e g = eqb-true (length b) 123 e
    go false e g = absurd (no_csp g)

-- ---- ditgrux_open

module _ (settings : List ℕ) (shared : Bool) (g : Slices) where
  open_like : Like (open_row (settings_of settings) shared (width_of settings) (length g.journal))
      (question ((length settings ≡ 123) × GoodCsp (settings_of settings).csp) 1
      (question (GoodId (settings_of settings).id) 2
      (question (NoDigitIfShared shared (settings_of settings).id) 32
      (question (GoodSerial (settings_of settings).serial) 3
      (question (GoodWidth (width_of settings)) 4
      (question (19 + (settings_of settings).id.len + (settings_of settings).serial.len ≤ length g.journal) 5 asked_all))))))
  open_like = like_question 1 _ _ _ _ (λ c. (long_of settings c, c)) (λ p. p.1) (λ c. like_same _)

pub open_gives_first_no_in_c : OpenGivesFirstNoInC
unfolding opened_number
open_gives_first_no_in_c settings shared g a = go (eqb (length g.state) 447) refl
  where
    go : (t : Bool) → eqb (length g.state) 447 ≡ t
        → GivesFirstNo (open_answer settings shared (length g.journal) (length g.state)).number (open_row_in_c settings shared g)
    go true e =
        let l = eqb-true (length g.state) 447 e in
        let n : (open_answer settings shared (length g.journal) (length g.state)).number ≡ open_number (settings_of settings) shared (width_of settings) (length g.journal) =
        ap (λ (x : Opened). x.number) (open_answer_lem settings shared (length g.journal) (length g.state) l)
        ∙ opened_number_lem (settings_of settings) (key_of settings) shared (width_of settings) (length g.journal) in
        gives_yes 5 _ _ l (gives_like _ _ (open_like settings shared g)
        (gives_same _ n (open_gives_first_no (settings_of settings) shared (width_of settings) (length g.journal) (any_typed settings a).lengths)))
    go false e =
        let h = eqb-false (length g.state) 447 e in
        gives_no 5 _ _ (ap (λ (x : Opened). x.number) (open_six settings shared (length g.journal) (length g.state) h)) h

-- ---- the details of a call

kind_apart : {a b : Kind} → a ≡ b → kind_number a ≡ kind_number b
kind_apart e = ap kind_number e

five : (a b c e f : ℤ) → a +ℤ (b +ℤ (c +ℤ (e +ℤ (f +ℤ pos 0)))) ≡ a +ℤ b +ℤ c +ℤ e +ℤ f
five a b c e f =
    ap (λ (z : ℤ). a +ℤ (b +ℤ (c +ℤ (e +ℤ z)))) (+ℤ_idr f) ∙ sym (+ℤ_assoc a b (c +ℤ (e +ℤ f))) ∙ sym (+ℤ_assoc (a +ℤ b) c (e +ℤ f))
    ∙ sym (+ℤ_assoc (a +ℤ b +ℤ c) e f)

no_kind : (number : ℕ) (date : DateTime) (amounts : List ℤ) (k : ℕ) → of_kind number date amounts (suc (suc (suc k))) ≡ no_details
unfolding of_kind
no_kind number date amounts k =
    rw (ne_eqb (suc (suc (suc k))) 0 (λ e. omega (arith, e)), ne_eqb (suc (suc (suc k))) 1 (λ e. omega (arith, e)), ne_eqb (suc (suc (suc k))) 2 (λ e. omega (arith, e)))

module _ (st : State) (c : IssueCall) where
  -- the details with this kind
  abbrev made : Kind → Details
  made kind = record { number = c.number; date = date_given c; amounts = amounts_given c; kind = kind }

  abbrev Fits : Kind → Type 0
  Fits kind = counter_fits st.width (st.counter +ℤ added_up (amounts_taken kind (amounts_given c))) ≡ true

  start_to : c.kind ≡ 0 → (kind : Kind) → GoodStart (made kind) → StandardWithZeros c
  start_to e kind g =
      record {
        standard = e;
        zeros = λ j. g.zeros 0 (omega arith) j ∷ g.zeros 1 (omega arith) j ∷ g.zeros 2 (omega arith) j ∷ g.zeros 3 (omega arith) j ∷ g.zeros 4 (omega arith) j ∷ [];
      }

  start_from : StandardWithZeros c → GoodStart (made Standard)
  start_from g = record { standard = refl; zeros = λ i l. ap (λ (zs : List ℤ). get_or zs i (pos 0)) g.zeros ∙ all_same (pos 0) 5 i }

  -- what kinds 0 and 1 add, and kind 2
  adds : counter_fits st.width (st.counter +ℤ added_up (amounts_given c))
      ≡ counter_fits st.width (st.counter +ℤ (c.standard +ℤ c.reduced1 +ℤ c.reduced2 +ℤ c.zero +ℤ c.special))
  unfolding added_up
  adds = ap (λ (z : ℤ). counter_fits st.width (st.counter +ℤ z)) (five c.standard c.reduced1 c.reduced2 c.zero c.special)

  adds_none : counter_fits st.width (st.counter +ℤ added_up []) ≡ counter_fits st.width st.counter
  unfolding added_up
  adds_none = ap (counter_fits st.width) (+ℤ_idr st.counter)

  adding_to : (c.kind ≡ 2 → ⊥) → counter_fits st.width (st.counter +ℤ added_up (amounts_given c)) ≡ true → CounterFitsAfter st c
  adding_to n e = record { adding = λ h. sym adds ∙ e; training = λ h. absurd (n h) }

  adding_from : (c.kind ≡ 2 → ⊥) → CounterFitsAfter st c → counter_fits st.width (st.counter +ℤ added_up (amounts_given c)) ≡ true
  adding_from n f = adds ∙ f.adding n

  training_to : c.kind ≡ 2 → counter_fits st.width (st.counter +ℤ added_up []) ≡ true → CounterFitsAfter st c
  training_to e f = record { adding = λ h. absurd (h e); training = λ h. sym adds_none ∙ f }

  training_from : c.kind ≡ 2 → CounterFitsAfter st c → counter_fits st.width (st.counter +ℤ added_up []) ≡ true
  training_from e f = adds_none ∙ f.training e

  module _ (r : Row) where
    -- of a known kind
    rows : (kind : Kind) → c.kind ≤ 2 → (GoodStart (made kind) → StandardWithZeros c) → (StandardWithZeros c → GoodStart (made kind)) → (Fits kind → CounterFitsAfter st c)
        → (CounterFitsAfter st c → Fits kind) → Like (details_row st (made kind) r) (details_row_in_c st c r)
    rows kind k to from fits fit =
        like_question 7 _ _ _ _ (λ h. record { kind = k; above = h }) (λ p. p.above)
        (λ a. like_question 8 _ _ _ _ (λ h. h) (λ h. h)
        (λ t. like_question 9 _ _ _ _ (λ h. h) (λ h. h)
        (λ m. like_question 10 _ _ _ _ (λ h z. to (h z)) (λ h z. from (h z))
        (λ f. like_question 11 _ _ _ _ fits fit (λ w. like_same r)))))

    -- a cancellation or a training receipt is no start
    no_start : {X : Type 0} (kind : Kind) (k : ℕ) → kind_number kind ≡ suc k → GoodStart (made kind) → X
    no_start kind k e g = absurd (omega (arith, e, kind_apart g.standard))

    other_start : {X : Type 0} (k : ℕ) → c.kind ≡ suc k → StandardWithZeros c → X
    other_start k e g = absurd (omega (arith, e, g.standard))

    rows_of : (k : ℕ) → c.kind ≡ k → Like (details_row st (of_kind c.number (date_given c) (amounts_given c) k) r) (details_row_in_c st c r)
    unfolding of_kind details_with no_details
    rows_of zero e =
        rows Standard (omega (arith, e)) (start_to e Standard) start_from (adding_to (λ h. omega (arith, e, h))) (adding_from (λ h. omega (arith, e, h)))
    rows_of (suc zero) e =
        rows Cancellation (omega (arith, e)) (no_start Cancellation 0 refl) (other_start 0 e) (adding_to (λ h. omega (arith, e, h))) (adding_from (λ h. omega (arith, e, h)))
    rows_of (suc (suc zero)) e = rows Training (omega (arith, e)) (no_start Training 1 refl) (other_start 1 e) (training_to e) (training_from e)
    rows_of (suc (suc (suc k))) e =
        let z : (of_kind c.number (date_given c) (amounts_given c) (suc (suc (suc k)))).number ≡ 0 =
        ap (λ (d : Details). d.number) (no_kind c.number (date_given c) (amounts_given c) k) in
        like_question 7 _ _ _ _ (λ h. absurd (omega (arith, h, z))) (λ p. absurd (omega (arith, e, p.kind))) (λ h. absurd (omega (arith, h, z)))

    details_like : Like (details_row st (details_given c) r) (details_row_in_c st c r)
    unfolding details_of date_of
    details_like = rows_of c.kind refl

-- ---- ditgrux_issue and ditgrux_prepare

module _ (g : Slices) (c : IssueCall) (a : AllBytes g.state) where
  issue_long : length g.state ≡ 447 → GivesFirstNo (issued_number g c) (issue_row_in_c g c)
  unfolding issued_number issue_answer order_in
  issue_long l =
      let st = state_of g.state in
      gives_like (issue_row st (details_given c) c.signature (length g.journal)) (issue_row_in_c g c)
      (like_question 6 _ _ _ _ (λ s. record { long = l; sound = s }) (λ s. s.sound) (λ s. details_like st c _))
      (gives_same _ (issued-number st (details_given c) c.signature (length g.journal))
      (issue_gives_first_no st (details_given c) c.signature (length g.journal) (bytes_typed g.state a l)))

  issue_any : (t : Bool) → eqb (length g.state) 447 ≡ t → GivesFirstNo (issued_number g c) (issue_row_in_c g c)
  issue_any true e = issue_long (eqb-true (length g.state) 447 e)
  issue_any false e =
      let h = eqb-false (length g.state) 447 e in
      gives_no 5 _ _ (other_lengths_get_six.issues g c h).0 (λ s. h s.long)

pub issue_gives_first_no_in_c : IssueGivesFirstNoInC
issue_gives_first_no_in_c g c a = issue_any g c a (eqb (length g.state) 447) refl

module _ (state : List ℕ) (c : IssueCall) (room : ℕ) (a : AllBytes state) where
  number_is : (prepared_from_c state c room).number ≡ prepare_number (state_of state) (details_given c) room
  unfolding prepare_answer
  number_is = refl

  prepare_long : length state ≡ 447 → GivesFirstNo (prepared_from_c state c room).number (prepare_row_in_c state c room)
  prepare_long l =
      let st = state_of state in
      gives_like (prepare_row st (details_given c) room) (prepare_row_in_c state c room)
      (like_question 6 _ _ _ _ (λ s. record { long = l; sound = s }) (λ s. s.sound) (λ s. details_like st c _))
      (gives_same _ number_is (prepare_gives_first_no st (details_given c) room (bytes_typed state a l)))

  prepare_any : (t : Bool) → eqb (length state) 447 ≡ t → GivesFirstNo (prepared_from_c state c room).number (prepare_row_in_c state c room)
  prepare_any true e = prepare_long (eqb-true (length state) 447 e)
  prepare_any false e =
      let h = eqb-false (length state) 447 e in
      gives_no 5 _ _ (number_is ∙ other_lengths_get_six.prepares state (details_given c) room h) (λ s. h s.long)

pub prepare_gives_first_no_in_c : PrepareGivesFirstNoInC
prepare_gives_first_no_in_c state c room a = prepare_any state c room a (eqb (length state) 447) refl

-- ---- ditgrux_change

module _ (g : Slices) (serial : List ℕ) (a : AllBytes g.state) where
  change_like : length g.state ≡ 447 → Like (change_row (state_of g.state) (name_of serial) (length g.journal)) (change_row_in_c g serial)
  unfolding name_of
  change_like l =
      like_question 6 _ _ _ _ (λ s. record { long = l; sound = s }) (λ s. s.sound)
      (λ s. like_question 3 _ _ _ _ (serial_to serial) (serial_from serial) (λ n. like_same _))

  change_long : length g.state ≡ 447 → GivesFirstNo (changed_number g serial) (change_row_in_c g serial)
  unfolding changed_number change_answer
  change_long l =
      let st = state_of g.state in
      gives_like _ _ (change_like l)
      (gives_same _ (changed_number_lem st (name_of serial) (length g.journal))
      (change_gives_first_no st (name_of serial) (length g.journal) (bytes_typed g.state a l) (length_array serial)))

  change_any : (t : Bool) → eqb (length g.state) 447 ≡ t → GivesFirstNo (changed_number g serial) (change_row_in_c g serial)
  change_any true e = change_long (eqb-true (length g.state) 447 e)
  change_any false e =
      let h = eqb-false (length g.state) 447 e in
      gives_no 5 _ _ (other_lengths_get_six.changes g serial h).0 (λ s. h s.long)

pub change_gives_first_no_in_c : ChangeGivesFirstNoInC
change_gives_first_no_in_c g serial a = change_any g serial a (eqb (length g.state) 447) refl

-- ---- ditgrux_take_over and ditgrux_check_head

six_is : record { number = 6; index = 0; state = unopened } ≡ refused 6 0
unfolding refused
six_is = refl

take_four : (j key : List ℕ) (n : ℕ) → width_good n ≡ false → take_over j key n ≡ refused 4 0
unfolding take_over head_number ask ifZero
take_four j key n h = rw h

pub take_over_asks_the_key : TakeOverAsksTheKey
take_over_asks_the_key j key n size =
    record {
      six = λ h. take_six j key n size h ∙ six_is;
      width = λ l h. take_answer j key n size l ∙ take_four j (array_of 32 key) (width_with key n) (bool_no (width_good (width_with key n)) (width_bad n key h));
      same = λ l e. take_answer j key n size l ∙ (λ i. take_over j (array_whole 32 key e i) (width_whole key n e i));
    }

pub head_asks_the_key : HeadAsksTheKey
head_asks_the_key j key n size =
    record {
      six = λ h. head_six j key n size h ∙ six_is;
      width = λ l h. head_answer_lem j key n size l ∙ head_width j (array_of 32 key) (width_with key n) (bool_no (width_good (width_with key n)) (width_bad n key h));
      same = λ l e. head_answer_lem j key n size l ∙ (λ i. check_head j (array_whole 32 key e i) (width_whole key n e i));
    }

-- ---- ditgrux_check_steps

steps_same : (state j : List ℕ) (steps : ℕ) → steps_answer state j steps ≡ check_steps (state_of state) j steps
unfolding steps_answer
steps_same state j steps = refl

pub steps_ask_six_in_c : StepsAskSixInC
steps_ask_six_in_c state j steps a =
    record {
      six = λ e s. (check_asks_six (state_of state) j steps (bytes_typed state a s.long)).0 (sym (ap (λ (x : TakenOver). x.number) (steps_same state j steps)) ∙ e) s.sound;
      bad = bad (eqb (length state) 447) refl;
      same = steps_same state j steps;
    }
  where
    bad : (t : Bool) → eqb (length state) 447 ≡ t → (SoundBytesFor state j → ⊥) → steps_answer state j steps ≡ handed_back 6 0 (state_of state)
    bad true e h =
        let l = eqb-true (length state) 447 e in
        steps_same state j steps ∙ (check_asks_six (state_of state) j steps (bytes_typed state a l)).1 (λ s. h (record { long = l; sound = s }))
    bad false e h =
        let n = eqb-false (length state) 447 e in
        (other_lengths_get_six.checks state j steps n).0 ∙ handed_is 6 0 unopened ∙ ap (handed_back 6 0) (sym (state_none state n))

-- ---- ditgrux_read

module _ (settings form details signature : List ℕ) (a : AllBytes settings) (b : AllBytes form) where
  abbrev s : Settings
  s = settings_of settings

  abbrev n : ℕ
  n = width_of settings

  -- 16 and 23
  abbrev rest : Row
  rest = question (Spelled s n form) 16 (question (length details ≡ 72) 23 (question (length signature ≡ 64) 23 asked_all))

  form_asked : GivesFirstNo (ask (found_in settings form).ok 16 (ask (eqb (length details) 72) 23 (ask (eqb (length signature) 64) 23 0))) rest
  unfolding found_in
  form_asked =
      let t = any_typed settings a in
      let x = exact s n form t.lengths t.bytes b in
      gives_ask (found_in settings form).ok 15 _ (Spelled s n form) _ x.0 (λ w. ap (λ (f : Found). f.ok) (x.1 w))
      (λ w. gives_ask (eqb (length details) 72) 22 _ (length details ≡ 72) _ (eqb-true (length details) 72) (eq-eqb (length details) 72)
      (λ d. gives_ask (eqb (length signature) 64) 22 0 (length signature ≡ 64) asked_all (eqb-true (length signature) 64) (eq-eqb (length signature) 64) (λ g. gives_none)))

  read_asked : GivesFirstNo (read_back settings form details signature).number (one_to_four s n rest)
  unfolding read_back answered read_number
  read_asked = one_to_four_asked s n _ rest (any_typed settings a).lengths (λ g w. form_asked)

pub read_gives_first_no_in_c : ReadGivesFirstNoInC
read_gives_first_no_in_c settings form details signature a b =
    gives_like _ (read_row settings form details signature) (like_question 1 _ _ _ _ (λ c. (long_of settings c, c)) (λ p. p.1) (λ c. like_same _))
    (read_asked settings form details signature a b)

-- ---- ditgrux_export

pub export_asks_the_key : ExportAsksTheKey
unfolding export_answer export_output refused
export_asks_the_key j key n certificates out =
    record {
      width = λ h.
          let t = take_four j (array_of 32 key) (width_with key n) (bool_no (width_good (width_with key n)) (width_bad n key h)) in
          let r = refused_by_take_over j (array_of 32 key) (width_with key n) certificates out (λ z. omega (arith, z, ap (λ (x : TakenOver). x.number) t)) in
          (r.0 ∙ ap (λ (x : TakenOver). x.number) t, r.1 ∙ ap (λ (x : TakenOver). x.index) t);
      same = λ e. λ i. exported j (array_whole 32 key e i) (width_whole key n e i) certificates out;
      output = λ e. λ i. export_buffer j (array_whole 32 key e i) (width_whole key n e i) certificates out;
    }

-- ---- ditgrux_read_export

-- a width that is not 5 to 8 is asked after the text
module _ (text : List ℕ) (room : ℕ) (key : List ℕ) (n : ℕ) (w : width_good n ≡ false) where
  four_from : (j : List ℕ) (m : ℕ) → restored_from (take_over j key n) m ≡ not_read 4 0
  unfolding refused ifZero
  four_from j m = rw (take_four j key n w)

  never_elements : (o : Option (List Element)) → (restored_by o key n room).number ≡ 0 → ⊥
  unfolding not_read
  never_elements none z = omega (arith, z)
  never_elements (some es) z = go (elements_number es room) refl
    where
      go : (m : ℕ) → elements_number es room ≡ m → ⊥
      go zero e =
          let q : (restored_by (some es) key n room).number ≡ 4 =
          ap (λ (x : Restored). x.number) (ifZero-yes _ _ e ∙ four_from (journal_of_elements es) (length (journal_of_elements es))) in
          omega (arith, z, q)
      go (suc m) e =
          let h : elements_number es room ≡ 0 → ⊥ = λ y. omega (arith, e, y) in
          let q : (restored_by (some es) key n room).number ≡ elements_number es room =
          ap (λ (x : Restored). x.number) (ifZero-no (elements_number es room) _ _ h) in
          omega (arith, z, q, e)

  never_read : (restored text key n room).number ≡ 0 → ⊥
  unfolding restored
  never_read z = never_elements (elements_of text) z

-- two such widths, under any two keys
module _ (text : List ℕ) (room : ℕ) (key other : List ℕ) (n m : ℕ) (v : width_good n ≡ false) (w : width_good m ≡ false) where
  by_elements : (o : Option (List Element)) → restored_by o key n room ≡ restored_by o other m room
  by_elements none = refl
  by_elements (some es) = go (elements_number es room) refl
    where
      go : (k : ℕ) → elements_number es room ≡ k → restored_by (some es) key n room ≡ restored_by (some es) other m room
      go zero e =
          ifZero-yes _ _ e ∙ four_from text room key n v (journal_of_elements es) (length (journal_of_elements es))
          ∙ sym (ifZero-yes _ _ e ∙ four_from text room other m w (journal_of_elements es) (length (journal_of_elements es)))
      go (suc k) e =
          let h : elements_number es room ≡ 0 → ⊥ = λ z. omega (arith, e, z) in
          ifZero-no (elements_number es room) _ _ h ∙ sym (ifZero-no (elements_number es room) _ _ h)

  text_first : restored text key n room ≡ restored text other m room
  unfolding restored
  text_first = by_elements (elements_of text)

pub read_export_asks_the_key : ReadExportAsksTheKey
read_export_asks_the_key text key n out state =
    record {
      six = answer_six text key n out state;
      width = λ l h k m bad.
          answer_read text key n out state l
          ∙ text_first text (length out) (array_of 32 key) k (width_with key n) m (bool_no (width_good (width_with key n)) (width_bad n key h)) (bool_no (width_good m) (λ g. bad ((width_means m).only g)));
      never = λ l h z.
          never_read text (length out) (array_of 32 key) (width_with key n) (bool_no (width_good (width_with key n)) (width_bad n key h))
          (sym (ap (λ (x : Restored). x.number) (answer_read text key n out state l)) ∙ z);
      same = λ l e. answer_read text key n out state l ∙ (λ i. restored text (array_whole 32 key e i) (width_whole key n e i) (length out));
      output = λ l e. output_read text key n out state l ∙ (λ i. restored_buffer text (array_whole 32 key e i) (width_whole key n e i) out);
    }
