-- A receipt is read back exactly, and what ditgrux_issue was given is what ditgrux_read gives.
use Rattle.std.proofs.Common.{ℕ, zero, suc, ◌+◌, ◌-◌, ◌^◌, ◌<◌, ◌≡◌, refl, sym, ap, ◌∙◌, subst, Bool, true, false, cond, List, [], ◌∷◌, arith, eq-eqb, eqb-true, lt-ltb, eqb, ℤ, pos, length, take, drop, get_or}
use Rattle.std.proofs.lemmas.List.{get_or-replicate}
use Rattle.primitives.specs.Bytes.{AllBytes}
use Rattle.primitives.specs.Counter.{width_good, fits_in}
use Rattle.primitives.specs.Place.{overwrite}
use Rattle.primitives.proofs.ByteLists.{bytes_take, bytes_drop, bytes_replicate}
use Rattle.primitives.proofs.Rows.{ifZero-yes, ifZero-no}
use Rattle.primitives.proofs.Twos.{fits_64}
use Rattle.receipt.specs.Settings.{settings_good, TypedSettings}
use Rattle.receipt.specs.Compact.{compact, spellable, TypedEntry, Found}
use Rattle.receipt.specs.Exact.{Spelled}
use Rattle.receipt.specs.declared.datetime.DateTime.{DateTime}
use Rattle.receipt.specs.declared.details.Kind.{Kind}
use Rattle.receipt.specs.declared.details.Kind.TheVariants.{Standard, Cancellation, Training}
use Rattle.receipt.specs.declared.details.Details.{Details}
use Rattle.receipt.specs.declared.entry.Entry.{Entry}
use Rattle.receipt.proofs.ExactEntry.{exact, compact_bytes}
use Rattle.journal.specs.State.{no_name, used, unopened, settings_now, TypedState}
use Rattle.journal.specs.Issuing.{entry_of, text_of, issue_number, issued, issue_buffer}
use Rattle.journal.specs.Calls.{Order, order_of}
use Rattle.journal.specs.declared.state.State.{State}
use Rattle.journal.proofs.Serials.{serials_used}
use Rattle.device.proofs.Slots.{newest_at}
use Rattle.journal.proofs.Answers.{Eight, Sound, sound-settings, issue-zero, issued-number}
use Rattle.journal.proofs.Appended.{form_is_appended, order_back, text_is, entry_spelled}
use Rattle.journal.proofs.ReceiptLines.{valid_place}
use Rattle.device.specs.Layout.{settings_at, state_at, no_settings, settings_of, width_of, state_of, kept}
use Rattle.device.specs.Details.{no_details, date_of, details_with, of_kind, details_of, details_bytes}
use Rattle.device.specs.Laws.{TypedDetails}
use Rattle.device.specs.Calls.{settings_in, settings_in_buffer, Slices, IssueCall, order_in, issue_answer, issued_number, issued_slices}
use Rattle.device.specs.Demand.{TypedIssueCall}
use Rattle.device.specs.ReadBack.{found_in, answered, read_back}
use Rattle.device.specs.ReadBackLaws.{read_as, Readable, ReadIsExact, AcceptedIsRead, RefusedReadChangesNothing, appended, IssuedIsRead}
use Rattle.device.proofs.Below.{issued_typed}
use Rattle.device.proofs.Sizes.{kept_all}
use Rattle.device.proofs.Spelling.{state_is_read, bytes_typed}
use Rattle.device.proofs.Zeros.{unopened_gets_six}
use Rattle.device.proofs.CallAnswers.{serial_some}
use Rattle.device.proofs.StateCalls.{serial_typed, settings_of_serial}
use Rattle.device.proofs.CallsFromC.{settings_typed as from-settings, order_typed}
use Rattle.device.proofs.DetailLaws.{details_are_read}
use Rattle.device.proofs.ReadBackCalls.{Asked, number_zero, zero_number}

-- ---- exactly

-- settings of any length are typed
none_typed : TypedSettings no_settings
none_typed =
    record {
      lengths = record { csp = refl; id = refl; serial = refl };
      bytes = record { csp = bytes_replicate 3 (omega arith); id = bytes_replicate 32 (omega arith); serial = bytes_replicate 32 (omega arith) };
    }

pub any_typed : (b : List ℕ) → AllBytes b → TypedSettings (settings_of b)
unfolding settings_of
any_typed b a = go (eqb (length b) 123) refl
  where
    go : (t : Bool) → eqb (length b) 123 ≡ t → TypedSettings (cond t (settings_at b) no_settings)
    go true e = subst (λ (t : Bool). TypedSettings (cond t (settings_at b) no_settings)) e (from-settings b a (eqb-true (length b) 123 e))
    go false e = none_typed

-- where nothing is refused, what was found is in the outputs
module _ (settings form details signature : List ℕ) where
  pub read_whole : Asked (settings_of settings) (width_of settings) (found_in settings form).ok (length details) (length signature)
      → read_back settings form details signature ≡ read_as (order_of (found_in settings form).entry) signature
  unfolding read_back answered
  read_whole a =
      let c = order_of (found_in settings form).entry in
      let z = zero_number (settings_of settings) (width_of settings) (found_in settings form).ok (length details) (length signature) a in
      λ i. record {
        number = z i;
        details = ifZero-yes (details_bytes c.details) details z i;
        signature = ifZero-yes (overwrite signature 0 c.signature) signature z i;
        length = ifZero-yes (length c.signature) 0 z i;
      }

  module _ (t : TypedSettings (settings_of settings)) (fb : AllBytes form) where
    read_spelled : (read_back settings form details signature).number ≡ 0 → Readable settings form details signature
    unfolding read_back answered found_in
    read_spelled z =
        let a = number_zero (settings_of settings) (width_of settings) (found_in settings form).ok (length details) (length signature) z in
        record {
          good = a.settings;
          width = a.width;
          spelled = (exact (settings_of settings) (width_of settings) form t.lengths t.bytes fb).0 a.found;
          details_length = a.details_length;
          signature_length = a.signature_length;
        }

    spelled_read : (w : Readable settings form details signature) → read_back settings form details signature ≡ read_as (order_of w.spelled.entry) signature
    unfolding found_in
    spelled_read w =
        let f : found_in settings form ≡ record { ok = true; entry = w.spelled.entry } =
        (exact (settings_of settings) (width_of settings) form t.lengths t.bytes fb).1 w.spelled in
        let a : Asked (settings_of settings) (width_of settings) (found_in settings form).ok (length details) (length signature) =
        record {
          settings = w.good;
          width = w.width;
          found = ap (λ (x : Found). x.ok) f;
          details_length = w.details_length;
          signature_length = w.signature_length;
        } in
        read_whole a ∙ ap (λ (x : Found). read_as (order_of x.entry) signature) f

pub read_is_exact : ReadIsExact
read_is_exact settings form details signature sb fb =
    let t = any_typed settings sb in
    (read_spelled settings form details signature t fb, spelled_read settings form details signature t fb)

pub accepted_is_read : AcceptedIsRead
accepted_is_read j key n v before x later q settings sb es en details signature ld ls =
    let r = v.each before x later q in
    let form = compact x.settings n x.entry in
    let w : Readable settings form details signature =
    record {
      good = ap settings_good es ∙ (valid_place v before x later q).good;
      width = ap width_good en ∙ v.width;
      spelled = record {
        entry = x.entry;
        typed = r.typed;
        spellable = (λ i. spellable (es i) (en i) x.entry) ∙ r.spelled;
        is = λ i. compact (sym es i) (sym en i) x.entry;
      };
      details_length = ld;
      signature_length = ls;
    } in
    (read_is_exact settings form details signature sb (compact_bytes x.settings n x.entry)).1 w

pub refused_read_changes_nothing : RefusedReadChangesNothing
unfolding read_back answered
refused_read_changes_nothing settings form details signature h =
    let c = order_of (found_in settings form).entry in
    (ifZero-no _ (details_bytes c.details) details h, ifZero-no _ (overwrite signature 0 c.signature) signature h, ifZero-no _ (length c.signature) 0 h)

-- ---- what was issued

-- a state that was not refused is 447 bytes long
state_long : (b : List ℕ) (d : Details) (sig : List ℕ) (room : ℕ) → issue_number (state_of b) d sig room ≡ 0 → length b ≡ 447
unfolding state_of
state_long b d sig room z = go (eqb (length b) 447) refl z
  where
    go : (t : Bool) → eqb (length b) 447 ≡ t → issue_number (cond t (state_at b) unopened) d sig room ≡ 0 → length b ≡ 447
    go true e q = eqb-true (length b) 447 e
    go false e q = absurd (omega (arith, q, (unopened_gets_six d sig no_name room).0))

csp_bytes : (b : List ℕ) → AllBytes b → length b ≡ 447 → AllBytes (state_of b).csp
unfolding state_of state_at
csp_bytes b a l = rw (eq-eqb (length b) 447 l) (bytes_take 3 (bytes_drop 0 a))

-- ---- the details of a call are typed, whatever its kind

none_detailed : TypedDetails no_details
unfolding no_details
none_detailed =
    record {
      number = omega arith;
      year = omega arith;
      month = omega arith;
      day = omega arith;
      hour = omega arith;
      minute = omega arith;
      second = omega arith;
      five = refl;
      amounts = λ i h. ap (fits_in 8) (get_or-replicate 5 i (pos 0) (pos 0) h) ∙ fits_64 (pos 0) ∙ lt-ltb 0 (2 ^ 63) (omega arith);
    }

amounts_fit : (c : IssueCall) → TypedIssueCall c → (i : ℕ) → i < 5
    → fits_in 8 (get_or (c.standard ∷ c.reduced1 ∷ c.reduced2 ∷ c.zero ∷ c.special ∷ []) i (pos 0)) ≡ true
amounts_fit c t zero h = t.standard
amounts_fit c t (suc zero) h = t.reduced1
amounts_fit c t (suc (suc zero)) h = t.reduced2
amounts_fit c t (suc (suc (suc zero))) h = t.zero
amounts_fit c t (suc (suc (suc (suc zero)))) h = t.special
amounts_fit c t (suc (suc (suc (suc (suc i))))) h = absurd (omega arith)

kind_typed : (number : ℕ) (date : DateTime) (amounts : List ℤ) (kind : ℕ) → ((k : Kind) → TypedDetails (details_with number date amounts k))
    → TypedDetails (of_kind number date amounts kind)
unfolding of_kind
kind_typed number date amounts kind t = go (eqb kind 0) (eqb kind 1) (eqb kind 2)
  where
    go : (x y z : Bool)
        → TypedDetails (cond x (details_with number date amounts Standard) (cond y (details_with number date amounts Cancellation) (cond z (details_with number date amounts Training) no_details)))
    go true y z = t Standard
    go false true z = t Cancellation
    go false false true = t Training
    go false false false = none_detailed

details_typed : (c : IssueCall) → TypedIssueCall c → TypedDetails (order_in c).details
unfolding order_in details_of date_of details_with
details_typed c t =
    kind_typed c.number (date_of c.year c.month c.day c.hour c.minute c.second) (c.standard ∷ c.reduced1 ∷ c.reduced2 ∷ c.zero ∷ c.special ∷ []) c.kind
    (λ k. record {
      number = t.number;
      year = t.year;
      month = t.month;
      day = t.day;
      hour = t.hour;
      minute = t.minute;
      second = t.second;
      five = refl;
      amounts = amounts_fit c t;
    })

module _ (g : Slices) (a : AllBytes g.state) (few : length g.journal < 18446744073709551616) (c : IssueCall) (t : TypedIssueCall c)
    (z : issued_number g c ≡ 0) where
  st : State
  st = state_of g.state

  d : Details
  d = (order_in c).details

  zero_is : issue_number st d c.signature (length g.journal) ≡ 0
  unfolding issued_number issue_answer st d
  zero_is = sym (issued-number st d c.signature (length g.journal)) ∙ z

  sound : Sound st
  sound = (issue-zero st d c.signature (length g.journal) zero_is).sound

  long : length g.state ≡ 447
  unfolding st d
  long = state_long g.state d c.signature (length g.journal) zero_is

  typed : TypedState st
  unfolding st
  typed = bytes_typed g.state a long

  entry : Entry
  unfolding st d
  entry = entry_of st d c.signature

  entry_good : TypedEntry entry × (spellable (settings_now st) st.width entry ≡ true)
  unfolding d entry order_in
  entry_good =
      let o = order_typed c t in
      let e : Eight st.chain = record { long = typed.chain; bytes = typed.chain_bytes } in
      entry_spelled st d c.signature (length g.journal) typed.key_bytes e o.number o.amounts o.bytes zero_is

  appended_is : appended g c ≡ text_of st d c.signature
  unfolding appended issued_slices issue_answer st d order_in
  appended_is =
      let x = (issued st d c.signature (length g.journal)).state in
      let f = form_is_appended st d c.signature g.journal zero_is in
      let e : state_of (kept g.state x) ≡ x =
      ap state_of (kept_all g.state x long)
      ∙ state_is_read x (issued_typed st d c.signature (length g.journal) typed (order_typed c t).number few zero_is) in
      let m : (state_of (kept g.state x)).length - (st.length + 2) ≡ length (text_of st d c.signature) = omega (arith, ap (λ (y : State). y.length) e, f.0) in
      ap (λ (k : ℕ). take k (drop (st.length + 2) (issue_buffer st d c.signature g.journal))) m ∙ f.1

  -- the newest serial
  last_is : settings_in st (length (used st.serials) - 1) ≡ settings_now st
  unfolding settings_in
  last_is =
      let k = length (used st.serials) in
      let h = (serials_used st.serials sound.serials).some in
      let e = sym (serial_some st (k - 1) refl no_name (omega (arith, h))) ∙ newest_at st.serials k no_name refl h in
      λ i. record { csp = st.csp; id = st.id; serial = e i }

  order_is : order_of entry ≡ order_in c
  unfolding st d entry order_in
  order_is = order_back st d c.signature

  module _ (out : List ℕ) (lo : length out ≡ 123) where
    settings : List ℕ
    settings = settings_in_buffer st (length (used st.serials) - 1) out

    settings_are : (settings_of settings ≡ settings_now st) × (width_of settings ≡ st.width)
    unfolding settings
    settings_are =
        let r = settings_of_serial st (length (used st.serials) - 1) out typed lo in
        (r.0 ∙ last_is, r.1)

    settings_typed : TypedSettings (settings_of settings)
    unfolding settings settings_in st
    settings_typed =
        let s = serial_typed typed (length (used st.serials) - 1) in
        subst TypedSettings (sym (settings_of_serial st (length (used st.serials) - 1) out typed lo).0) (record {
          lengths = record { csp = typed.csp; id = typed.id.long; serial = s.long };
          bytes = record { csp = csp_bytes g.state a long; id = typed.id.bytes; serial = s.bytes };
        })

    spelled : Spelled (settings_of settings) (width_of settings) (appended g c)
    unfolding d entry
    spelled =
        let e = settings_are in
        record {
          entry = entry;
          typed = entry_good.0;
          spellable = (λ i. spellable (e.0 i) (e.1 i) entry) ∙ entry_good.1;
          is = appended_is ∙ text_is st d c.signature ∙ (λ i. compact (sym e.0 i) (sym e.1 i) entry);
        }

    readable : (details signature : List ℕ) → length details ≡ 72 → length signature ≡ 64 → Readable settings (appended g c) details signature
    readable details signature ld ls =
        let e = settings_are in
        record {
          good = ap settings_good e.0 ∙ sound-settings st sound;
          width = ap width_good e.1 ∙ sound.width;
          spelled = spelled;
          details_length = ld;
          signature_length = ls;
        }

    appended_bytes : AllBytes (appended g c)
    appended_bytes = subst AllBytes (sym spelled.is) (compact_bytes (settings_of settings) (width_of settings) spelled.entry)

    read_again : (details signature : List ℕ) → length details ≡ 72 → length signature ≡ 64
        → read_back settings (appended g c) details signature ≡ read_as (order_in c) signature
    unfolding readable spelled
    read_again details signature ld ls =
        spelled_read settings (appended g c) details signature settings_typed appended_bytes (readable details signature ld ls)
        ∙ ap (λ (k : Order). read_as k signature) order_is

pub issued_is_read : IssuedIsRead
unfolding settings st
issued_is_read g a few c t z out details signature lo ld ls =
    (read_again g a few c t z out lo details signature ld ls, (details_are_read (order_in c).details (details_typed c t)).1)
