-- What the yes answers to a call say, and that the entry of such a call is right.
use Rattle.std.proofs.lemmas.Bool.{not-true}
use Rattle.std.proofs.Common.{ℕ, ◌+◌, ◌≤◌, ◌<◌, ◌≡◌, refl, sym, ap, ◌∙◌, Bool, true, false, cond, ◌&&◌, ◌||◌, List, arith, leb-true, le-leb, lt-ltb, ltb-true, eqb-true, eqb, ◌+ℤ◌, length, replicate}
use Rattle.primitives.specs.Bytes.{AllBytes}
use Rattle.primitives.specs.Counter.{width_good, counter_fits}
use Rattle.primitives.specs.Aes.{key_schedule}
use Rattle.primitives.proofs.ByteLists.{bytes_replicate}
use Rattle.primitives.proofs.Cipher.{schedule_bytes}
use Rattle.receipt.specs.Settings.{csp_good, id_good, serial_good, settings_good}
use Rattle.receipt.specs.declared.settings.Name.{Name}
use Rattle.receipt.specs.Payload.{counter_good}
use Rattle.receipt.specs.DateTime.{date_good}
use Rattle.receipt.specs.Details.{standard, amounts_good, counted, After}
use Rattle.receipt.specs.Chain.{chain_value, encrypted_counter, decrypted_counter}
use Rattle.receipt.specs.Compact.{signature_zero, spellable, TypedEntry}
use Rattle.receipt.specs.declared.details.Kind.{Kind}
use Rattle.receipt.specs.declared.details.Kind.TheVariants.{Standard, Cancellation, Training}
use Rattle.receipt.specs.declared.details.Details.{Details}
use Rattle.receipt.specs.declared.entry.Signature.{Signature}
use Rattle.primitives.proofs.Rows.{both, true-is-not-false, ask_zero}
use Rattle.receipt.proofs.Names.{good_sized}
use Rattle.receipt.proofs.Chains.{length_chain, bytes_chain, length_encrypted, bytes_encrypted, after_encrypted, decrypt_back}
use Rattle.journal.specs.Head.{entry_text}
use Rattle.primitives.specs.Questions.{ask, ifZero}
use Rattle.journal.specs.Changing.{change_number}
use Rattle.journal.specs.Step.{count_within, sound_alone, sound, number_above, first_good, new_counter, details_number, details_number_within, fields_of, renew_number}
use Rattle.journal.specs.Issuing.{signature_sized, given_signature, entry_of, text_of, entry_fits, issue_number, issue_number_within, issued, issued_within}
use Rattle.journal.specs.Calls.{Order, TypedOrder}
use Rattle.journal.specs.declared.state.State.{State}
use Rattle.receipt.proofs.Entries.{spellable_yes, after_counter, none_counter, failed_zero, signed_zero}
use Rattle.journal.proofs.Serials.{newest_good, first_good_lem}
use Rattle.journal.proofs.Check.{RightAt, above_true, first_true, new_fits, new_is}
use Rattle.journal.specs.State.{used, newest, is_in, serials_good, settings_now, settings_first, head_length_now}

-- ---- chain bytes

-- eight bytes
pub record Eight (xs : List ℕ) : Type 0 where
  pub long : length xs ≡ 8
  pub bytes : AllBytes xs

pub chain-eight : (text : List ℕ) → Eight (chain_value text)
chain-eight text = record { long = length_chain text; bytes = bytes_chain text }

-- ---- what the yes answers say

pub record Sound (st : State) : Type 0 where
  pub csp : csp_good st.csp ≡ true
  pub id : id_good st.id ≡ true
  pub serials : serials_good st.serials ≡ true
  pub width : width_good st.width ≡ true
  pub counter : counter_fits st.width st.counter ≡ true
  pub issued : st.issued ≤ st.last
  pub since : st.since ≤ st.issued
  pub place : st.place + 4 ≤ st.length
  pub head : head_length_now st ≤ st.length

pub sound-true : (st : State) → sound_alone st ≡ true → Sound st
unfolding sound_alone count_within
sound-true st e =
    let p₁ = both _ _ e in
    let n₁ = both _ _ p₁.0 in
    let n₂ = both _ _ n₁.1 in
    let p₂ = both _ _ p₁.1 in
    let p₃ = both _ _ p₂.1 in
    let p₄ = both _ _ p₃.1 in
    let c = both _ _ p₄.0 in
    let p₅ = both _ _ p₄.1 in
    record {
      csp = n₁.0;
      id = n₂.0;
      serials = n₂.1;
      width = p₂.0;
      counter = p₃.0;
      issued = leb-true _ _ c.0;
      since = leb-true _ _ c.1;
      place = leb-true _ _ p₅.0;
      head = leb-true _ _ p₅.1;
    }

pub sound-yes : (st : State) → Sound st → sound_alone st ≡ true
unfolding sound_alone count_within
sound-yes st s =
    rw (s.csp, s.id, s.serials, s.width, s.counter, le-leb _ _ s.issued, le-leb _ _ s.since, le-leb _ _ s.place, le-leb _ _ s.head)

pub settings-three : (csp : List ℕ) (id serial : Name) → csp_good csp ≡ true → id_good id ≡ true → serial_good serial ≡ true
    → settings_good (record { csp = csp; id = id; serial = serial }) ≡ true
unfolding settings_good
settings-three csp id serial a b c = rw (a, b, c)

-- the settings in force and those of the head are good
pub sound-settings : (st : State) → Sound st → settings_good (settings_now st) ≡ true
sound-settings st s = settings-three st.csp st.id (newest st.serials) s.csp s.id (newest_good st.serials s.serials)

pub names_first : (st : State) → csp_good st.csp && (id_good st.id && serials_good st.serials) ≡ true → settings_good (settings_first st) ≡ true
names_first st e =
    let p = both _ _ e in
    let q = both _ _ p.1 in
    settings-three st.csp st.id (settings_first st).serial p.0 q.0 (first_good_lem st.serials q.1)

-- 7 to 11
pub record Detailed (st : State) (d : Details) : Type 0 where
  pub above : st.last < d.number
  pub date : date_good d.date ≡ true
  pub amounts : amounts_good d.amounts ≡ true
  pub first : first_good st d ≡ true
  pub counter : (new_counter st d).fits ≡ true

pub details-zero : (st : State) (d : Details) (rest : ℕ) → details_number st d rest ≡ 0 → Detailed st d × (rest ≡ 0)
unfolding details_number_within
details-zero st d rest z =
    let p₁ = ask_zero _ _ _ z in
    let p₂ = ask_zero _ _ _ p₁.1 in
    let p₃ = ask_zero _ _ _ p₂.1 in
    let p₄ = ask_zero _ _ _ p₃.1 in
    let p₅ = ask_zero _ _ _ p₄.1 in
    (record { above = above_true st d p₁.0; date = p₂.0; amounts = p₃.0; first = p₄.0; counter = p₅.0 }, p₅.1)

pub details-yes : (st : State) (d : Details) (rest : ℕ) → Detailed st d → details_number st d rest ≡ rest
unfolding details_number_within number_above ask
details-yes st d rest a = rw (lt-ltb _ _ a.above, a.date, a.amounts, a.first, a.counter)

-- the questions 7 to 11 alone, and then the rest: as code asks them
pub details-then : (st : State) (d : Details) (rest : ℕ) → details_number st d rest ≡ ifZero (details_number st d 0) rest (details_number st d 0)
unfolding details_number_within ask ifZero
details-then st d rest = go (number_above st d) (date_good d.date) (amounts_good d.amounts) (first_good st d) (new_counter st d).fits
  where
    go : (a b c e f : Bool)
        → ask a 7 (ask b 8 (ask c 9 (ask e 10 (ask f 11 rest))))
        ≡ ifZero (ask a 7 (ask b 8 (ask c 9 (ask e 10 (ask f 11 0))))) rest (ask a 7 (ask b 8 (ask c 9 (ask e 10 (ask f 11 0)))))
    go false b c e f = refl
    go true false c e f = refl
    go true true false e f = refl
    go true true true false f = refl
    go true true true true false = refl
    go true true true true true = refl

pub record Answered (st : State) (d : Details) (sig : List ℕ) (room : ℕ) : Type 0 where
  pub sound : Sound st
  pub within : st.length ≤ room
  pub details : Detailed st d
  pub signature : signature_sized sig ≡ true
  pub fits : st.length + length (entry_text (text_of st d sig)) ≤ room

pub issued-number : (st : State) (d : Details) (sig : List ℕ) (room : ℕ) → (issued st d sig room).number ≡ issue_number st d sig room
unfolding issued_within
issued-number st d sig room = refl

pub issue-zero : (st : State) (d : Details) (sig : List ℕ) (room : ℕ) → issue_number st d sig room ≡ 0 → Answered st d sig room
unfolding issue_number_within sound entry_fits
issue-zero st d sig room z =
    let p = ask_zero _ _ _ z in
    let q = both _ _ p.0 in
    let r = details-zero st d _ p.1 in
    let t = ask_zero _ _ _ r.1 in
    let u = ask_zero _ _ _ t.1 in
    record { sound = sound-true st q.0; within = leb-true _ _ q.1; details = r.0; signature = t.0; fits = leb-true _ _ u.0 }

pub issue-yes : (st : State) (d : Details) (sig : List ℕ) (room : ℕ) → Answered st d sig room → issue_number st d sig room ≡ 0
unfolding issue_number_within sound entry_fits ask
issue-yes st d sig room a =
    rw (sound-yes st a.sound, le-leb _ _ a.within, details-yes st d _ a.details, a.signature, le-leb _ _ a.fits)

-- ---- the entry of an accepted call is right

-- a slice of 64 bytes, or an empty one
pub record Signed (g : Signature) : Type 0 where
  pub long : length g.bytes ≡ 64
  pub bytes : AllBytes g.bytes

pub sized-cases : (sig : List ℕ) → signature_sized sig ≡ true → eqb (length sig) 0 ≡ false → length sig ≡ 64
unfolding signature_sized
sized-cases sig e n = go (eqb (length sig) 64) refl e
  where
    go : (t : Bool) → eqb (length sig) 64 ≡ t → t || eqb (length sig) 0 ≡ true → length sig ≡ 64
    go true q f = eqb-true (length sig) 64 q
    go false q f = true-is-not-false (sym n ∙ f)

pub given-signed : (sig : List ℕ) → AllBytes sig → signature_sized sig ≡ true → Signed (given_signature sig)
unfolding given_signature
given-signed sig b e = go (eqb (length sig) 0) refl
  where
    go : (t : Bool) → eqb (length sig) 0 ≡ t → Signed (cond t (record { failed = true; bytes = replicate 64 0 }) (record { failed = false; bytes = sig }))
    go true q = record { long = refl; bytes = bytes_replicate 64 (omega arith) }
    go false q = record { long = sized-cases sig e q; bytes = b }

-- if the device has failed, the bytes are zero
given-zero : (sig : List ℕ) → signature_zero (given_signature sig) ≡ true
unfolding given_signature
given-zero sig = go (eqb (length sig) 0)
  where
    go : (t : Bool) → signature_zero (cond t (record { failed = true; bytes = replicate 64 0 }) (record { failed = false; bytes = sig })) ≡ true
    go true = failed_zero
    go false = signed_zero sig

-- the counter's eight bytes
module _ (st : State) (d : Details) where
  counter-eight : AllBytes st.key → Eight (fields_of st d).counter
  unfolding fields_of
  counter-eight b = go (standard d.kind)
    where
      go : (t : Bool) → Eight (cond t (encrypted_counter (key_schedule st.key) (settings_now st).id d.number st.width (new_counter st d).counter) (replicate 8 0))
      go true =
          record {
            long = length_encrypted (key_schedule st.key) (settings_now st).id d.number st.width (new_counter st d).counter;
            bytes = bytes_encrypted (key_schedule st.key) (settings_now st).id d.number st.width (new_counter st d).counter (schedule_bytes b);
          }
      go false = record { long = refl; bytes = bytes_replicate 8 (omega arith) }

  counter-good : counter_good st.width d.kind (fields_of st d).counter ≡ true
  unfolding fields_of
  counter-good = go d.kind
    where
      go : (k : Kind) → counter_good st.width k (cond (standard k) (encrypted_counter (key_schedule st.key) (settings_now st).id d.number st.width (new_counter st d).counter) (replicate 8 0)) ≡ true
      go Standard = after_counter st.width _ (after_encrypted (key_schedule st.key) (settings_now st).id d.number st.width (new_counter st d).counter)
      go Cancellation = none_counter st.width Cancellation refl
      go Training = none_counter st.width Training refl

  counter-decrypted : (new_counter st d).fits ≡ true → d.kind ≡ Standard
      → decrypted_counter (key_schedule st.key) (settings_now st).id d.number st.width (fields_of st d).counter ≡ st.counter +ℤ counted d
  unfolding fields_of
  counter-decrypted f k =
      let z = (new_counter st d).counter in
      let e : z ≡ st.counter +ℤ counted d = ap (λ (a : After). a.counter) (new_is st d f) in
      ap (λ (x : Kind). decrypted_counter (key_schedule st.key) (settings_now st).id d.number st.width (cond (standard x) (encrypted_counter (key_schedule st.key) (settings_now st).id d.number st.width z) (replicate 8 0))) k
      ∙ decrypt_back (key_schedule st.key) (settings_now st).id d.number st.width z (ap (counter_fits st.width) e ∙ (new_fits st d f).fits)
      ∙ e

-- the entry of a call can be spelled once 6 to 12 are answered yes
module _ (st : State) (d : Details) (sig : List ℕ) (s : Sound st) (a : Detailed st d) (g : signature_sized sig ≡ true) where
  pub call-spellable : spellable (settings_now st) st.width (entry_of st d sig) ≡ true
  unfolding entry_of fields_of
  call-spellable =
      spellable_yes (settings_now st) st.width (entry_of st d sig) (record {
        sized = good_sized (settings_now st) (sound-settings st s);
        width = s.width;
        number = omega (arith, a.above);
        date = a.date;
        amounts = a.amounts;
        counter = counter-good st d;
        signature = given-zero sig;
      })

  -- and it has the code's types
  pub entry-typed : AllBytes st.key → Eight st.chain → d.number < 4294967296 → length d.amounts ≡ 5 → AllBytes sig → TypedEntry (entry_of st d sig)
  unfolding entry_of fields_of
  entry-typed kb chain number amounts b =
      let p = given-signed sig b g in
      let c = counter-eight st d kb in
      record {
        fields = record { number = number; amounts = amounts; counter = c.long; counter_bytes = c.bytes; chain = chain.long; chain_bytes = chain.bytes };
        signature = p.long;
        signature_bytes = p.bytes;
      }

pub right-call : (st : State) (c : Order) (room : ℕ) → AllBytes st.key → Eight st.chain → TypedOrder c → Answered st c.details c.signature room
    → RightAt st (entry_of st c.details c.signature)
unfolding entry_of fields_of
right-call st c room b chain tc a =
    let d = c.details in
    record {
      typed = entry-typed st d c.signature a.sound a.details a.signature b chain tc.number tc.amounts tc.bytes;
      spelled = call-spellable st d c.signature a.sound a.details a.signature;
      above = a.details.above;
      first = first_true st d a.details.first;
      chained = refl;
      counter = record { fits = (new_fits st d a.details.counter).fits; decrypted = counter-decrypted st d a.details.counter };
    }

-- ---- a Change that is not refused

pub record Changeable (st : State) (s : Name) (room : ℕ) : Type 0 where
  pub sound : Sound st
  pub within : st.length ≤ room
  pub good : serial_good s ≡ true
  pub new : is_in s (used st.serials) ≡ false
  pub few : length (used st.serials) < 8
  pub fits : st.length + (8 + s.len) ≤ room

pub serial-zero : (st : State) (s : Name) (rest : ℕ) → renew_number st s rest ≡ 0 → (is_in s (used st.serials) ≡ false) × (length (used st.serials) < 8) × (rest ≡ 0)
unfolding renew_number
serial-zero st s rest z =
    let p = ask_zero _ _ _ z in
    let q = ask_zero _ _ _ p.1 in
    (not-true _ p.0, ltb-true _ _ q.0, q.1)

pub serial-yes : (st : State) (s : Name) (rest : ℕ) → is_in s (used st.serials) ≡ false → length (used st.serials) < 8 → renew_number st s rest ≡ rest
unfolding renew_number ask
serial-yes st s rest n f = rw (n, lt-ltb _ _ f)

pub change-zero : (st : State) (s : Name) (room : ℕ) → change_number st s room ≡ 0 → Changeable st s room
unfolding change_number sound
change-zero st s room z =
    let p = ask_zero _ _ _ z in
    let q = both _ _ p.0 in
    let r = ask_zero _ _ _ p.1 in
    let t = serial-zero st s _ r.1 in
    let u = ask_zero _ _ _ t.2 in
    record { sound = sound-true st q.0; within = leb-true _ _ q.1; good = r.0; new = t.0; few = t.1; fits = leb-true _ _ u.0 }

pub change-yes : (st : State) (s : Name) (room : ℕ) → Changeable st s room → change_number st s room ≡ 0
unfolding change_number sound ask
change-yes st s room a =
    rw (sound-yes st a.sound, le-leb _ _ a.within, a.good, serial-yes st s _ a.new a.few, le-leb _ _ a.fits)
