-- What is known of names, of entries that can be spelled, and of the encrypted counter.
use Rattle.std.proofs.lemmas.List.{length-replicate}
use Rattle.std.proofs.Common.{ℕ, ◌-◌, ◌≤◌, ◌<◌, ◌≡◌, refl, sym, ap, ◌∙◌, Bool, true, false, not, ◌&&◌, ◌||◌, List, arith, leb-true, le-leb, length, take, drop, replicate, length-append, length-take, length-drop}
use Rattle.primitives.specs.Bytes.{AllBytes}
use Rattle.primitives.specs.Counter.{width_good, xor_first}
use Rattle.primitives.proofs.ByteLists.{bytes_append, bytes_take, bytes_replicate}
use Rattle.primitives.specs.Aes.{cipher}
use Rattle.primitives.proofs.Cipher.{AllWords, length_cipher, cipher_bytes}
use Rattle.primitives.proofs.Twos.{counter_whole}
use Rattle.primitives.proofs.Xors.{bytes_xor_first, length_xor_first, drop_xor_first, xor_first_back}
use Rattle.receipt.specs.Settings.{name_text, name_of, csp_good, id_good, serial_good, settings_good, sized, zeros}
use Rattle.receipt.proofs.Names.{zeros_are, zeros_good}
use Rattle.receipt.specs.DateTime.{date_good}
use Rattle.receipt.specs.Amount.{amount_limit}
use Rattle.receipt.specs.Details.{standard, amounts_within}
use Rattle.receipt.specs.Chain.{iv, key_stream, encrypted_counter, decrypted_counter}
use Rattle.receipt.specs.Payload.{payload, counter_good, fields_within}
use Rattle.receipt.specs.Compact.{signing_input, signature_zero, preparable_within, spellable, spellable_within, no_entry}
use Rattle.receipt.specs.declared.details.Kind.{Kind}
use Rattle.receipt.specs.declared.details.Kind.TheVariants.{Standard, Cancellation, Training}
use Rattle.receipt.specs.declared.settings.Name.{Name}
use Rattle.receipt.specs.declared.settings.Settings.{Settings}
use Rattle.receipt.specs.declared.entry.Signature.{Signature}
use Rattle.receipt.specs.declared.payload.PayloadFields.{PayloadFields}
use Rattle.receipt.specs.declared.entry.Entry.{Entry}
use Rattle.primitives.proofs.Rows.{both, true-is-not-false}
use Rattle.receipt.proofs.FormCalls.{length_input}

-- ---- the part of an array that holds a name, and the name of a text

pub lent_name : (name : Name) → take (name.len - 0) name.bytes ≡ name_text name
unfolding name_text
lent_name name =
    let e : name.len - 0 ≡ name.len = omega arith in
    ap (λ (k : ℕ). take k name.bytes) e

pub len_of : (t : List ℕ) → (name_of t).len ≡ length t
unfolding name_of
len_of t = refl

pub length_array : (t : List ℕ) → length (name_of t).bytes ≡ 32
unfolding name_of
length_array t = simp (length-append, length-take, length-replicate) (omega arith)

pub bytes_array : {t : List ℕ} → AllBytes t → AllBytes (name_of t).bytes
unfolding name_of
bytes_array {t} p = bytes_append (bytes_take 32 p) (bytes_replicate (32 - length t) (omega arith))

-- ---- the questions about settings

pub record AllGood (s : Settings) : Type 0 where
  pub csp : csp_good s.csp ≡ true
  pub id : id_good s.id ≡ true
  pub serial : serial_good s.serial ≡ true

pub settings_all : (s : Settings) → settings_good s ≡ true → AllGood s
unfolding settings_good
settings_all s e =
    let a = both (csp_good s.csp) (id_good s.id && serial_good s.serial) e in
    let b = both (id_good s.id) (serial_good s.serial) a.1 in
    record { csp = a.0; id = b.0; serial = b.1 }

pub all_settings : (s : Settings) → AllGood s → settings_good s ≡ true
unfolding settings_good
all_settings s g = rw (g.csp, g.id, g.serial)

-- ---- entries that can be spelled

-- under a limit of an amount
pub record AdmittedWithin (limit : ℕ) (s : Settings) (n : ℕ) (e : Entry) : Type 0 where
  pub sized : sized s ≡ true
  pub width : width_good n ≡ true
  pub number : 1 ≤ e.fields.details.number
  pub date : date_good e.fields.details.date ≡ true
  pub amounts : amounts_within limit e.fields.details.amounts ≡ true
  pub counter : counter_good n e.fields.details.kind e.fields.counter ≡ true
  pub signature : signature_zero e.signature ≡ true

module _ (limit : ℕ) (s : Settings) (n : ℕ) (e : Entry) where
  pub admitted_within : spellable_within limit s n e ≡ true → AdmittedWithin limit s n e
  unfolding spellable_within preparable_within fields_within
  admitted_within g =
      let a₁ = both _ _ g in
      let a₂ = both _ _ a₁.0 in
      let a₃ = both _ _ a₂.1 in
      let a₄ = both _ _ a₃.1 in
      let a₅ = both _ _ a₄.1 in
      let a₆ = both _ _ a₅.1 in
      record { sized = a₂.0; width = a₃.0; number = leb-true 1 _ a₄.0; date = a₅.0; amounts = a₆.0; counter = a₆.1; signature = a₁.1 }

  pub within_yes : AdmittedWithin limit s n e → spellable_within limit s n e ≡ true
  unfolding spellable_within preparable_within fields_within
  within_yes a = rw (a.sized, a.width, le-leb 1 e.fields.details.number a.number, a.date, a.amounts, a.counter, a.signature)

-- under the limit that the calls have
abbrev pub Admitted : Settings → ℕ → Entry → Type 0
Admitted s n e = AdmittedWithin amount_limit s n e

module _ (s : Settings) (n : ℕ) (e : Entry) where
  pub admitted : spellable s n e ≡ true → Admitted s n e
  admitted g = admitted_within amount_limit s n e g

  pub spellable_yes : Admitted s n e → spellable s n e ≡ true
  spellable_yes a = within_yes amount_limit s n e a

-- ---- zeros

module _ (n : ℕ) where
  pub counter_after_lem : (counter : List ℕ) → length counter ≡ 8 → counter_good n Standard counter ≡ true → drop n counter ≡ replicate (8 - n) 0
  unfolding counter_good
  counter_after_lem counter l g = zeros_are (drop n counter) g ∙ ap (λ (k : ℕ). replicate k 0) (length-drop n counter ∙ ap (λ (k : ℕ). k - n) l)

  pub after_counter : (counter : List ℕ) → drop n counter ≡ replicate (8 - n) 0 → counter_good n Standard counter ≡ true
  unfolding counter_good
  after_counter counter e = ap zeros e ∙ zeros_good (8 - n)

  pub counter_none : (kind : Kind) (counter : List ℕ) → standard kind ≡ false → length counter ≡ 8 → counter_good n kind counter ≡ true → counter ≡ replicate 8 0
  unfolding counter_good
  counter_none Standard counter k l g = true-is-not-false (sym k)
  counter_none Cancellation counter k l g = zeros_are counter g ∙ ap (λ (k : ℕ). replicate k 0) l
  counter_none Training counter k l g = zeros_are counter g ∙ ap (λ (k : ℕ). replicate k 0) l

  pub none_counter : (kind : Kind) → standard kind ≡ false → counter_good n kind (replicate 8 0) ≡ true
  unfolding counter_good
  none_counter Standard k = true-is-not-false (sym k)
  none_counter Cancellation k = zeros_good 8
  none_counter Training k = zeros_good 8

pub standard_is : (kind : Kind) → standard kind ≡ true → kind ≡ Standard
standard_is Standard e = refl
standard_is Cancellation e = true-is-not-false e
standard_is Training e = true-is-not-false e

pub failed_bytes : (g : Signature) → length g.bytes ≡ 64 → g.failed ≡ true → signature_zero g ≡ true → g.bytes ≡ replicate 64 0
unfolding signature_zero
failed_bytes g l f z =
    let q : zeros g.bytes ≡ true = sym (ap (λ (b : Bool). not b || zeros g.bytes) f) ∙ z in
    zeros_are g.bytes q ∙ ap (λ (k : ℕ). replicate k 0) l

pub failed_zero : signature_zero (record { failed = true; bytes = replicate 64 0 }) ≡ true
unfolding signature_zero
failed_zero = zeros_good 64

pub signed_zero : (bytes : List ℕ) → signature_zero (record { failed = false; bytes = bytes }) ≡ true
unfolding signature_zero
signed_zero bytes = refl

-- ---- what was decrypted is encrypted

pub encrypt_back : (schedule : List (List ℕ)) (id : Name) (number n : ℕ) (bytes : List ℕ) → AllWords schedule → width_good n ≡ true → length bytes ≡ 8 → AllBytes bytes
    → drop n bytes ≡ replicate (8 - n) 0 → encrypted_counter schedule id number n (decrypted_counter schedule id number n bytes) ≡ bytes
unfolding encrypted_counter decrypted_counter key_stream
encrypt_back schedule id number n bytes w g l b z =
    let k = cipher schedule (iv id number) in
    let h : length bytes ≤ length k = omega (arith, length_cipher schedule (iv id number)) in
    let x = xor_first n bytes k in
    let lx : length x ≡ 8 = length_xor_first n bytes k h ∙ l in
    let bx : AllBytes x = bytes_xor_first n b (cipher_bytes (iv id number) w) in
    let dx : drop n x ≡ replicate (8 - n) 0 = drop_xor_first n bytes k h ∙ z in
    ap (λ (c : List ℕ). xor_first n c k) (counter_whole n g bx lx dx) ∙ xor_first_back n bytes k h

-- ---- what is signed is never empty

pub input_some : (s : Settings) (n : ℕ) (f : PayloadFields) → 0 < length (signing_input s n f)
unfolding signing_input
input_some s n f = omega (arith, length_input (payload s n f))

-- nothing is found in a refused text
pub none_found : no_entry.ok ≡ false
unfolding no_entry
none_found = refl
