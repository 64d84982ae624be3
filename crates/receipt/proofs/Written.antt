-- The payload as its writers write it, and its length.
use Rattle.std.proofs.Common.{◌≡◌, ap, ◌∙◌, true, ◌&&◌, List, [], ◌∷◌, ◌++◌, ℕ, ◌+◌, ◌*◌, ◌/◌, ◌≤◌, ◌<◌, arith, leb-true, leb, ℤ, length, take, length-append, length-take, length-take-le}
use Rattle.primitives.specs.Place.{overwrite}
use Rattle.primitives.specs.declared.base64.Alphabet.TheVariants as alphabet
use Rattle.primitives.proofs.Over.{then}
use Rattle.primitives.proofs.Base64Lengths.{length_encoding}
use Rattle.receipt.specs.Decimal.{digits}
use Rattle.receipt.specs.DateTime.{date_good, date_text}
use Rattle.receipt.specs.Settings.{name_text, sized, SettingsLengths}
use Rattle.receipt.specs.Details.{amounts_good, amounts_within}
use Rattle.receipt.specs.Amount.{longest_amount, amounts_text}
use Rattle.receipt.specs.Texts.{beginning, cancellation_text, training_text}
use Rattle.receipt.proofs.Texts.{beginning_long, cancellation_long, training_long}
use Rattle.receipt.specs.Payload.{base64, register_part, moment, counter_content, counter_field, closing, body, payload, longest_payload, counter_good, fields_good, fields_within, TypedFields}
use Rattle.receipt.specs.declared.datetime.DateTime.{DateTime}
use Rattle.receipt.specs.declared.details.Kind.{Kind}
use Rattle.receipt.specs.declared.details.Kind.TheVariants.{Standard, Cancellation, Training}
use Rattle.receipt.specs.declared.settings.Name.{Name}
use Rattle.receipt.specs.declared.settings.Settings.{Settings}
use Rattle.receipt.specs.declared.payload.PayloadFields.{PayloadFields}
use Rattle.primitives.proofs.Rows.{both}
use Rattle.receipt.proofs.Digits.{length_digits, width_short}
use Rattle.receipt.proofs.Cents.{amount_short}
use Rattle.receipt.proofs.Dates.{length_date}

pub length_base64 : (xs : List ℕ) → length (base64 xs) ≡ (length xs + 2) / 3 * 4
length_base64 xs = length_encoding alphabet.Standard xs

-- ---- names

pub length_name : (n : Name) → length n.bytes ≡ 32 → n.len ≤ 32 → length (name_text n) ≡ n.len
unfolding name_text
length_name n e h = length-take-le n.len n.bytes (omega arith)

pub record Short (s : Settings) : Type 0 where
  pub id : s.id.len ≤ 32
  pub serial : s.serial.len ≤ 32

pub sized_short : (s : Settings) → sized s ≡ true → Short s
unfolding sized
sized_short s e =
    let p = both _ _ e in
    record { id = leb-true s.id.len 32 p.0; serial = leb-true s.serial.len 32 p.1 }

-- ---- the head

module _ (s : Settings) (three : length s.csp ≡ 3) where
  pub register_long : length (register_part s) ≡ 9 + length (name_text s.id)
  unfolding register_part
  register_long = simp length-append (omega (arith, beginning_long))

  pub length_register : length s.id.bytes ≡ 32 → s.id.len ≤ 32 → length (register_part s) ≡ 9 + s.id.len
  length_register whole short = omega (arith, register_long, length_name s.id whole short)

  pub put_register : (b : List ℕ) (at : ℕ) {begin id b₁ b₂ b₃ : List ℕ} → id ≡ name_text s.id → at + length (register_part s) ≤ length b
      → begin ≡ beginning → b₁ ≡ overwrite b at begin → b₂ ≡ overwrite b₁ (at + 4) (s.csp ++ (95 ∷ []))
      → b₃ ≡ overwrite b₂ (at + 8) (id ++ (95 ∷ [])) → b₃ ≡ overwrite b at (register_part s)
  unfolding register_part
  put_register b at {begin} {id} {b₁} {b₂} is room e e₁ e₂ e₃ =
      let l : length (register_part s) ≡ 9 + length (name_text s.id) = register_long in
      let q₂ = then _ _ _ _ _ (e₁ ∙ ap (overwrite b at) e) e₂ (omega (arith, beginning_long)) (omega (arith, beginning_long)) in
      then _ _ _ _ _ q₂ (e₃ ∙ (λ i. overwrite b₂ (at + 8) (is i ++ (95 ∷ [])))) (simp length-append (omega (arith, beginning_long))) (simp length-append (omega (arith, beginning_long)))

-- ---- number and date

pub length_moment : (n : ℕ) (t : DateTime) → length (moment n t) ≡ length (digits n) + 21
unfolding moment
length_moment n t = simp (length-append, length_date) (omega arith)

pub put_moment : (n : ℕ) (t : DateTime) (b : List ℕ) (at p : ℕ) {b₁ b₂ b₃ b₄ : List ℕ} → p ≡ at + length (digits n) → at + length (moment n t) ≤ length b
    → b₁ ≡ overwrite b at (digits n) → b₂ ≡ overwrite b₁ p (95 ∷ []) → b₃ ≡ overwrite b₂ (p + 1) (date_text t) → b₄ ≡ overwrite b₃ (p + 20) (95 ∷ [])
    → b₄ ≡ overwrite b at (moment n t)
unfolding moment
put_moment n t b at p q room e₁ e₂ e₃ e₄ =
    let l = length_moment n t in
    let ls = length_date t in
    let q₂ = then _ _ _ _ _ e₁ e₂ q (omega arith) in
    let q₃ = then _ _ _ _ _ q₂ e₃ (simp length-append (omega arith)) (simp length-append (omega arith)) in
    then _ _ _ _ _ q₃ e₄ (simp length-append (omega arith)) (simp length-append (omega arith))

-- ---- counter field, serial and chain field

pub record Marked (text b b' : List ℕ) (at p : ℕ) : Type 0 where
  pub place : p ≡ at + length text + 1
  pub is : b' ≡ overwrite b at (text ++ (95 ∷ []))

-- a text and a '_' after it
pub marked : (text b : List ℕ) (at p : ℕ) {t b₁ b₂ : List ℕ} → t ≡ text → at + length text + 1 ≤ length b → p ≡ at + length t
    → b₁ ≡ overwrite b at t → b₂ ≡ overwrite b₁ p (95 ∷ []) → Marked text b b₂ at (p + 1)
marked text b at p q room e e₁ e₂ =
    let l = ap length q in
    record { place = omega arith; is = then _ _ _ _ _ (e₁ ∙ ap (overwrite b at) q) e₂ (omega arith) (omega arith) }

module _ (s : Settings) (n : ℕ) (f : PayloadFields) where
  pub closing_long : length (closing s n f) ≡ length (counter_field n f.details.kind f.counter) + length (name_text s.serial) + length (base64 f.chain) + 2
  unfolding closing
  closing_long = simp length-append (omega arith)

  pub length_closing : length s.serial.bytes ≡ 32 → s.serial.len ≤ 32 → length (closing s n f) ≡ length (counter_field n f.details.kind f.counter) + s.serial.len + length (base64 f.chain) + 2
  length_closing whole short = omega (arith, closing_long, length_name s.serial whole short)

  pub put_closing : (b : List ℕ) (at p : ℕ) {serial b₁ b₂ b₃ : List ℕ} → serial ≡ name_text s.serial → p ≡ at + length (counter_field n f.details.kind f.counter) + 1
      → at + length (closing s n f) ≤ length b → b₁ ≡ overwrite b at (counter_field n f.details.kind f.counter ++ (95 ∷ []))
      → b₂ ≡ overwrite b₁ p (serial ++ (95 ∷ [])) → b₃ ≡ overwrite b₂ (p + length serial + 1) (base64 f.chain)
      → b₃ ≡ overwrite b at (closing s n f)
  unfolding closing
  put_closing b at p {serial} {b₁} is q room e₁ e₂ e₃ =
      let lc = closing_long in
      let l : length serial ≡ length (name_text s.serial) = ap length is in
      let q₂ = then _ _ _ _ _ e₁ (e₂ ∙ (λ i. overwrite b₁ p (is i ++ (95 ∷ [])))) (simp length-append (omega arith)) (simp length-append (omega arith)) in
      then _ _ _ _ _ q₂ e₃ (simp length-append (omega arith)) (simp length-append (omega arith))

-- ---- the whole

module _ (s : Settings) (n : ℕ) (f : PayloadFields) where
  pub length_body : length (body s n f) ≡ length (moment f.details.number f.details.date) + length (amounts_text f.details.amounts) + length (closing s n f)
  unfolding body
  length_body = simp length-append

  pub put_body : (b : List ℕ) (at p q : ℕ) {b₁ b₂ b₃ : List ℕ}
      → p ≡ at + length (moment f.details.number f.details.date) → q ≡ p + length (amounts_text f.details.amounts) → at + length (body s n f) ≤ length b
      → b₁ ≡ overwrite b at (moment f.details.number f.details.date) → b₂ ≡ overwrite b₁ p (amounts_text f.details.amounts) → b₃ ≡ overwrite b₂ q (closing s n f)
      → b₃ ≡ overwrite b at (body s n f)
  unfolding body
  put_body b at p q hp hq room e₁ e₂ e₃ =
      let lb = length_body in
      let q₂ = then _ _ _ _ _ e₁ e₂ hp (omega arith) in
      then _ _ _ _ _ q₂ e₃ (simp length-append (omega arith)) (simp length-append (omega arith))

  pub length_payload : length (payload s n f) ≡ length (register_part s) + length (body s n f)
  unfolding payload
  length_payload = length-append (register_part s) (body s n f)

  pub put_payload : (b : List ℕ) (at p : ℕ) {b₁ b₂ : List ℕ} → p ≡ at + length (register_part s) → at + length (payload s n f) ≤ length b
      → b₁ ≡ overwrite b at (register_part s) → b₂ ≡ overwrite b₁ p (body s n f) → b₂ ≡ overwrite b at (payload s n f)
  unfolding payload
  put_payload b at p q room e₁ e₂ = then _ _ _ _ _ e₁ e₂ q (omega (arith, length_payload))

-- ---- its greatest length

amounts_short : (zs : List ℤ) → amounts_good zs ≡ true → length (amounts_text zs) ≤ (longest_amount + 1) * length zs
unfolding amounts_text amounts_within
amounts_short [] e = omega arith
amounts_short (z ∷ zs) e =
    let p = both _ _ e in
    simp length-append (omega (arith, amount_short z p.0, amounts_short zs p.1))

counter_short : (n : ℕ) (kind : Kind) (counter : List ℕ) → length counter ≡ 8 → length (counter_field n kind counter) ≤ 12
unfolding counter_field counter_content
counter_short n Standard counter e = omega (arith, length_base64 (take n counter), length-take n counter)
counter_short n Cancellation counter e = omega (arith, length_base64 cancellation_text, cancellation_long)
counter_short n Training counter e = omega (arith, length_base64 training_text, training_long)

-- what the test of the fields says
pub record Good (n : ℕ) (f : PayloadFields) : Type 0 where
  pub number : 1 ≤ f.details.number
  pub date : date_good f.details.date ≡ true
  pub amounts : amounts_good f.details.amounts ≡ true
  pub counter : counter_good n f.details.kind f.counter ≡ true

pub good : (n : ℕ) (f : PayloadFields) → fields_good n f ≡ true → Good n f
unfolding fields_within
good n f e =
    let d = date_good f.details.date in
    let a = amounts_good f.details.amounts in
    let k = counter_good n f.details.kind f.counter in
    let p = both (leb 1 f.details.number) (d && (a && k)) e in
    let q = both d (a && k) p.1 in
    let r = both a k q.1 in
    record { number = leb-true 1 f.details.number p.0; date = q.0; amounts = r.0; counter = r.1 }

-- what the payload's length depends on
pub record Sizes (f : PayloadFields) : Type 0 where
  pub number : f.details.number < 4294967296
  pub amounts : length f.details.amounts ≡ 5
  pub counter : length f.counter ≡ 8
  pub chain : length f.chain ≡ 8

-- "A payload is at most 200 bytes"
pub payload_most : (s : Settings) (n : ℕ) (f : PayloadFields) → SettingsLengths s → sized s ≡ true → Sizes f → fields_good n f ≡ true
    → length (payload s n f) ≤ longest_payload
payload_most s n f ts z tf e =
    let h = sized_short s z in
    let hn = tf.number in
    let five = tf.amounts in
    let eight = tf.chain in
    omega (
      arith,
      length_payload s n f,
      length_register s ts.csp ts.id h.id,
      length_body s n f,
      length_closing s n f ts.serial h.serial,
      length_moment f.details.number f.details.date,
      length_digits f.details.number,
      width_short 9 f.details.number (omega arith),
      amounts_short f.details.amounts (good n f e).amounts,
      counter_short n f.details.kind f.counter tf.counter,
      length_base64 f.chain,
      h.id,
      h.serial,
    )

pub payload_short : (s : Settings) (n : ℕ) (f : PayloadFields) → SettingsLengths s → sized s ≡ true → TypedFields f → fields_good n f ≡ true
    → length (payload s n f) ≤ longest_payload
payload_short s n f ts z tf e =
    payload_most s n f ts z (record { number = tf.number; amounts = tf.amounts; counter = tf.counter; chain = tf.chain }) e
