-- What the functions of an Open show at their returns, over plain variables.
use Rattle.std.proofs.lemmas.Bool.{lt-leb}
use Rattle.std.proofs.Common.{ℕ, ◌+◌, ◌≤◌, ◌<◌, ◌≡◌, refl, sym, ap, ◌∙◌, Bool, true, List, ◌++◌, append_assoc, arith, length, take, length-append, leb-true, le-leb, leb}
use Rattle.primitives.specs.Place.{overwrite, placed}
use Rattle.primitives.specs.Number.{bytes_of}
use Rattle.primitives.specs.Counter.{width_good}
use Rattle.primitives.proofs.Numbers.{length_bytes_of}
use Rattle.primitives.proofs.Over.{length_over, placed_room, then}
use Rattle.receipt.specs.Settings.{name_text, serial_good, settings_good, id_allowed, SettingsLengths, settings_number_for}
use Rattle.receipt.specs.declared.settings.Name.{Name}
use Rattle.receipt.specs.declared.settings.Settings.{Settings}
use Rattle.receipt.proofs.Names.{good_settings, length_text, settings_zero, settings_pass, settings_stop}
use Rattle.receipt.proofs.Entries.{settings_all}
use Rattle.journal.specs.Head.{head, head_length, front, section, pair_start}
use Rattle.journal.specs.State.{unopened}
use Rattle.journal.specs.Step.{fresh}
use Rattle.journal.specs.Opening.{open_number, opened, open_buffer}
use Rattle.journal.specs.declared.state.State.{State}
use Rattle.primitives.proofs.Rows.{ifZero-yes, ifZero-no, ask_zero, ask_yes, ask_no}
use Rattle.journal.proofs.Sections.{length_section, serial_long, length_serial, length_start}
use Rattle.primitives.specs.Questions.{ask}

-- ---- writers in a row

-- one more write, after what was written, in a buffer that has room for it
pub then_placed : (b ys zs : List ℕ) (at at' : ℕ) {b₁ b₂ : List ℕ} → b₁ ≡ overwrite b at ys → b₂ ≡ placed b₁ at' zs → at' ≡ at + length ys
    → at + length ys + length zs ≤ length b → b₂ ≡ overwrite b at (ys ++ zs)
then_placed b ys zs at at' {b₁} p q e h =
    let l : length b₁ ≡ length b = ap length p ∙ length_over b at ys (omega arith) in
    then b ys zs at at' p (q ∙ placed_room b₁ at' zs (omega (arith, l, e))) e (omega arith)

-- ---- the head

pub head_least : (s : Settings) → 19 ≤ head_length s
unfolding head_length
head_least s = omega arith

-- it is two sections and the start of a pair
head_is : (s : Settings) → section s.csp ++ section (name_text s.id) ++ pair_start s.serial 0 ≡ head s 0
unfolding head front pair_start
head_is s = sym (append_assoc (section s.csp ++ section (name_text s.id)) (section (name_text s.serial)) (bytes_of 4 0))

pub put_section : (text b : List ℕ) (at : ℕ) {b₁ b₂ : List ℕ} → at + 4 + length text ≤ length b → b₁ ≡ placed b at (bytes_of 4 (length text)) → b₂ ≡ placed b₁ (at + 4) text
    → b₂ ≡ overwrite b at (section text)
unfolding section
put_section text b at h e₁ e₂ =
    let l = length_bytes_of 4 (length text) in
    then_placed b (bytes_of 4 (length text)) text at (at + 4) (e₁ ∙ placed_room b at (bytes_of 4 (length text)) (omega arith)) e₂ (omega arith) (omega arith)

-- what is lent of a name
pub lent_name : (n : Name) → take n.len n.bytes ≡ name_text n
unfolding name_text
lent_name n = refl

-- the start of a pair
module _ (s : Name) (long : length s.bytes ≡ 32) (g : serial_good s ≡ true) (b : List ℕ) (at : ℕ) (h : at + 8 + s.len ≤ length b) where
  -- what is lent of the name
  pub lent_room : at + 4 + length (take s.len s.bytes) ≤ length b
  lent_room = omega (arith, ap length (lent_name s), serial_long s long g)

  pub put_start : {b₁ b₂ : List ℕ} → b₁ ≡ overwrite b at (section (take s.len s.bytes))
      → b₂ ≡ overwrite b₁ (at + 4 + s.len) (bytes_of 4 0) → b₂ ≡ overwrite b at (pair_start s 0)
  unfolding pair_start
  put_start e₁ e₂ =
      let n = section (name_text s) in
      let l : length n ≡ 4 + s.len = length_serial s long g in
      let l4 = length_bytes_of 4 0 in
      then b n (bytes_of 4 0) at (at + 4 + s.len) (e₁ ∙ ap (λ (t : List ℕ). overwrite b at (section t)) (lent_name s)) e₂ (omega arith) (omega arith)

module _ (s : Settings) (t : SettingsLengths s) (b : List ℕ) (good : settings_good s ≡ true) (h : head_length s ≤ length b) where
  id_long : length (name_text s.id) ≡ s.id.len
  id_long = length_text s.id t.id (good_settings s good).id.most

  room : 19 + s.id.len + s.serial.len ≤ length b
  unfolding head_length
  room = h

  pub csp_room : 0 + 4 + length s.csp ≤ length b
  csp_room = omega (arith, room, t.csp)

  pub id_room : (b₁ : List ℕ) → length b₁ ≡ length b → 7 + 4 + length (take s.id.len s.id.bytes) ≤ length b₁
  id_room b₁ e = omega (arith, room, ap length (lent_name s.id) ∙ id_long, e)

  pub pair_room : (b₁ : List ℕ) → length b₁ ≡ length b → (serial_good s.serial ≡ true) × (11 + s.id.len + 8 + s.serial.len ≤ length b₁)
  pair_room b₁ e = ((settings_all s good).serial, omega (arith, room, e))

  pub put_head : {b₁ b₂ b₃ : List ℕ} → b₁ ≡ overwrite b 0 (section s.csp) → b₂ ≡ overwrite b₁ 7 (section (take s.id.len s.id.bytes))
      → b₃ ≡ overwrite b₂ (11 + s.id.len) (pair_start s.serial 0) → b₃ ≡ overwrite b 0 (head s 0)
  put_head {b₁} {b₂} e₁ e₂ e₃ =
      let c = section s.csp in
      let i = section (name_text s.id) in
      let lc : length c ≡ 7 = omega (arith, length_section s.csp, t.csp) in
      let li : length i ≡ 4 + s.id.len = length_section (name_text s.id) ∙ ap (λ (k : ℕ). 4 + k) id_long in
      let lci : length (c ++ i) ≡ 11 + s.id.len = length-append c i ∙ omega arith in
      let lp = length_start s.serial t.serial (settings_all s good).serial 0 in
      let r = room in
      let w₂ = then b c i 0 7 e₁ (e₂ ∙ ap (λ (l : List ℕ). overwrite b₁ 7 (section l)) (lent_name s.id)) (omega arith) (omega arith) in
      then b (c ++ i) (pair_start s.serial 0) 0 (11 + s.id.len) w₂ e₃ (omega arith) (omega arith)
      ∙ ap (overwrite b 0) (head_is s)

pub put_count : (place count : ℕ) (b : List ℕ) {b₁ : List ℕ} → place + 4 ≤ length b → b₁ ≡ placed b place (bytes_of 4 count) → b₁ ≡ overwrite b place (bytes_of 4 count)
put_count place count b h q =
    let l = length_bytes_of 4 count in
    q ∙ placed_room b place (bytes_of 4 count) (omega arith)

-- ---- the answers

pub open_zero : (s : Settings) (shared : Bool) (n room : ℕ) → open_number s shared n room ≡ 0
    → (settings_good s ≡ true) × (width_good n ≡ true) × (head_length s ≤ room) × (id_allowed shared s.id ≡ true)
unfolding open_number
open_zero s shared n room z =
    let p = settings_zero s shared n _ z in
    (p.0, p.1, leb-true (head_length s) room (ask_zero _ _ _ p.2).0, p.3)

module _ (s : Settings) (key : List ℕ) (shared : Bool) (n : ℕ) (b : List ℕ) (k : ℕ) (e : k ≡ open_number s shared n (length b)) where
  pub open_refused : {u : State} → (k ≡ 0 → ⊥) → u ≡ unopened → (record { number = k; state = u } ≡ opened s key shared n (length b)) × (b ≡ open_buffer s shared n b)
  unfolding opened open_buffer
  open_refused h q =
      let m : open_number s shared n (length b) ≡ 0 → ⊥ = λ z. h (e ∙ z) in (
        (λ i. record { number = e i; state = (q ∙ sym (ifZero-no (open_number s shared n (length b)) (fresh s n key) unopened m)) i }),
        sym (ifZero-no (open_number s shared n (length b)) (overwrite b 0 (head s 0)) b m),
      )

  pub open_done : {f : State} {b₁ : List ℕ} → k ≡ 0 → b₁ ≡ overwrite b 0 (head s 0) → f ≡ fresh s n key
      → (record { number = 0; state = f } ≡ opened s key shared n (length b)) × (b₁ ≡ open_buffer s shared n b)
  unfolding opened open_buffer
  open_done z w q =
      let m : open_number s shared n (length b) ≡ 0 = sym e ∙ z in
      ((λ i. record { number = sym m i; state = (q ∙ sym (ifZero-yes (fresh s n key) unopened m)) i }), w ∙ sym (ifZero-yes (overwrite b 0 (head s 0)) b m))

-- ---- questions 1, 2, 32, 3, 4 and 5

module _ (s : Settings) (shared : Bool) (n room : ℕ) {k : ℕ} (e : k ≡ settings_number_for s shared n 0) where
  pub number_stops : (k ≡ 0 → ⊥) → k ≡ open_number s shared n room
  unfolding open_number
  number_stops h = e ∙ sym (settings_stop s shared n (ask (leb (head_length s) room) 5 0) (λ z. h (e ∙ z)))

  module _ (z : k ≡ 0) where
    pub number_good : settings_good s ≡ true
    number_good = (settings_zero s shared n 0 (sym e ∙ z)).0

    number_five : open_number s shared n room ≡ ask (leb (head_length s) room) 5 0
    unfolding open_number
    number_five = settings_pass s shared n (ask (leb (head_length s) room) 5 0) (sym e ∙ z)

    pub number_short : {m : ℕ} → m ≡ head_length s → room < m → 5 ≡ open_number s shared n room
    number_short q h = sym (number_five ∙ ask_no 5 0 (lt-leb (head_length s) room (omega (arith, q))))

    pub number_zero : {m : ℕ} → m ≡ head_length s → m ≤ room → 0 ≡ open_number s shared n room
    number_zero q h = sym (number_five ∙ ask_yes 5 0 (le-leb (head_length s) room (omega (arith, q))))
