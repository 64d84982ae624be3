-- What the functions that read a receipt back show at their returns, over plain variables.
use Rattle.std.proofs.Common.{ℕ, ◌≡◌, refl, sym, ap, ◌∙◌, Bool, true, false, cond, not, List, [], arith, eq-eqb, ne_eqb, eqb-true, eqb, length}
use Rattle.std.proofs.lemmas.Bool.{not-true, not-false}
use Rattle.primitives.specs.Place.{overwrite, placed, place_after}
use Rattle.primitives.specs.Questions.{ask}
use Rattle.primitives.proofs.Over.{over_nil, placed_room, after_room}
use Rattle.primitives.proofs.Rows.{ask_zero, ask_yes, ask_no, ifZero-yes, ifZero-no}
use Rattle.primitives.specs.Counter.{width_good}
use Rattle.receipt.specs.Settings.{settings_good, settings_number}
use Rattle.receipt.specs.Compact.{read_entry, Found}
use Rattle.receipt.specs.declared.settings.Settings.{Settings}
use Rattle.receipt.proofs.Names.{id_own, settings_yes, settings_zero, settings_pass, settings_stop}
use Rattle.journal.specs.Calls.{order_of}
use Rattle.device.specs.Layout.{settings_of, width_of}
use Rattle.device.specs.Details.{details_bytes}
use Rattle.device.specs.ReadBack.{found_in, read_number, answered, read_back}
use Rattle.device.proofs.Below.{order_details, order_signature}

-- ---- the questions in a row

module _ (s : Settings) (n : ℕ) (ok : Bool) (details signature : ℕ) {k : ℕ} (e : k ≡ settings_number s n 0) where
  after_settings : ℕ
  after_settings = ask ok 16 (ask (eqb details 72) 23 (ask (eqb signature 64) 23 0))

  pub read_stops : (k ≡ 0 → ⊥) → k ≡ read_number s n ok details signature
  unfolding read_number after_settings
  read_stops h = e ∙ sym (settings_stop s false n after_settings (λ z. h (e ∙ z)))

  module _ (z : k ≡ 0) where
    rest : read_number s n ok details signature ≡ after_settings
    unfolding read_number after_settings
    rest = settings_pass s false n after_settings (sym e ∙ z)

    pub read_misspelled : not ok ≡ true → 16 ≡ read_number s n ok details signature
    unfolding after_settings
    read_misspelled h = sym (rest ∙ ask_no 16 _ (not-true ok h))

    module _ (good : not ok ≡ false) where
      pub read_details_lem : (details ≡ 72 → ⊥) → 23 ≡ read_number s n ok details signature
      unfolding after_settings
      read_details_lem h = sym (rest ∙ ask_yes 16 _ (not-false ok good) ∙ ask_no 23 _ (ne_eqb details 72 h))

      pub read_signature : details ≡ 72 → (signature ≡ 64 → ⊥) → 23 ≡ read_number s n ok details signature
      unfolding after_settings
      read_signature d h = sym (rest ∙ ask_yes 16 _ (not-false ok good) ∙ ask_yes 23 _ (eq-eqb details 72 d) ∙ ask_no 23 0 (ne_eqb signature 64 h))

      pub read_passes : details ≡ 72 → signature ≡ 64 → 0 ≡ read_number s n ok details signature
      unfolding after_settings
      read_passes d h =
          sym (rest ∙ ask_yes 16 _ (not-false ok good) ∙ ask_yes 23 _ (eq-eqb details 72 d) ∙ ask_yes 23 0 (eq-eqb signature 64 h))

-- what the answers yes say
pub record Asked (s : Settings) (n : ℕ) (ok : Bool) (details signature : ℕ) : Type 0 where
  pub settings : settings_good s ≡ true
  pub width : width_good n ≡ true
  pub found : ok ≡ true
  pub details_length : details ≡ 72
  pub signature_length : signature ≡ 64

module _ (s : Settings) (n : ℕ) (ok : Bool) (details signature : ℕ) where
  pub number_zero : read_number s n ok details signature ≡ 0 → Asked s n ok details signature
  unfolding read_number
  number_zero z =
      let a = settings_zero s false n (ask ok 16 (ask (eqb details 72) 23 (ask (eqb signature 64) 23 0))) z in
      let b = ask_zero ok 15 (ask (eqb details 72) 23 (ask (eqb signature 64) 23 0)) a.2 in
      let c = ask_zero (eqb details 72) 22 (ask (eqb signature 64) 23 0) b.1 in
      let d = ask_zero (eqb signature 64) 22 0 c.1 in
      record {
        settings = a.0;
        width = a.1;
        found = b.0;
        details_length = eqb-true details 72 c.0;
        signature_length = eqb-true signature 64 d.0;
      }

  pub zero_number : Asked s n ok details signature → read_number s n ok details signature ≡ 0
  unfolding read_number
  zero_number a =
      settings_yes s false n (ask ok 16 (ask (eqb details 72) 23 (ask (eqb signature 64) 23 0))) a.settings (id_own s.id) a.width
      ∙ ask_yes 16 (ask (eqb details 72) 23 (ask (eqb signature 64) 23 0)) a.found
      ∙ ask_yes 23 (ask (eqb signature 64) 23 0) (eq-eqb details 72 a.details_length)
      ∙ ask_yes 23 0 (eq-eqb signature 64 a.signature_length)

-- ---- the signature that was given

module _ (failed : Bool) (bytes out : List ℕ) where
  pub none_given : failed ≡ true → (0 ≡ length (cond failed [] bytes)) × (out ≡ overwrite out 0 (cond failed [] bytes))
  none_given h = rw h (refl, sym (over_nil out 0))

  pub some_given : {r : ℕ} {out₁ : List ℕ} → failed ≡ false → length bytes ≡ 64 → length out ≡ 64 → (r ≡ place_after out 0 bytes) × (out₁ ≡ placed out 0 bytes)
      → (r ≡ length (cond failed [] bytes)) × (out₁ ≡ overwrite out 0 (cond failed [] bytes))
  some_given h l m e = rw h (e.0 ∙ after_room out 0 bytes (omega arith) ∙ omega arith, e.1 ∙ placed_room out 0 bytes (omega arith))

-- ---- the call

module _ (settings form details signature : List ℕ) {s : Settings} {n k : ℕ} {found : Found} (es : s ≡ settings_of settings) (en : n ≡ width_of settings)
    (ef : found ≡ read_entry s n form) (ek : k ≡ read_number s n found.ok (length details) (length signature)) where
  found_is : found ≡ found_in settings form
  unfolding found_in
  found_is = ef ∙ (λ i. read_entry (es i) (en i) form)

  number_is : k ≡ (read_back settings form details signature).number
  unfolding read_back answered
  number_is = ek ∙ (λ i. read_number (es i) (en i) (found_is i).ok (length details) (length signature))

  pub read_refused : (k ≡ 0 → ⊥)
      → (k ≡ (read_back settings form details signature).number) × (details ≡ (read_back settings form details signature).details)
      × (signature ≡ (read_back settings form details signature).signature) × (0 ≡ (read_back settings form details signature).length)
  unfolding read_back answered
  read_refused h =
      let c = order_of (found_in settings form).entry in
      let no : (read_back settings form details signature).number ≡ 0 → ⊥ = λ z. h (number_is ∙ z) in (
        number_is,
        sym (ifZero-no _ (details_bytes c.details) details no),
        sym (ifZero-no _ (overwrite signature 0 c.signature) signature no),
        sym (ifZero-no _ (length c.signature) 0 no),
      )

  module _ (z : k ≡ 0) where
    pub read_room : (length details ≡ 72) × (length signature ≡ 64)
    read_room = let a = number_zero s n found.ok (length details) (length signature) (sym ek ∙ z) in (a.details_length, a.signature_length)

    pub read_done : {r : ℕ} {b₁ b₂ : List ℕ} → b₁ ≡ details_bytes found.entry.fields.details
        → (r ≡ length (cond found.entry.signature.failed [] found.entry.signature.bytes))
        × (b₂ ≡ overwrite signature 0 (cond found.entry.signature.failed [] found.entry.signature.bytes))
        → (0 ≡ (read_back settings form details signature).number) × (b₁ ≡ (read_back settings form details signature).details)
        × (b₂ ≡ (read_back settings form details signature).signature) × (r ≡ (read_back settings form details signature).length)
    unfolding read_back answered
    read_done e₁ e₂ =
        let e = (found_in settings form).entry in
        let c = order_of e in
        let yes : (read_back settings form details signature).number ≡ 0 = sym number_is ∙ z in
        let d : found.entry.fields.details ≡ c.details = ap (λ (f : Found). f.entry.fields.details) found_is ∙ sym (order_details e) in
        let g : cond found.entry.signature.failed [] found.entry.signature.bytes ≡ c.signature =
        ap (λ (f : Found). cond f.entry.signature.failed [] f.entry.signature.bytes) found_is ∙ sym (order_signature e) in (
          sym yes,
          e₁ ∙ ap details_bytes d ∙ sym (ifZero-yes (details_bytes c.details) details yes),
          e₂.1 ∙ ap (overwrite signature 0) g ∙ sym (ifZero-yes (overwrite signature 0 c.signature) signature yes),
          e₂.0 ∙ ap length g ∙ sym (ifZero-yes (length c.signature) 0 yes),
        )
