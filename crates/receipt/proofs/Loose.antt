-- The loose reader of a payload, from what the contract of each of its fields says.
use Rattle.std.proofs.Common.{◌≡◌, false, ℕ, ◌+◌, ◌-◌, ◌%◌, ◌<◌, ◌≤◌, List, [], ℤ, length, take, drop, refl, sym, ap, ◌∙◌, arith, length-drop, drop_of_length-le, take_all, le-leb}
use Rattle.std.proofs.lemmas.Bool.{lt-leb}
use Rattle.receipt.specs.Decimal.{value_of}
use Rattle.receipt.specs.DateTime.{read_date}
use Rattle.receipt.specs.Separated.{after, skip, read_amounts}
use Rattle.receipt.specs.PayloadReading.{kind_of, read_counter, read_chain, read_details, readable, found_in, blank, read_fields}
use Rattle.receipt.specs.declared.datetime.DateTime.{DateTime}
use Rattle.receipt.specs.declared.details.Kind.{Kind}
use Rattle.receipt.specs.declared.settings.Settings.{Settings}
use Rattle.receipt.proofs.Joined.{after_short}

-- a part up to the end, as it is lent
pub rest_lent : (text : List ℕ) (p : ℕ) → take (length text - p) (drop p text) ≡ drop p text
rest_lent text p = take_all (length text - p) (drop p text) (rw length-drop (omega arith))

nothing_readable : readable [] ≡ false
unfolding readable skip after
nothing_readable = refl

module _ (s : Settings) (n : ℕ) (text : List ℕ) where
  -- a text that ends before the fields begin
  pub too_short : length text < 9 + s.id.len → blank ≡ read_fields s n text
  unfolding read_fields
  too_short h =
      let l : length text ≤ 9 + s.id.len = omega arith in
      rw (drop_of_length-le text l, nothing_readable)

  -- what stands from each field on
  module _ {number date amounts counter : List ℕ} (e₀ : number ≡ drop (9 + s.id.len) text) (e₁ : date ≡ after number) (e₂ : amounts ≡ after date)
      (e₃ : counter ≡ skip 5 amounts) where
    date_is : skip 1 (drop (9 + s.id.len) text) ≡ date
    unfolding skip
    date_is = sym (e₁ ∙ ap after e₀)

    amounts_is : skip 2 (drop (9 + s.id.len) text) ≡ amounts
    unfolding skip
    amounts_is = sym (e₂ ∙ ap after (sym date_is))

    counter_is : skip 7 (drop (9 + s.id.len) text) ≡ counter
    unfolding skip
    counter_is = sym (e₃ ∙ ap (skip 5) (sym amounts_is))

    pub date_short : length date < 19 → blank ≡ read_fields s n text
    unfolding read_fields readable
    date_short h = rw (date_is, lt-leb 19 (length date) h)

    module _ (d : 19 ≤ length date) where
      pub text_long : 12 ≤ length text
      text_long = omega (arith, ap length e₁, after_short number, ap length e₀, length-drop (9 + s.id.len) text)

      pub counter_short : length counter < 12 → blank ≡ read_fields s n text
      unfolding read_fields readable
      counter_short h = rw (date_is, le-leb 19 (length date) d, counter_is, lt-leb 12 (length counter) h)

      pub fields_read : 12 ≤ length counter → {v : ℕ} {t : DateTime} {zs : List ℤ} {k : Kind} {cs ls : List ℕ}
          → v ≡ value_of number → t ≡ read_date date → zs ≡ read_amounts 5 amounts → k ≡ kind_of counter → cs ≡ read_counter n k counter → ls ≡ read_chain text
          → record { details = record { number = v % 4294967296; date = t; amounts = zs; kind = k }; counter = cs; chain = ls } ≡ read_fields s n text
      unfolding read_fields readable found_in read_details
      fields_read h ev et ea ek ec el =
          rw (date_is, le-leb 19 (length date) d, counter_is, le-leb 12 (length counter) h, amounts_is)
          (λ i. record {
            details = record { number = (ev ∙ ap value_of e₀) i % 4294967296; date = et i; amounts = ea i; kind = ek i };
            counter = (ec ∙ ap (λ (j : Kind). read_counter n j counter) ek) i;
            chain = el i;
          })
