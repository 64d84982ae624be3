-- Which entries can be spelled.
use Rattle.std.proofs.Common.{ℕ, ◌≤◌, ◌≡◌, refl, sym, ap, ◌∙◌, Bool, true, false, not, ◌||◌, List, leb-true, le-leb, length, drop}
use Rattle.primitives.proofs.Rows.{both, true-is-not-false}
use Rattle.receipt.specs.Settings.{sized, zeros}
use Rattle.receipt.specs.Payload.{counter_good}
use Rattle.receipt.specs.Compact.{signature_zero}
use Rattle.receipt.specs.PayloadWords.{Zeros, SpellableMeans}
use Rattle.receipt.specs.declared.details.Kind.{Kind}
use Rattle.receipt.specs.declared.details.Kind.TheVariants.{Standard, Cancellation, Training}
use Rattle.receipt.specs.declared.settings.Settings.{Settings}
use Rattle.receipt.proofs.Names.{zeros_are, zeros_good}
use Rattle.receipt.proofs.Entries.{admitted, spellable_yes}
use Rattle.receipt.proofs.SettingsMeaning.{width_means}
use Rattle.receipt.proofs.DetailsMeaning.{date_means, amounts_mean}

all_zero_lem : (xs : List ℕ) → Zeros xs → zeros xs ≡ true
all_zero_lem xs e = ap zeros e ∙ zeros_good (length xs)

module _ (s : Settings) where
  sizes : sized s ≡ true → (s.id.len ≤ 32) × (s.serial.len ≤ 32)
  unfolding sized
  sizes e = let p = both _ _ e in (leb-true _ _ p.0, leb-true _ _ p.1)

  of_sizes : s.id.len ≤ 32 → s.serial.len ≤ 32 → sized s ≡ true
  unfolding sized
  of_sizes a b = rw (le-leb _ _ a, le-leb _ _ b)

module _ (n : ℕ) (counter : List ℕ) where
  unspelled : (k : Kind) → counter_good n k counter ≡ true
      → (k ≡ Standard → Zeros (drop n counter)) × (k ≡ Cancellation → Zeros counter) × (k ≡ Training → Zeros counter)
  unfolding counter_good
  unspelled k g = (
    λ e. zeros_are (drop n counter) (sym (ap (λ (x : Kind). counter_good n x counter) e) ∙ g),
    λ e. zeros_are counter (sym (ap (λ (x : Kind). counter_good n x counter) e) ∙ g),
    λ e. zeros_are counter (sym (ap (λ (x : Kind). counter_good n x counter) e) ∙ g),
  )

  of_unspelled : (k : Kind) → (k ≡ Standard → Zeros (drop n counter)) → (k ≡ Cancellation → Zeros counter) → (k ≡ Training → Zeros counter) → counter_good n k counter ≡ true
  unfolding counter_good
  of_unspelled Standard a b c = all_zero_lem (drop n counter) (a refl)
  of_unspelled Cancellation a b c = all_zero_lem counter (b refl)
  of_unspelled Training a b c = all_zero_lem counter (c refl)

module _ (bytes : List ℕ) where
  signature : (failed : Bool) → not failed || zeros bytes ≡ true → failed ≡ true → Zeros bytes
  signature true g e = zeros_are bytes g
  signature false g e = true-is-not-false e

  of_signature : (failed : Bool) → (failed ≡ true → Zeros bytes) → not failed || zeros bytes ≡ true
  of_signature true h = all_zero_lem bytes (h refl)
  of_signature false h = refl

pub spellable_means : SpellableMeans
unfolding signature_zero
spellable_means s n e =
    record {
      only = λ g.
          let a = admitted s n e g in
          let z = sizes s a.sized in
          let c = unspelled n e.fields.counter e.fields.details.kind a.counter in
          record {
            id = z.0;
            serial = z.1;
            width = (width_means n).only a.width;
            number = a.number;
            date = (date_means e.fields.details.date).only a.date;
            amounts = (amounts_mean e.fields.details.amounts).only a.amounts;
            standard = c.0;
            cancellation = c.1;
            training = c.2;
            failed = signature e.signature.bytes e.signature.failed a.signature;
          };
      always = λ g.
          spellable_yes s n e (record {
            sized = of_sizes s g.id g.serial;
            width = (width_means n).always g.width;
            number = g.number;
            date = (date_means e.fields.details.date).always g.date;
            amounts = (amounts_mean e.fields.details.amounts).always g.amounts;
            counter = of_unspelled n e.fields.counter e.fields.details.kind g.standard g.cancellation g.training;
            signature = of_signature e.signature.bytes e.signature.failed g.failed;
          });
    }
