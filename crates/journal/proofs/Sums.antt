-- The sum of demand 3 is what a register counts, receipt by receipt.
use Rattle.std.proofs.Common.{◌≡◌, refl, sym, ap, ◌∙◌, List, [], ◌∷◌, ◌++◌, ℤ, ◌+ℤ◌}
use lib.IntN.{+ℤ_assoc, +ℤ_idl}
use Rattle.receipt.specs.DetailsWords.{amounts_taken, added_up}
use Rattle.receipt.proofs.DetailsMeaning.{counted_is_added_up}
use Rattle.journal.specs.Receipts.{all_amounts, sum, SumIsCounted}

added_append : (xs ys : List ℤ) → added_up (xs ++ ys) ≡ added_up xs +ℤ added_up ys
unfolding added_up
added_append [] ys = sym (+ℤ_idl (added_up ys))
added_append (x ∷ xs) ys = ap (λ (z : ℤ). x +ℤ z) (added_append xs ys) ∙ sym (+ℤ_assoc x (added_up xs) (added_up ys))

pub sum_is_counted : SumIsCounted
unfolding sum all_amounts added_up
sum_is_counted =
    record {
      none = refl;
      more = λ r rs.
          added_append (amounts_taken r.details.kind r.details.amounts) (all_amounts rs)
          ∙ ap (λ (z : ℤ). z +ℤ added_up (all_amounts rs)) (sym (counted_is_added_up r.details));
    }
