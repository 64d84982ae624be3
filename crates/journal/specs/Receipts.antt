-- Receipts, and the sum of their amounts.
use Rattle.std.specs.Prelude.{◌≡◌, List, [], ◌∷◌, ◌++◌, ℤ, pos, ◌+ℤ◌}
use Rattle.receipt.specs.Details.{counted}
use Rattle.receipt.specs.DetailsWords.{amounts_taken, added_up}
use Rattle.receipt.specs.declared.details.Details.{Details}
use Rattle.receipt.specs.declared.entry.Signature.{Signature}
use Rattle.receipt.specs.declared.entry.Entry.{Entry}

-- "its details with its 64 signature bytes or the failed device"
pub record Receipt : Type 0 where
  pub details : Details
  pub signature : Signature

-- "The receipt of an entry is the same as spelled in it"
unfoldable pub receipt_of : Entry → Receipt
receipt_of e = record { details = e.fields.details; signature = e.signature }

unfoldable pub receipts_in : List Entry → List Receipt
receipts_in [] = []
receipts_in (e ∷ es) = receipt_of e ∷ receipts_in es

-- ---- demand 3's sum, in its own words: it does not use the function that a register adds by

-- the amounts of all receipts other than training, one after the other
unfoldable pub all_amounts : List Receipt → List ℤ
all_amounts [] = []
all_amounts (r ∷ rs) = amounts_taken r.details.kind r.details.amounts ++ all_amounts rs

-- "The sum takes the five amounts of each receipt other than training, with their signs, and is 0 where there is no such receipt."
unfoldable pub sum : List Receipt → ℤ
sum rs = added_up (all_amounts rs)

-- the same sum, receipt by receipt: each adds what the counter of a register counts of it
pub record SumIsCounted : Type 0 where
  pub none : sum [] ≡ pos 0
  pub more : (r : Receipt) (rs : List Receipt) → sum (r ∷ rs) ≡ counted r.details +ℤ sum rs
