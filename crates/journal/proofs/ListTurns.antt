-- Where the loop over a list of receipts stands.
use Rattle.std.proofs.Common.{◌≡◌, refl, sym, ◌∙◌, ap, ℕ, suc, ◌+◌, ◌<◌, ◌≤◌, arith, add-one, List, [], ◌∷◌, length, get_or, drop, drop_of_length-le, drop-cons}
use Rattle.receipt.specs.declared.details.Details.{Details}
use Rattle.journal.specs.Issuing.{issued, issue_buffer}
use Rattle.journal.specs.Listing.{issued_list, list_buffer}
use Rattle.journal.specs.declared.state.State.{State}
use Rattle.journal.specs.State.{Issued}
use Rattle.journal.proofs.ListSteps.{listed, listed_start, listed_end, buffer_none, listed_more, buffer_more, left_there, listed_stops, buffer_stops}

-- ---- where the loop stands: i receipts are issued, s is the state after them and zs the buffer

pub record Turn (st : State) (xs : List Details) (ys : List ℕ) (s : State) (zs : List ℕ) (i : ℕ) : Type 0 where
  pub within : i ≤ length xs
  pub list_is : listed i s (drop i xs) zs ≡ issued_list st xs ys
  pub buffer_is : list_buffer s (drop i xs) zs ≡ list_buffer st xs ys

pub begins : (st : State) (xs : List Details) (ys : List ℕ) → Turn st xs ys st ys 0
begins st xs ys = record { within = omega arith; list_is = listed_start st xs ys; buffer_is = refl }

module _ {st : State} {xs : List Details} {ys : List ℕ} {s : State} {zs : List ℕ} {i : ℕ} (t : Turn st xs ys s zs i) where
  module _ (d₀ : Details) (l : i < length xs) where
    -- the list from here is its next receipt and the rest
    list_here : listed i s (get_or xs i d₀ ∷ drop (suc i) xs) zs ≡ issued_list st xs ys
    list_here = sym (ap (λ (ds : List Details). listed i s ds zs) (drop-cons xs i d₀ l)) ∙ t.list_is

    buffer_here : list_buffer s (get_or xs i d₀ ∷ drop (suc i) xs) zs ≡ list_buffer st xs ys
    buffer_here = sym (ap (λ (ds : List Details). list_buffer s ds zs) (drop-cons xs i d₀ l)) ∙ t.buffer_is

    module _ (one : Issued) (ws : List ℕ) (e : one ≡ issued s (get_or xs i d₀) [] (length zs)) (f : ws ≡ issue_buffer s (get_or xs i d₀) [] zs) where
      list_next : one.number ≡ 0 → listed (i + 1) one.state (drop (i + 1) xs) ws ≡ issued_list st xs ys
      list_next z = (λ j. listed (i + 1) one.state (drop (add-one i j) xs) ws) ∙ listed_more s (get_or xs i d₀) (drop (suc i) xs) zs ws one e f z i ∙ list_here

      buffer_next : one.number ≡ 0 → list_buffer one.state (drop (i + 1) xs) ws ≡ list_buffer st xs ys
      buffer_next z = (λ j. list_buffer one.state (drop (add-one i j) xs) ws) ∙ buffer_more s (get_or xs i d₀) (drop (suc i) xs) zs ws one e f z ∙ buffer_here

      pub goes_on : one.number ≡ 0 → Turn st xs ys one.state ws (i + 1)
      goes_on z = record { within = omega (arith, l); list_is = list_next z; buffer_is = buffer_next z }

      -- the function returns within the loop
      pub stops : (one.number ≡ 0 → ⊥) → (record { number = one.number; count = i; state = one.state } ≡ issued_list st xs ys) × (ws ≡ list_buffer st xs ys)
      stops z = (
        (λ j. record { number = one.number; count = i; state = (left_there s (get_or xs i d₀) (drop (suc i) xs) zs ws one e f z).0 j })
            ∙ listed_stops s (get_or xs i d₀) (drop (suc i) xs) zs ws one e f z i ∙ list_here,
        buffer_stops s (get_or xs i d₀) (drop (suc i) xs) zs ws one e f z ∙ buffer_here,
      )

  -- the loop is left
  pub done_all : length xs ≤ i → (record { number = 0; count = length xs; state = s } ≡ issued_list st xs ys) × (zs ≡ list_buffer st xs ys)
  done_all l = (
    (λ j. record { number = 0; count = count j; state = s }) ∙ listed_end i s zs ∙ sym (ap (λ (ds : List Details). listed i s ds zs) (drop_of_length-le xs l)) ∙ t.list_is,
    sym (buffer_none _ s zs) ∙ sym (ap (λ (ds : List Details). list_buffer s ds zs) (drop_of_length-le xs l)) ∙ t.buffer_is,
  )
    where
      count : length xs ≡ i
      count = omega (arith, l, t.within)
