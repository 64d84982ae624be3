-- The counter field and the chain field: reading what was spelled.
use Rattle.std.proofs.lemmas.List.Edits.{sets-eq}
use Rattle.std.proofs.Common.{◌≡◌, refl, sym, ap, ◌∙◌, subst, Bool, true, false, cond, List, ◌∷◌, ◌++◌, append-nil, ℕ, zero, suc, ◌+◌, ◌-◌, ◌*◌, ◌/◌, ◌<◌, ◌≤◌, arith, ne_eqb, leb-true, leb-false, leb, length, take, drop, replicate, length-drop, take-append-drop, take_at, length-take-le}
use mathlib.Core.Option.{Option, none, some}
use lib.ListN.{get_or-append}
use Rattle.primitives.specs.Place.{overwrite, placed}
use Rattle.primitives.specs.Bytes.{AllBytes}
use Rattle.primitives.specs.Counter.{width_good}
use Rattle.primitives.specs.Base64.{decoding, buffer_of}
use Rattle.primitives.specs.Text.{ascii}
use Rattle.primitives.specs.declared.base64.Alphabet.TheVariants as alphabet
use Rattle.primitives.proofs.Over.{placed_room, placed_full, length_placed, over_sets}
use Rattle.primitives.proofs.ByteLists.{bytes_append, bytes_take, bytes_drop, bytes_replicate}
use Rattle.primitives.proofs.Base64Laws.{decode_encode, no_underscore, decoded_bytes}
use Rattle.primitives.proofs.Twos.{width_true}
use Rattle.receipt.specs.Payload.{base64, counter_content, counter_field, counter_good}
use Rattle.receipt.specs.PayloadReading.{eight, field_width, kind_of, read_counter}
use Rattle.receipt.specs.declared.details.Kind.{Kind}
use Rattle.receipt.specs.declared.details.Kind.TheVariants.{Standard, Cancellation, Training}
use Rattle.receipt.proofs.Names.{zeros_are}
use Rattle.receipt.proofs.PaperCases.{cancellation_letters, training_letters}
use Rattle.receipt.proofs.Written.{length_base64}

-- ---- zeros

noughts : ℕ → List ℕ
noughts k = replicate k 0

drop_zeros : (n m : ℕ) → drop n (noughts m) ≡ noughts (m - n)
unfolding noughts
drop_zeros zero m = let e : m ≡ m - 0 = omega arith in ap noughts e
drop_zeros (suc n) zero = let e : 0 ≡ 0 - suc n = omega arith in ap noughts e
drop_zeros (suc n) (suc m) = let e : m - n ≡ suc m - suc n = omega arith in drop_zeros n m ∙ ap noughts e

-- ---- eight bytes

-- a text at the start of a list
over_start : (xs ys : List ℕ) → length ys ≤ length xs → overwrite xs 0 ys ≡ ys ++ drop (length ys) xs
over_start xs ys h =
    let l : 0 + length ys ≤ length xs = omega arith in
    let e : 0 + length ys ≡ length ys = omega arith in
    sym (over_sets xs 0 ys l) ∙ sets-eq ys xs 0 l ∙ ap (λ (k : ℕ). ys ++ drop k xs) e

pub eight_back : (xs : List ℕ) → AllBytes xs → length xs ≤ 8 → eight (base64 xs) ≡ xs ++ replicate (8 - length xs) 0
unfolding eight noughts
eight_back xs p h =
    ap (λ (d : Option (List ℕ)). buffer_of d (replicate 8 0) 0) (decode_encode alphabet.Standard xs p)
    ∙ placed_room (replicate 8 0) 0 xs (omega arith)
    ∙ over_start (replicate 8 0) xs h
    ∙ ap (λ (l : List ℕ). xs ++ l) (drop_zeros (length xs) 8)

-- whatever the text is, eight bytes are read
read_length : (d : Option (List ℕ)) → length (buffer_of d (replicate 8 0) 0) ≡ 8
read_length none = refl
read_length (some ys) = length_placed (replicate 8 0) 0 ys

pub eight_length : (text : List ℕ) → length (eight text) ≡ 8
unfolding eight
eight_length text = read_length (decoding alphabet.Standard text)

placed_bytes : (ys : List ℕ) → AllBytes ys → AllBytes (placed (replicate 8 0) 0 ys)
placed_bytes ys p = go (leb (length ys) 8) refl
  where
    nought : AllBytes (replicate 8 0)
    nought = bytes_replicate 8 (omega arith)

    go : (t : Bool) → leb (length ys) 8 ≡ t → AllBytes (placed (replicate 8 0) 0 ys)
    go true e =
        let h : length ys ≤ 8 = leb-true (length ys) 8 e in
        subst AllBytes (sym (placed_room (replicate 8 0) 0 ys (omega arith) ∙ over_start (replicate 8 0) ys h)) (bytes_append p (bytes_drop (length ys) nought))
    go false e =
        let h : 8 < length ys = leb-false (length ys) 8 e in
        subst AllBytes (sym (placed_full (replicate 8 0) 0 ys (omega arith))) nought

read_bytes : (d : Option (List ℕ)) → ((ys : List ℕ) → d ≡ some ys → AllBytes ys) → AllBytes (buffer_of d (replicate 8 0) 0)
read_bytes none h = bytes_replicate 8 (omega arith)
read_bytes (some ys) h = placed_bytes ys (h ys refl)

pub eight_bytes : (text : List ℕ) → AllBytes (eight text)
unfolding eight
eight_bytes text = read_bytes (decoding alphabet.Standard text) (decoded_bytes alphabet.Standard text)

-- ---- the counter field

module _ (n : ℕ) (w : width_good n ≡ true) where
  length_field : (counter : List ℕ) → length counter ≡ 8 → length (base64 (take n counter)) ≡ field_width n
  unfolding field_width
  length_field counter e =
      let r = width_true n w in
      let l : length (take n counter) ≡ n = length-take-le n counter (omega (arith, r.most)) in
      go (leb n 6) refl (omega (arith, length_base64 (take n counter))) r.least r.most
    where
      go : (t : Bool) → leb n 6 ≡ t → length (base64 (take n counter)) ≡ (n + 2) / 3 * 4 → 5 ≤ n → n ≤ 8 → length (base64 (take n counter)) ≡ cond t 8 12
      go true q h least most = omega (arith, leb-true n 6 q)
      go false q h least most = omega (arith, leb-false n 6 q)

  -- the kind is read in the field that was spelled
  pub kind_back : (kind : Kind) (counter rest : List ℕ) → length counter ≡ 8 → kind_of (counter_field n kind counter ++ (95 ∷ rest)) ≡ kind
  unfolding kind_of counter_field counter_content ascii
  kind_back Standard counter rest e =
      let r = width_true n w in
      let l : length (take n counter) ≡ n = length-take-le n counter (omega (arith, r.most)) in
      let h : 4 < length (base64 (take n counter)) = omega (arith, length_base64 (take n counter), r.least) in
      rw (ne_eqb _ 95 (λ q. no_underscore (take n counter) 4 h (sym (get_or-append (base64 (take n counter)) (95 ∷ rest) 0 4 h) ∙ q)))
  kind_back Cancellation counter rest e = rw cancellation_letters
  kind_back Training counter rest e = rw training_letters

  -- and so are its bytes
  pub counter_back : (kind : Kind) (counter rest : List ℕ) → length counter ≡ 8 → AllBytes counter → counter_good n kind counter ≡ true
      → read_counter n kind (counter_field n kind counter ++ (95 ∷ rest)) ≡ counter
  unfolding read_counter counter_field counter_content counter_good
  counter_back Standard counter rest e p g =
      let r = width_true n w in
      let l : length (take n counter) ≡ n = length-take-le n counter (omega (arith, r.most)) in
      let m : length (drop n counter) ≡ 8 - n = length-drop n counter ∙ ap (λ (k : ℕ). k - n) e in
      let k : 8 - length (take n counter) ≡ length (drop n counter) = omega arith in
      ap eight (take_at (base64 (take n counter)) (95 ∷ rest) (field_width n) (length_field counter e))
      ∙ eight_back (take n counter) (bytes_take n p) (omega (arith, r.most))
      ∙ ap (λ (j : ℕ). take n counter ++ replicate j 0) k
      ∙ ap (λ (t : List ℕ). take n counter ++ t) (sym (zeros_are (drop n counter) g))
      ∙ take-append-drop n counter
  counter_back Cancellation counter rest e p g = ap (λ (k : ℕ). replicate k 0) (sym e) ∙ sym (zeros_are counter g)
  counter_back Training counter rest e p g = ap (λ (k : ℕ). replicate k 0) (sym e) ∙ sym (zeros_are counter g)

-- ---- the chain field

pub length_chain : (chain : List ℕ) → length chain ≡ 8 → length (base64 chain) ≡ 12
length_chain chain e = length_base64 chain ∙ ap (λ (k : ℕ). (k + 2) / 3 * 4) e

pub chain_back : (chain : List ℕ) → length chain ≡ 8 → AllBytes chain → eight (base64 chain) ≡ chain
chain_back chain e p =
    eight_back chain p (omega arith) ∙ ap (λ (k : ℕ). chain ++ replicate (8 - k) 0) e ∙ append-nil chain
