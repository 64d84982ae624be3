-- The bytes of an entry, at a place in a journal.
use Rattle.std.proofs.Common.{ℕ, ◌+◌, ◌≤◌, ◌<◌, ◌≡◌, refl, sym, ap, ◌∙◌, true, List, ◌++◌, append_assoc, arith, leb-true, le-leb, length, take, drop, length-append}
use Rattle.primitives.specs.Bytes.{AllBytes}
use Rattle.primitives.specs.Number.{bytes_of, count_at}
use Rattle.primitives.proofs.Numbers.{length_bytes_of}
use Rattle.primitives.proofs.Rows.{both}
use Rattle.journal.specs.Head.{entry_text, length_at, there, text_at}
use Rattle.primitives.proofs.Counts.{part_at, count_in, cut, part_length, count_bytes, count_lt}

-- ---- entries

pub length_entry : (t : List ℕ) → length (entry_text t) ≡ 2 + length t
unfolding entry_text
length_entry t = length-append (bytes_of 2 (length t)) t ∙ ap (λ (k : ℕ). k + length t) (length_bytes_of 2 (length t))

-- an entry at a place, whatever follows it
module _ (p t more : List ℕ) (at : ℕ) (e : length p ≡ at) (short : length t < 65536) where
  split : p ++ (entry_text t ++ more) ≡ p ++ (bytes_of 2 (length t) ++ (t ++ more))
  unfolding entry_text
  split = ap (λ (l : List ℕ). p ++ l) (append_assoc (bytes_of 2 (length t)) t more)

  pub length_at_lem : length_at (p ++ (entry_text t ++ more)) at ≡ length t
  unfolding length_at
  length_at_lem = ap (λ (l : List ℕ). count_at l at 2) split ∙ count_in p (t ++ more) at 2 (length t) e (omega arith)

  pub text_at_lem : text_at (p ++ (entry_text t ++ more)) at ≡ t
  unfolding text_at
  text_at_lem =
      ap (λ (k : ℕ). take k (drop (at + 2) (p ++ (entry_text t ++ more)))) length_at_lem
      ∙ ap (λ (l : List ℕ). take (length t) (drop (at + 2) l)) (split ∙ sym (append_assoc p (bytes_of 2 (length t)) (t ++ more)))
      ∙ part_at (p ++ bytes_of 2 (length t)) t more (at + 2) (length t) (length-append p (bytes_of 2 (length t)) ∙ omega (arith, length_bytes_of 2 (length t))) refl

  pub there_at : there (p ++ (entry_text t ++ more)) at ≡ true
  unfolding there
  there_at =
      let j = p ++ (entry_text t ++ more) in
      let l₁ = length-append p (entry_text t ++ more) in
      let l₂ = length-append (entry_text t) more in
      let l₃ = length_entry t in
      rw (length_at_lem, le-leb (at + 2) (length j) (omega arith), le-leb (at + 2 + length t) (length j) (omega arith))

-- if an entry is complete, the rest is the entry and more
module _ (j : List ℕ) (b : AllBytes j) (at : ℕ) (h : there j at ≡ true) where
  rooms : (at + 2 ≤ length j) × (at + 2 + length_at j at ≤ length j)
  unfolding there
  rooms = let p = both _ _ h in (leb-true _ _ p.0, leb-true _ _ p.1)

  pub length_text : length (text_at j at) ≡ length_at j at
  unfolding text_at
  length_text = part_length j b (at + 2) (length_at j at) rooms.1

  pub text_short : length (text_at j at) < 65536
  unfolding length_at
  text_short = omega (arith, length_text, count_lt j b at 2 rooms.0)

  counted : bytes_of 2 (length (text_at j at)) ≡ take 2 (drop at j)
  unfolding length_at
  counted = ap (bytes_of 2) length_text ∙ count_bytes j b at 2 rooms.0

  place : at + 2 + length_at j at ≡ at + length (entry_text (text_at j at))
  place = omega (arith, length_entry (text_at j at), length_text)

  pub there_entry : drop at j ≡ entry_text (text_at j at) ++ drop (at + length (entry_text (text_at j at))) j
  unfolding entry_text text_at
  there_entry =
      cut j at 2 ∙ (λ i. sym counted i ++ cut j (at + 2) (length_at j at) i)
      ∙ sym (append_assoc (bytes_of 2 (length (text_at j at))) (text_at j at) (drop (at + 2 + length_at j at) j))
      ∙ ap (λ (k : ℕ). entry_text (text_at j at) ++ drop k j) place
