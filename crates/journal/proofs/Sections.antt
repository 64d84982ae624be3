-- Sections: what is read where one stands, and that a complete section is what the writer writes.
use Rattle.std.proofs.Common.{ℕ, ◌+◌, ◌≤◌, ◌<◌, ◌≡◌, refl, sym, ap, ◌∙◌, true, List, ◌++◌, append_assoc, arith, length, take, drop, length-append}
use Rattle.primitives.specs.Bytes.{AllBytes}
use Rattle.primitives.specs.Number.{bytes_of, count_at}
use Rattle.primitives.proofs.ByteLists.{bytes_take, bytes_drop}
use Rattle.primitives.proofs.Numbers.{length_bytes_of}
use Rattle.journal.specs.Head.{section, section_text, section_end, pair_start}
use Rattle.receipt.specs.Settings.{name_text, serial_good}
use Rattle.receipt.specs.declared.settings.Letters.TheVariants.{Serial}
use Rattle.receipt.specs.declared.settings.Name.{Name}
use Rattle.receipt.proofs.Names.{good_name, length_text}
use Rattle.primitives.proofs.Counts.{part_at, count_in, cut, part_length, count_bytes}

pub length_section : (t : List ℕ) → length (section t) ≡ 4 + length t
unfolding section
length_section t = length-append (bytes_of 4 (length t)) t ∙ ap (λ (k : ℕ). k + length t) (length_bytes_of 4 (length t))

-- the section of a good serial, and the start of a pair
module _ (s : Name) (long : length s.bytes ≡ 32) (g : serial_good s ≡ true) where
  pub serial_long : length (name_text s) ≡ s.len
  serial_long = length_text s long (good_name Serial s g).most

  pub length_serial : length (section (name_text s)) ≡ 4 + s.len
  length_serial = length_section (name_text s) ∙ omega (arith, serial_long)

  pub length_start : (k : ℕ) → length (pair_start s k) ≡ 8 + s.len
  unfolding pair_start
  length_start k = length-append (section (name_text s)) (bytes_of 4 k) ∙ omega (arith, length_serial, length_bytes_of 4 k)

-- ---- a section at a place, whatever follows it

module _ (p t q : List ℕ) (at : ℕ) (e : length p ≡ at) (short : length t < 4294967296) where
  split : p ++ (section t ++ q) ≡ p ++ (bytes_of 4 (length t) ++ (t ++ q))
  unfolding section
  split = ap (λ (l : List ℕ). p ++ l) (append_assoc (bytes_of 4 (length t)) t q)

  pub section_count : count_at (p ++ (section t ++ q)) at 4 ≡ length t
  section_count = ap (λ (l : List ℕ). count_at l at 4) split ∙ count_in p (t ++ q) at 4 (length t) e (omega arith)

  pub section_text_lem : section_text (p ++ (section t ++ q)) at ≡ t
  unfolding section_text
  section_text_lem =
      ap (λ (k : ℕ). take k (drop (at + 4) (p ++ (section t ++ q)))) section_count
      ∙ ap (λ (l : List ℕ). take (length t) (drop (at + 4) l)) (split ∙ sym (append_assoc p (bytes_of 4 (length t)) (t ++ q)))
      ∙ part_at (p ++ bytes_of 4 (length t)) t q (at + 4) (length t) (length-append p (bytes_of 4 (length t)) ∙ omega (arith, length_bytes_of 4 (length t))) refl

  pub section_end_lem : section_end (p ++ (section t ++ q)) at ≡ at + (4 + length t)
  unfolding section_end
  section_end_lem = ap (λ (k : ℕ). at + 4 + k) section_count ∙ omega arith

-- ---- a complete section

module _ (j : List ℕ) (b : AllBytes j) (at : ℕ) (room : section_end j at ≤ length j) where
  within : at + 4 + count_at j at 4 ≤ length j
  unfolding section_end
  within = room

  pub text_length : length (section_text j at) ≡ count_at j at 4
  unfolding section_text
  text_length = part_length j b (at + 4) (count_at j at 4) within

  pub text_bytes : AllBytes (section_text j at)
  unfolding section_text
  text_bytes = bytes_take (count_at j at 4) (bytes_drop (at + 4) b)

  count_is : take 4 (drop at j) ≡ bytes_of 4 (length (section_text j at))
  count_is = sym (count_bytes j b at 4 (omega (arith, within))) ∙ ap (bytes_of 4) (sym text_length)

  pub section_there : drop at j ≡ section (section_text j at) ++ drop (section_end j at) j
  unfolding section section_end section_text
  section_there =
      cut j at 4 ∙ (λ i. count_is i ++ cut j (at + 4) (count_at j at 4) i)
      ∙ sym (append_assoc (bytes_of 4 (length (take (count_at j at 4) (drop (at + 4) j)))) (take (count_at j at 4) (drop (at + 4) j)) (drop (at + 4 + count_at j at 4) j))
