-- The start of a pair: what is read where one stands, and that a good start is what the writer writes.
use Rattle.std.proofs.Common.{ℕ, ◌+◌, ◌≤◌, ◌<◌, ◌≡◌, sym, ap, ◌∙◌, true, List, ◌++◌, append_assoc, arith, leb-true, le-leb, leb, length, drop, length-append}
use Rattle.primitives.specs.Bytes.{AllBytes}
use Rattle.primitives.specs.Number.{bytes_of, count_at}
use Rattle.primitives.proofs.Rows.{both}
use Rattle.primitives.proofs.Counts.{count_in, cut, count_bytes, count_lt}
use Rattle.receipt.specs.Settings.{name_text, name_of, serial_good}
use Rattle.receipt.specs.declared.settings.Name.{Name}
use Rattle.receipt.specs.declared.settings.Letters.TheVariants.{Serial}
use Rattle.receipt.proofs.Names.{good_name, text_of, name_of_lem}
use Rattle.receipt.proofs.Entries.{length_array, bytes_array}
use Rattle.journal.specs.Head.{section, section_text, section_end, pair_start, serial_at, start_there}
use Rattle.journal.specs.State.{TypedName}
use Rattle.journal.proofs.Sections.{serial_long, length_serial, length_start, section_text_lem, section_end_lem, text_length, text_bytes, section_there}
use Rattle.journal.proofs.Stepping.{serial_len}

module _ (s : Name) (t : TypedName s) (g : serial_good s ≡ true) where
  -- ---- a start at a place, whatever follows it

  module _ (p : List ℕ) (k : ℕ) (rest : List ℕ) (at : ℕ) (e : length p ≡ at) (few : k < 4294967296) where
    split : p ++ (pair_start s k ++ rest) ≡ p ++ (section (name_text s) ++ (bytes_of 4 k ++ rest))
    unfolding pair_start
    split = ap (λ (l : List ℕ). p ++ l) (append_assoc (section (name_text s)) (bytes_of 4 k) rest)

    short : length (name_text s) < 4294967296
    short = omega (arith, serial_long s t.long g, (good_name Serial s g).most)

    pub serial_read : serial_at (p ++ (pair_start s k ++ rest)) at ≡ s
    unfolding serial_at
    serial_read =
        ap (λ (j : List ℕ). name_of (section_text j at)) split
        ∙ (ap name_of (section_text_lem p (name_text s) (bytes_of 4 k ++ rest) at e short) ∙ name_of_lem Serial s t.long g)

    end_read : section_end (p ++ (pair_start s k ++ rest)) at ≡ at + 4 + s.len
    end_read =
        ap (λ (j : List ℕ). section_end j at) split
        ∙ (section_end_lem p (name_text s) (bytes_of 4 k ++ rest) at e short ∙ omega (arith, serial_long s t.long g))

    pub count_read : count_at (p ++ (pair_start s k ++ rest)) (at + 4 + s.len) 4 ≡ k
    count_read =
        ap (λ (j : List ℕ). count_at j (at + 4 + s.len) 4) (split ∙ sym (append_assoc p (section (name_text s)) (bytes_of 4 k ++ rest)))
        ∙ count_in (p ++ section (name_text s)) rest (at + 4 + s.len) 4 k (length-append p (section (name_text s)) ∙ omega (arith, length_serial s t.long g, e)) (omega arith)

    pub start_there_lem : start_there (p ++ (pair_start s k ++ rest)) at ≡ true
    unfolding start_there
    start_there_lem =
        let l = length-append p (pair_start s k ++ rest) in
        let m = length-append (pair_start s k) rest in
        rw (end_read, serial_read, le-leb (at + 4 + s.len + 4) (length (p ++ (pair_start s k ++ rest))) (omega (arith, l, m, length_start s t.long g k, e))) g

-- ---- a good start is the start of what was read from it

pub record StartAt (j : List ℕ) (at : ℕ) (s : Name) (k : ℕ) : Type 0 where
  pub typed : TypedName s
  pub good : serial_good s ≡ true
  pub few : k < 4294967296
  pub bytes : drop at j ≡ pair_start s k ++ drop (at + 8 + s.len) j
  pub fits : at + 8 + s.len ≤ length j

end_is : (j : List ℕ) (at : ℕ) (s : Name) → s.len ≡ count_at j at 4 → section_end j at ≡ at + 4 + s.len
unfolding section_end
end_is j at s l = omega (arith, l)

pub start_at : (j : List ℕ) → AllBytes j → (at : ℕ) → start_there j at ≡ true → StartAt j at (serial_at j at) (count_at j (at + 4 + (serial_at j at).len) 4)
unfolding start_there serial_at pair_start
start_at j b at h =
    let p = both (leb (section_end j at + 4) (length j)) (serial_good (name_of (section_text j at))) h in
    let room : section_end j at + 4 ≤ length j = leb-true _ _ p.0 in
    let there : section_end j at ≤ length j = omega arith in
    let t = section_text j at in
    let s = name_of t in
    let l : s.len ≡ count_at j at 4 = serial_len j at there in
    let most = (good_name Serial s p.1).most in
    let tl = text_length j b at there in
    let end : section_end j at ≡ at + 4 + s.len = end_is j at s l in
    let name : t ≡ name_text s = sym (text_of t (omega (arith, most, l, tl))) in
    let k = count_at j (at + 4 + s.len) 4 in
    let room₁ : at + 4 + s.len + 4 ≤ length j = omega (arith, room, end) in
    let e₂ : at + 4 + s.len + 4 ≡ at + 8 + s.len = omega arith in
    let q : drop (at + 4 + s.len) j ≡ bytes_of 4 k ++ drop (at + 8 + s.len) j =
    cut j (at + 4 + s.len) 4 ∙ (λ i. sym (count_bytes j b (at + 4 + s.len) 4 room₁) i ++ drop (e₂ i) j) in
    record {
      typed = record { long = length_array t; bytes = bytes_array (text_bytes j b at there); small = omega arith };
      good = p.1;
      few = count_lt j b (at + 4 + s.len) 4 room₁;
      bytes =
          section_there j b at there
          ∙ ((λ i. section (name i) ++ (ap (λ (m : ℕ). drop m j) end ∙ q) i) ∙ sym (append_assoc (section (name_text s)) (bytes_of 4 k) (drop (at + 8 + s.len) j)));
      fits = omega (arith, room₁);
    }
