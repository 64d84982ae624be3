-- Zeros and bytes of erased flash after a journal: read as the count of a serial, they are no length of one.
use Rattle.std.proofs.lemmas.List.{length-replicate, replicate-append-replicate}
use Rattle.std.proofs.Common.{ℕ, ◌+◌, ◌-◌, ◌≤◌, ◌≡◌, refl, sym, ap, ◌∙◌, Bool, true, false, List, ◌++◌, arith, length, replicate, length-append}
use Rattle.primitives.specs.Number.{number_after, value_after, value_of, count_at}
use Rattle.primitives.proofs.Counts.{part_at, count_is}
use Rattle.receipt.specs.declared.settings.Letters.TheVariants.{Serial}
use Rattle.receipt.proofs.Names.{good_name}
use Rattle.journal.specs.Head.{start_there, serial_at}
use Rattle.journal.specs.PartLaws.{ErasedStartsNoPair}
use Rattle.journal.proofs.Readings.{start_section}
use Rattle.journal.proofs.Stepping.{serial_len, start_within}

-- the count of four equal bytes after a journal
count_same : (j : List ℕ) (b m : ℕ) → 4 ≤ m → count_at (j ++ replicate m b) (length j) 4 ≡ value_of (replicate 4 b)
count_same j b m h =
    let e : m ≡ 4 + (m - 4) = omega arith in
    ap (λ (i : ℕ). count_at (j ++ replicate i b) (length j) 4) e
    ∙ (ap (λ (l : List ℕ). count_at (j ++ l) (length j) 4) (sym (replicate-append-replicate 4 (m - 4) b))
    ∙ (count_is (j ++ (replicate 4 b ++ replicate (m - 4) b)) (length j) 4
    ∙ ap value_of (part_at j (replicate 4 b) (replicate (m - 4) b) (length j) 4 refl (length-replicate {A = ℕ} 4 b))))

-- equal bytes that count no length of a serial
none_started : (b : ℕ) → (1 ≤ value_of (replicate 4 b) → value_of (replicate 4 b) ≤ 32 → ⊥) → (j : List ℕ) (m : ℕ) → start_there (j ++ replicate m b) (length j) ≡ false
none_started b bad j m = go (start_there (j ++ replicate m b) (length j)) refl
  where
    go : (t : Bool) → start_there (j ++ replicate m b) (length j) ≡ t → t ≡ false
    go false e = refl
    go true e =
        let all = j ++ replicate m b in
        let w = start_within all (length j) e in
        let l = serial_len all (length j) (start_section all (length j) e) in
        let g = good_name Serial (serial_at all (length j)) w.1 in
        let four : 4 ≤ m = omega (arith, w.0, length-append j (replicate m b), length-replicate {A = ℕ} m b) in
        let c = count_same j b m four in
        absurd (bad (omega (arith, g.some, l, c)) (omega (arith, g.most, l, c)))

value_zeros : value_of (replicate 4 0) ≡ 0
unfolding value_of value_after number_after
value_zeros = refl

value_erased : value_of (replicate 4 255) ≡ 4294967295
unfolding value_of value_after number_after
value_erased = refl

pub erased_starts_no_pair : ErasedStartsNoPair
erased_starts_no_pair j m =
    (none_started 0 (λ a b. omega (arith, a, b, value_zeros)) j m, none_started 255 (λ a b. omega (arith, a, b, value_erased)) j m)
