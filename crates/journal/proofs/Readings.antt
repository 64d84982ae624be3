-- What the counts and parts read from a head and from the start of a pair amount to.
use Rattle.std.proofs.lemmas.Bool.{lt-leb}
use Rattle.std.proofs.Common.{ℕ, ◌+◌, ◌-◌, ◌≤◌, ◌<◌, ◌≡◌, refl, sym, ap, ◌∙◌, subst, Bool, true, false, ◌&&◌, List, [], ◌∷◌, arith, leb-true, leb-false, le-leb, eq-eqb, ne_eqb, eqb-true, leb, eqb, length, take, drop, get_or, drop-cons}
use mathlib.Core.Bool.{and-false}
use Rattle.primitives.specs.Number.{count_at}
use Rattle.receipt.specs.Settings.{name_of, serial_good, settings_good}
use Rattle.receipt.specs.declared.settings.Name.{Name}
use Rattle.receipt.specs.declared.settings.Settings.{Settings}
use Rattle.primitives.proofs.Rows.{both, and_no, and_yes}
use Rattle.journal.specs.Head.{head_settings, head_good, section_text, section_end, serial_place, count_place_in, serial_at, start_there}

-- ---- the head

-- a test with a difference is one with a sum
pub leb_moved : (a b len : ℕ) → a ≤ len → leb b (len - a) ≡ leb (a + b) len
leb_moved a b len h = go (leb b (len - a)) refl
  where
    go : (t : Bool) → leb b (len - a) ≡ t → t ≡ leb (a + b) len
    go true e = let l = leb-true b (len - a) e in sym (le-leb (a + b) len (omega arith))
    go false e = let l = leb-false b (len - a) e in sym (lt-leb (a + b) len (omega arith))

-- the lengths of ID and serial, as they are counted
abbrev id_length : List ℕ → ℕ
id_length j = count_at j 7 4

abbrev serial_length : List ℕ → ℕ
serial_length j = count_at j (11 + id_length j) 4

module _ (j : List ℕ) where
  place_is : count_place_in j + 4 ≡ 19 + id_length j + serial_length j
  unfolding count_place_in serial_place section_end
  place_is = omega arith

  -- the first count is 3, and the head is complete
  abbrev pub whole : Bool
  whole = eqb (count_at j 0 4) 3 && leb (count_place_in j + 4) (length j)

  short_no : length j < 19 + id_length j + serial_length j → false ≡ whole
  short_no h = sym (rw (lt-leb (count_place_in j + 4) (length j) (omega (arith, place_is)), and-false))

  pub whole_short : length j < 19 → false ≡ whole
  whole_short h = short_no (omega arith)

  pub whole_other : {v : ℕ} → v ≡ count_at j 0 4 → (v ≡ 3 → ⊥) → false ≡ whole
  whole_other e h = and_no _ _ (ne_eqb (count_at j 0 4) 3 (λ q. h (e ∙ q)))

  module _ {a : ℕ} (ea : a ≡ count_at j 7 4) where
    pub whole_long : length j - 19 < a → false ≡ whole
    whole_long h = short_no (omega arith)

    module _ {b : ℕ} (eb : b ≡ count_at j (11 + a) 4) where
      serial_read : b ≡ serial_length j
      serial_read = eb ∙ ap (λ (k : ℕ). count_at j (11 + k) 4) ea

      pub whole_is : {v : ℕ} → v ≡ count_at j 0 4 → v ≡ 3 → 19 ≤ length j → a ≤ length j - 19 → leb b (length j - 19 - a) ≡ whole
      whole_is e three h l =
          let m : length j - 19 - a ≡ length j - (19 + a) = omega arith in
          let n : 19 + a + b ≡ count_place_in j + 4 = omega (arith, place_is, serial_read, ea) in
          and_yes _ _ _ (eq-eqb (count_at j 0 4) 3 (sym e ∙ three))
          (ap (leb b) m ∙ leb_moved (19 + a) b (length j) (omega arith) ∙ ap (λ (k : ℕ). leb k (length j)) n)

  -- ---- the serial in a complete section

  module _ (at : ℕ) (room : section_end j at ≤ length j) where
    pub count_there : at + 4 ≤ length j
    unfolding section_end
    count_there = omega (arith, room)

    module _ {b : ℕ} (e : b ≡ section_end j at) where
      pub section_ends : (at + 4 ≤ b) × (b ≤ length j)
      unfolding section_end
      section_ends = (omega (arith, e), omega (arith, e, room))

      pub serial_is : {n : Name} → n ≡ name_of (take (b - (at + 4)) (drop (at + 4) j)) → n ≡ serial_at j at
      unfolding serial_at section_text section_end
      serial_is q =
          let k : b - (at + 4) ≡ count_at j at 4 = omega (arith, e) in
          q ∙ ap (λ (m : ℕ). name_of (take m (drop (at + 4) j))) k

  -- ---- the start of a pair

  module _ (at : ℕ) where
    start_no : length j < at + 8 + count_at j at 4 → false ≡ start_there j at
    unfolding start_there section_end
    start_no h = and_no _ _ (lt-leb (at + 4 + count_at j at 4 + 4) (length j) (omega arith))

    pub start_short : length j < at + 8 → false ≡ start_there j at
    start_short h = start_no (omega arith)

    module _ (h : at + 8 ≤ length j) {k : ℕ} (e : k ≡ count_at j at 4) where
      pub start_long : length j - at - 8 < k → false ≡ start_there j at
      start_long l = start_no (omega (arith, e))

      module _ (l : k ≤ length j - at - 8) where
        pub start_room : section_end j at ≤ length j
        unfolding section_end
        start_room = omega (arith, e)

        pub start_is : {s : Name} {t : Bool} → s ≡ serial_at j at → t ≡ serial_good s → t ≡ start_there j at
        unfolding start_there section_end
        start_is q p = and_yes _ _ _ (le-leb (at + 4 + count_at j at 4 + 4) (length j) (omega (arith, e))) (p ∙ ap serial_good q)

    pub start_section : start_there j at ≡ true → section_end j at ≤ length j
    unfolding start_there
    start_section e =
        let p = both (leb (section_end j at + 4) (length j)) (serial_good (serial_at j at)) e in
        omega (arith, leb-true (section_end j at + 4) (length j) p.0)

  -- ---- the settings of a complete head

  module _ (three : count_at j 0 4 ≡ 3) (room : count_place_in j + 4 ≤ length j) where
    pub serial_room : section_end j (serial_place j) ≤ length j
    unfolding count_place_in
    serial_room = omega (arith, room)

    pub id_room : section_end j 7 ≤ length j
    unfolding serial_place section_end
    id_room = let r = serial_room in omega arith

    module _ {a : ℕ} (ea : a ≡ section_end j 7) where
      at_serial : a ≡ serial_place j
      unfolding serial_place
      at_serial = ea

      pub second_room : section_end j a ≤ length j
      second_room = subst (λ (k : ℕ). section_end j k ≤ length j) (sym at_serial) serial_room

      pub id_ends : (11 ≤ a) × (a ≤ length j)
      unfolding section_end
      id_ends = let r = id_room in (omega (arith, ea), omega (arith, ea))

      csp_is : section_text j 0 ≡ get_or j 4 0 ∷ get_or j 5 0 ∷ get_or j 6 0 ∷ []
      unfolding section_text
      csp_is =
          let r = id_ends in
          let e₁ : drop 4 j ≡ get_or j 4 0 ∷ drop 5 j = drop-cons j 4 0 (omega arith) in
          let e₂ : drop 5 j ≡ get_or j 5 0 ∷ drop 6 j = drop-cons j 5 0 (omega arith) in
          let e₃ : drop 6 j ≡ get_or j 6 0 ∷ drop 7 j = drop-cons j 6 0 (omega arith) in
          ap (λ (n : ℕ). take n (drop 4 j)) three ∙ ap (take 3) (e₁ ∙ ap (λ (l : List ℕ). get_or j 4 0 ∷ l) (e₂ ∙ ap (λ (l : List ℕ). get_or j 5 0 ∷ l) e₃))

      id_text : take (a - 11) (drop 11 j) ≡ section_text j 7
      unfolding section_text section_end
      id_text =
          let k : a - 11 ≡ count_at j 7 4 = omega (arith, ea) in
          ap (λ (n : ℕ). take n (drop 11 j)) k

      pub settings_read : {id serial : Name} → id ≡ name_of (take (a - 11) (drop 11 j)) → serial ≡ serial_at j a
          → ◌≡◌ {A = Settings} (record { csp = get_or j 4 0 ∷ get_or j 5 0 ∷ get_or j 6 0 ∷ []; id = id; serial = serial }) (head_settings j)
      unfolding head_settings
      settings_read ei es = λ i. record { csp = sym csp_is i; id = (ei ∙ ap name_of id_text) i; serial = (es ∙ ap (serial_at j) at_serial) i }

  -- ---- question 14

  pub head_no : whole ≡ false → head_good j ≡ false
  unfolding head_good
  head_no e = go (eqb (count_at j 0 4) 3) (leb (count_place_in j + 4) (length j)) e
    where
      go : (t u : Bool) → t && u ≡ false → t && (u && settings_good (head_settings j)) ≡ false
      go true true e = absurd (let z : ◌≡◌ {A = ℕ} 0 1 = cc in omega arith)
      go true false e = refl
      go false u e = refl

  pub head_is : whole ≡ true → head_good j ≡ settings_good (head_settings j)
  unfolding head_good
  head_is e = let p = both (eqb (count_at j 0 4) 3) (leb (count_place_in j + 4) (length j)) e in rw (p.0, p.1)

  pub whole_room : whole ≡ true → (count_at j 0 4 ≡ 3) × (count_place_in j + 4 ≤ length j)
  whole_room e =
      let p = both (eqb (count_at j 0 4) 3) (leb (count_place_in j + 4) (length j)) e in
      (eqb-true (count_at j 0 4) 3 p.0, leb-true (count_place_in j + 4) (length j) p.1)
