-- The last four "_" of a text: five texts with "_" between them are found again, and a text that has the four "_" is split there.
use Rattle.std.proofs.Common.{ℕ, ◌+◌, ◌-◌, ◌≤◌, ◌<◌, ◌≡◌, refl, sym, ap, ◌∙◌, true, ◌&&◌, List, [], ◌∷◌, ◌++◌, append_assoc, arith, lt-ltb, ltb-true, ltb, length, get_or, take, drop, length-append, length-drop, take_at, drop_at, take_all, length-take-le}
use lib.Seq.{append_snoc}
use Rattle.primitives.proofs.Rows.{both}
use Rattle.receipt.specs.Form.{part, Without}
use Rattle.receipt.specs.Code.{last_at}
use Rattle.receipt.specs.Line.{unspell, signature_mark, chain_mark, serial_mark, counter_mark, marks_there, with_fields, fields_of}
use Rattle.receipt.specs.declared.optical_line.Spelling.{Spelling}
use Rattle.receipt.proofs.Finding.{last_is, last_without, part_front}
use Rattle.receipt.proofs.Forms.{cut}

-- ---- one split

-- x, "_" and y, with no "_" in y, stand at the start of a text
module _ (x y rest text : List ℕ) (n : ℕ) (is : text ≡ (x ++ (95 ∷ y)) ++ rest) (long : length (x ++ (95 ∷ y)) ≡ n) where
  pub front_is : take n text ≡ x ++ (95 ∷ y)
  front_is = ap (take n) is ∙ take_at (x ++ (95 ∷ y)) rest n long

  pub mark_is : Without 95 y → last_at 95 (take n text) ≡ length x
  mark_is w = ap (last_at 95) front_is ∙ last_without 95 x y w

  pub between_is : (a : ℕ) → a ≡ length x → part (a + 1) n text ≡ y
  between_is a e =
      let g : (x ++ (95 ∷ y)) ++ rest ≡ (x ++ (95 ∷ [])) ++ (y ++ rest) = simp append_assoc in
      let l : length (x ++ (95 ∷ [])) ≡ a + 1 = omega (arith, length-append x (95 ∷ [])) in
      ap (part (a + 1) n) (is ∙ g) ∙ ap (take (n - (a + 1))) (drop_at (x ++ (95 ∷ [])) (y ++ rest) (a + 1) l)
      ∙ take_at y rest (n - (a + 1)) (omega (arith, length-append x (95 ∷ y)))

-- the other way: a text up to n is split at its last "_"
module _ (text : List ℕ) (n k : ℕ) (h : n ≤ length text) (e : last_at 95 (take n text) ≡ k) (l : k < n) where
  pub split_last : take n text ≡ take k text ++ (95 ∷ part (k + 1) n text)
  split_last =
      let u : List ℕ = take n text in
      let m : length u ≡ n = length-take-le n text h in
      cut u 95 0 k (omega arith) (omega arith) (ap (λ (i : ℕ). get_or u i 0) (sym e) ∙ last_is 95 u (omega arith))
      ∙ (λ i. first i ++ (95 ∷ second i))
    where
      first : part 0 k (take n text) ≡ take k text
      first =
          let d : k - 0 ≡ k = omega arith in
          part_front text n 0 k h (omega arith) (omega arith) ∙ ap (λ (j : ℕ). take j text) d

      second : drop (k + 1) (take n text) ≡ part (k + 1) n text
      second =
          let m : length (take n text) ≡ n = length-take-le n text h in
          sym (take_all (n - (k + 1)) (drop (k + 1) (take n text)) (omega (arith, length-drop (k + 1) (take n text))))
          ∙ part_front text n (k + 1) n h (omega arith) (omega arith)

-- ---- four splits

-- five texts with "_" between them, with no "_" in the last four
module _ (a b c d e : List ℕ) where
  abbrev pub one : List ℕ
  one = a ++ (95 ∷ b)

  abbrev pub two : List ℕ
  two = one ++ (95 ∷ c)

  abbrev pub three : List ℕ
  three = two ++ (95 ∷ d)

  abbrev pub four : List ℕ
  four = three ++ (95 ∷ e)

  from_two : four ≡ two ++ ((95 ∷ d) ++ (95 ∷ e))
  from_two = append_assoc two (95 ∷ d) (95 ∷ e)

  from_one : four ≡ one ++ ((95 ∷ c) ++ ((95 ∷ d) ++ (95 ∷ e)))
  from_one = from_two ∙ append_assoc one (95 ∷ c) ((95 ∷ d) ++ (95 ∷ e))

  module _ (wb : Without 95 b) (wc : Without 95 c) (wd : Without 95 d) (we : Without 95 e) where
    signature_mark_lem : signature_mark four ≡ length three
    unfolding signature_mark
    signature_mark_lem = last_without 95 three e we

    chain_mark_lem : chain_mark four ≡ length two
    unfolding chain_mark
    chain_mark_lem = mark_is two d (95 ∷ e) four (signature_mark four) refl (sym signature_mark_lem) wd

    serial_mark_lem : serial_mark four ≡ length one
    unfolding serial_mark
    serial_mark_lem = mark_is one c ((95 ∷ d) ++ (95 ∷ e)) four (chain_mark four) from_two (sym chain_mark_lem) wc

    counter_mark_lem : counter_mark four ≡ length a
    unfolding counter_mark
    counter_mark_lem = mark_is a b ((95 ∷ c) ++ ((95 ∷ d) ++ (95 ∷ e))) four (serial_mark four) from_one (sym serial_mark_lem) wb

    marks_there_lem : marks_there four ≡ true
    unfolding marks_there
    marks_there_lem =
        let m₁ = signature_mark_lem in
        let m₂ = chain_mark_lem in
        let m₃ = serial_mark_lem in
        let m₄ = counter_mark_lem in
        rw (
          lt-ltb (signature_mark four) (length four) (omega (arith, length-append three (95 ∷ e))),
          lt-ltb (chain_mark four) (signature_mark four) (omega (arith, length-append two (95 ∷ d))),
          lt-ltb (serial_mark four) (chain_mark four) (omega (arith, length-append one (95 ∷ c))),
          lt-ltb (counter_mark four) (serial_mark four) (omega (arith, length-append a (95 ∷ b))),
        )

    start_is : take (counter_mark four) four ≡ a
    start_is = ap (take (counter_mark four)) (from_one ∙ append_assoc a (95 ∷ b) ((95 ∷ c) ++ ((95 ∷ d) ++ (95 ∷ e)))) ∙ take_at a _ (counter_mark four) (sym counter_mark_lem)

    rest_is : drop (signature_mark four + 1) four ≡ e
    rest_is =
        ap (drop (signature_mark four + 1)) (sym (append_snoc three 95 e))
        ∙ drop_at (three ++ (95 ∷ [])) e (signature_mark four + 1) (omega (arith, signature_mark_lem, length-append three (95 ∷ [])))

    -- the reader finds the five texts
    pub fields_split : (s : Spelling) → fields_of s four ≡ with_fields a (unspell s b) c (unspell s d) (unspell s e)
    unfolding fields_of
    fields_split s = rw marks_there_lem (λ i. with_fields (start_is i) (unspell s (counter_is i)) (serial_is i) (unspell s (chain_is i)) (unspell s (rest_is i)))
      where
        counter_is : part (counter_mark four + 1) (serial_mark four) four ≡ b
        counter_is = between_is a b ((95 ∷ c) ++ ((95 ∷ d) ++ (95 ∷ e))) four (serial_mark four) from_one (sym serial_mark_lem) (counter_mark four) counter_mark_lem

        serial_is : part (serial_mark four + 1) (chain_mark four) four ≡ c
        serial_is = between_is one c ((95 ∷ d) ++ (95 ∷ e)) four (chain_mark four) from_two (sym chain_mark_lem) (serial_mark four) serial_mark_lem

        chain_is : part (chain_mark four + 1) (signature_mark four) four ≡ d
        chain_is = between_is two d (95 ∷ e) four (signature_mark four) refl (sym signature_mark_lem) (chain_mark four) chain_mark_lem

-- the other way: a text that has the four "_" is split there
module _ (text : List ℕ) (there : marks_there text ≡ true) where
  abbrev m₁ : ℕ
  m₁ = signature_mark text

  abbrev m₂ : ℕ
  m₂ = chain_mark text

  abbrev m₃ : ℕ
  m₃ = serial_mark text

  abbrev m₄ : ℕ
  m₄ = counter_mark text

  record Ordered : Type 0 where
    first : m₁ < length text
    second : m₂ < m₁
    third : m₃ < m₂
    fourth : m₄ < m₃

  ordered : Ordered
  unfolding marks_there
  ordered =
      let b₁ = both (ltb m₁ (length text)) (ltb m₂ m₁ && (ltb m₃ m₂ && ltb m₄ m₃)) there in
      let b₂ = both (ltb m₂ m₁) (ltb m₃ m₂ && ltb m₄ m₃) b₁.1 in
      let b₃ = both (ltb m₃ m₂) (ltb m₄ m₃) b₂.1 in
      record {
        first = ltb-true m₁ (length text) b₁.0;
        second = ltb-true m₂ m₁ b₂.0;
        third = ltb-true m₃ m₂ b₃.0;
        fourth = ltb-true m₄ m₃ b₃.1;
      }

  first_split : text ≡ take m₁ text ++ (95 ∷ drop (m₁ + 1) text)
  unfolding signature_mark
  first_split =
      let h : m₁ < length text = ordered.first in
      let d : m₁ - 0 ≡ m₁ = omega arith in
      cut text 95 0 m₁ (omega arith) h (last_is 95 text h) ∙ ap (λ (k : ℕ). take k text ++ (95 ∷ drop (m₁ + 1) text)) d

  second_split : take m₁ text ≡ take m₂ text ++ (95 ∷ part (m₂ + 1) m₁ text)
  unfolding chain_mark
  second_split = let o = ordered in split_last text m₁ m₂ (omega arith) refl o.second

  third_split : take m₂ text ≡ take m₃ text ++ (95 ∷ part (m₃ + 1) m₂ text)
  unfolding serial_mark
  third_split = let o = ordered in split_last text m₂ m₃ (omega arith) refl o.third

  fourth_split : take m₃ text ≡ take m₄ text ++ (95 ∷ part (m₄ + 1) m₃ text)
  unfolding counter_mark
  fourth_split = let o = ordered in split_last text m₃ m₄ (omega arith) refl o.fourth

  pub text_split : text ≡ four (take m₄ text) (part (m₄ + 1) m₃ text) (part (m₃ + 1) m₂ text) (part (m₂ + 1) m₁ text) (drop (m₁ + 1) text)
  text_split =
      first_split
      ∙ (λ i. (second_split ∙ (λ j. (third_split ∙ (λ k. fourth_split k ++ (95 ∷ part (m₃ + 1) m₂ text))) j ++ (95 ∷ part (m₂ + 1) m₁ text))) i ++ (95 ∷ drop (m₁ + 1) text))
