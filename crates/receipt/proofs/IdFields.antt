-- The ID field of a code: it is found where there is one, at its place in the code, and nowhere else.
use Rattle.std.proofs.Common.{ℕ, ◌+◌, ◌-◌, ◌≤◌, ◌<◌, ◌≡◌, refl, sym, ap, ◌∙◌, Bool, true, false, cond, List, [], ◌∷◌, ◌++◌, arith, lt-ltb, ltb-true, ltb, length, get_or, take, drop, length-append, length-take, length-drop, take_at, drop_at, drop-cons, get_or-take}
use mathlib.Core.Option.{Option, none, some}
use lib.Seq.{append_snoc}
use Rattle.primitives.specs.Bytes.{AllBytes}
use Rattle.primitives.proofs.Rows.{both}
use Rattle.receipt.specs.Texts.{beginning}
use Rattle.receipt.specs.Form.{next_at, part, Without, Parts, payload_good, signature_good}
use Rattle.receipt.specs.Code.{last_at, parts_of_code, id_start, id_end, id_there, id_place_of, id_place, id_field, nowhere}
use Rattle.receipt.specs.CodeLaws.{IdPart, HasId, IdFieldIsExact}
use Rattle.receipt.specs.declared.machine_code.Part.{Part}
use Rattle.receipt.proofs.Finding.{next_from, next_is, next_without, part_front, part_without}
use Rattle.receipt.proofs.CodeTexts.{payload_starts}
use Rattle.receipt.proofs.Forms.{cut}
use Rattle.receipt.proofs.Codes.{code_good, code_payload, code_within, code_exact}

-- ---- a payload that is split

module _ (x id z : List ℕ) (wx : Without 95 x) (wi : Without 95 id) where
  abbrev text : List ℕ
  text = (95 ∷ x) ++ ((95 ∷ id) ++ (95 ∷ z))

  abbrev front : List ℕ
  front = (95 ∷ x) ++ (95 ∷ [])

  text_is : front ++ (id ++ (95 ∷ z)) ≡ text
  text_is = append_snoc (95 ∷ x) 95 (id ++ (95 ∷ z))

  front_long : length front ≡ 2 + length x
  front_long = omega (arith, length-append (95 ∷ x) (95 ∷ []))

  long : length text ≡ 2 + length x + length id + 1 + length z
  long = omega (arith, length-append (95 ∷ x) ((95 ∷ id) ++ (95 ∷ z)), length-append (95 ∷ id) (95 ∷ z))

  start_is : id_start text ≡ 2 + length x
  unfolding id_start
  start_is =
      let e : next_at 95 text 1 ≡ 1 + length x = next_without 95 (95 ∷ []) x (id ++ (95 ∷ z)) 1 refl wx in
      omega arith

  end_is : id_end text ≡ 2 + length x + length id
  unfolding id_end
  end_is =
      ap (next_at 95 text) start_is
      ∙ ap (λ (t : List ℕ). next_at 95 t (2 + length x)) (sym text_is)
      ∙ next_without 95 front id z (2 + length x) front_long wi

  there : 0 < length id → id_there text ≡ true
  unfolding id_there
  there h =
      rw (lt-ltb (id_end text) (length text) (omega (arith, long, end_is)), lt-ltb (id_start text) (id_end text) (omega (arith, start_is, end_is)))

  id_is : part (2 + length x) (2 + length x + length id) text ≡ id
  id_is =
      ap (part (2 + length x) (2 + length x + length id)) (sym text_is)
      ∙ ap (take (2 + length x + length id - (2 + length x))) (drop_at front (id ++ (95 ∷ z)) (2 + length x) front_long)
      ∙ take_at id (95 ∷ z) (2 + length x + length id - (2 + length x)) (omega arith)

-- ---- a payload that has an ID part is split

module _ (p : List ℕ) (good : payload_good p ≡ true) (has : id_there p ≡ true) where
  ended : id_end p < length p
  unfolding id_there
  ended = ltb-true (id_end p) (length p) (both (ltb (id_end p) (length p)) (ltb (id_start p) (id_end p)) has).0

  some_there : id_start p < id_end p
  unfolding id_there
  some_there = ltb-true (id_start p) (id_end p) (both (ltb (id_end p) (length p)) (ltb (id_start p) (id_end p)) has).1

  first_mark : get_or p 0 0 ≡ 95
  unfolding beginning
  first_mark = sym (get_or-take 4 p 0 0 (omega arith)) ∙ ap (λ (l : List ℕ). get_or l 0 0) (payload_starts p good)

  split : p ≡ (95 ∷ part 1 (next_at 95 p 1) p) ++ ((95 ∷ part (id_start p) (id_end p) p) ++ (95 ∷ drop (id_end p + 1) p))
  unfolding id_start id_end
  split =
      let n : ℕ = next_at 95 p 1 in
      let e : ℕ = next_at 95 p (n + 1) in
      let h : n < length p = omega (arith, ended, some_there) in
      drop-cons p 0 0 (omega arith)
      ∙ (λ i. first_mark i ∷ (cut p 95 1 n (next_from 95 p 1) h (next_is 95 p 1 h)
      ∙ ap (λ (l : List ℕ). part 1 n p ++ (95 ∷ l)) (cut p 95 (n + 1) e (next_from 95 p (n + 1)) ended (next_is 95 p (n + 1) ended))) i)

  id_long : 0 < length (part (id_start p) (id_end p) p)
  id_long = omega (arith, ended, some_there, length-take (id_end p - id_start p) (drop (id_start p) p), length-drop (id_start p) p)

-- no "_" stands between the two
between : (q : List ℕ) → Without 95 (part (id_start q) (id_end q) q)
unfolding id_end
between q = part_without 95 q (id_start q)

-- ---- the field of a code

module _ (code : List ℕ) where
  -- the part of the payload is the part of the code
  part_of : (p : Parts) → parts_of_code code ≡ some p → (a e : ℕ) → a ≤ e → e ≤ length p.payload → part a e code ≡ part a e p.payload
  part_of p o a e h k =
      let w : last_at 95 code < length code = code_within code p o in
      let l : length p.payload ≡ last_at 95 code = sym (ap length (code_payload code p o)) ∙ omega (arith, length-take (last_at 95 code) code) in
      sym (part_front code (last_at 95 code) a e (omega arith) h (omega arith)) ∙ ap (part a e) (code_payload code p o)

  module _ (b : AllBytes code) where
    -- a code with an ID field has an ID part
    has_id : (p : Parts) → parts_of_code code ≡ some p → id_there p.payload ≡ true → HasId code
    has_id p e h =
        let q : List ℕ = p.payload in
        let g : payload_good q ≡ true = (both (payload_good q) (signature_good p.signature) (code_good code p e)).0 in
        record {
          before = part 1 (next_at 95 q 1) q;
          id = part (id_start q) (id_end q) q;
          after = drop (id_end q + 1) q;
          is = record {
            parts = p;
            made = (code_exact code b).only p e;
            payload = split q g h;
            first = part_without 95 q 1;
            second = between q;
            some = id_long q g h;
          };
        }

    only : (id_place code).start < (id_place code).end → HasId code
    unfolding id_place
    only = go (parts_of_code code) refl
      where
        go : (o : Option Parts) → parts_of_code code ≡ o → (id_place_of o).start < (id_place_of o).end → HasId code
        go none e h = absurd (omega arith)
        go (some p) e h = try (id_there p.payload) refl h
          where
            try : (t : Bool) → id_there p.payload ≡ t
                → (cond t (record { start = id_start p.payload; end = id_end p.payload }) nowhere).start < (cond t (record { start = id_start p.payload; end = id_end p.payload }) nowhere).end → HasId code
            try true w k = has_id p e w
            try false w k = absurd (omega arith)

    nothing : (HasId code → ⊥) → (id_place code ≡ nowhere) × (id_field code ≡ [])
    unfolding id_place id_field
    nothing n = let e : id_place_of (parts_of_code code) ≡ nowhere = go (parts_of_code code) refl in (e, rw e)
      where
        go : (o : Option Parts) → parts_of_code code ≡ o → id_place_of o ≡ nowhere
        go none e = refl
        go (some p) e = try (id_there p.payload) refl
          where
            try : (t : Bool) → id_there p.payload ≡ t → cond t (record { start = id_start p.payload; end = id_end p.payload }) nowhere ≡ nowhere
            try true w = absurd (n (has_id p e w))
            try false w = refl

    module _ (x id z : List ℕ) (w : IdPart code x id z) where
      taken : parts_of_code code ≡ some w.parts
      taken = (code_exact code b).all w.parts w.made

      place : id_place code ≡ record { start = 2 + length x; end = 2 + length x + length id }
      unfolding id_place
      place = rw (taken, w.payload, there x id z w.first w.second w.some, start_is x id z w.first w.second, end_is x id z w.first w.second)

      stands : id_field code ≡ id
      unfolding id_field
      stands =
          let a : ℕ = 2 + length x in
          let e : ℕ = 2 + length x + length id in
          ap (λ (q : Part). part q.start q.end code) place
          ∙ part_of w.parts taken a e (omega arith) (omega (arith, ap length w.payload, long x id z w.first w.second))
          ∙ ap (part a e) w.payload
          ∙ id_is x id z w.first w.second

pub id_field_exact : IdFieldIsExact
id_field_exact code b = record { place = place code b; stands = stands code b; only = only code b; nothing = nothing code b }
