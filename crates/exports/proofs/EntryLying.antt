-- An entry as it lies in a JSON string and as it is spelled there get the same answer: a compact form has neither a backslash nor "=".
use Rattle.std.proofs.Common.{ℕ, ◌+◌, ◌-◌, ◌<◌, ◌≡◌, refl, sym, ap, ◌∙◌, Bool, true, false, cond, ◌&&◌, ◌||◌, List, [], ◌∷◌, ◌++◌, arith, ltb-true, eqb-true, ltb, leb, eqb, length, get_or, take, drop, length-take, take-append-drop, take-take}
use mathlib.Core.Bool.{and-false}
use mathlib.Core.Option.{Option, none, some}
use lib.Seq.{take-length}
use Rattle.primitives.specs.Base64.{letters, quad, digit, known, ended, accepted, encoding, decoding}
use Rattle.primitives.specs.Base64 as base
use Rattle.primitives.specs.Text.{ascii}
use Rattle.primitives.specs.declared.base64.Alphabet.TheVariants.{UrlSafe}
use Rattle.primitives.specs.Questions.{ifZero}
use Rattle.primitives.proofs.Rows.{ask_no, ifZero-no, true-is-not-false}
use Rattle.receipt.specs.Form.{next_at, part, header, first_element, good_parts, second_dot, parts_of_form}
use Rattle.receipt.specs.Compact.{no_entry, read_entry}
use Rattle.receipt.proofs.Finding.{next_is, next_from}
use Rattle.receipt.proofs.Forms.{dot_inverted, cut}
use Rattle.journal.specs.Head.{entry_text}
use Rattle.journal.specs.Step.{sound_alone}
use Rattle.journal.specs.Checking.{found, context_number, text_number, after, stopped, checked, text_checked, entry_ready, entry_checked}
use Rattle.journal.specs.declared.state.State.{State}
use Rattle.journal.specs.Checking.{Checked}
use Rattle.journal.proofs.Places.{length_entry}
use Rattle.exports.specs.Text.{Token}
use Rattle.exports.specs.Shape.{string}
use Rattle.exports.specs.Lexer.{content}
use Rattle.exports.specs.Places.{from, holds, Quotes}
use Rattle.exports.specs.declared.lexer.Part.{Part}
use Rattle.exports.proofs.Passing.{part_in}
use Rattle.exports.proofs.Unescaping.{AsTheyLie, same, escaped, as_they_lie}

-- ---- a byte that is no letter of the alphabet

-- it is no letter, and not in the first element
pub record Foreign (b : ℕ) : Type 0 where
  pub digit : ltb (digit UrlSafe b) 64 ≡ false
  pub dot : eqb 46 b ≡ false
  pub first : holds b first_element ≡ false

backslash : Foreign 92
unfolding digit holds encoding letters quad base.letter header ascii
backslash = record { digit = refl; dot = refl; first = refl }

equals : Foreign 61
unfolding digit holds encoding letters quad base.letter header ascii
equals = record { digit = refl; dot = refl; first = refl }

holds_append : (b : ℕ) (xs ys : List ℕ) → holds b (xs ++ ys) ≡ holds b xs || holds b ys
unfolding holds
holds_append b [] ys = refl
holds_append b (x ∷ xs) ys = go (eqb x b) (holds_append b xs ys)
  where
    go : (t : Bool) → holds b (xs ++ ys) ≡ holds b xs || holds b ys → t || holds b (xs ++ ys) ≡ (t || holds b xs) || holds b ys
    go true e = refl
    go false e = e

holds_cons : (b c : ℕ) (xs : List ℕ) → eqb c b ≡ false → holds b (c ∷ xs) ≡ holds b xs
unfolding holds
holds_cons b c xs e = rw e

module _ (b : ℕ) (f : Foreign b) where
  not_known : (xs : List ℕ) → holds b xs ≡ true → known UrlSafe xs ≡ false
  unfolding holds known
  not_known [] h = true-is-not-false h
  not_known (x ∷ xs) h = go (eqb x b) refl h (not_known xs)
    where
      go : (t : Bool) → eqb x b ≡ t → t || holds b xs ≡ true → (holds b xs ≡ true → known UrlSafe xs ≡ false) → ltb (digit UrlSafe x) 64 && known UrlSafe xs ≡ false
      go true e q rec = rw (eqb-true x b e, f.digit)
      go false e q rec = rw (rec q) (and-false (ltb (digit UrlSafe x) 64))

  no_decoding : (xs : List ℕ) → holds b xs ≡ true → decoding UrlSafe xs ≡ none
  unfolding decoding accepted
  no_decoding xs h = rw (take-length xs, not_known xs h, and-false (ended UrlSafe xs))

  -- ---- it stands in no compact form

  no_second : (o : Option (List ℕ)) → good_parts o none ≡ none
  unfolding good_parts
  no_second none = refl
  no_second (some p) = refl

  no_first : (o : Option (List ℕ)) → good_parts none o ≡ none
  unfolding good_parts
  no_first o = refl

  module _ (t : List ℕ) (h : holds b t ≡ true) where
    -- where there are three elements, it stands in the second or in the third
    in_parts : second_dot t < length t → holds b (part 21 (second_dot t) t) || holds b (drop (second_dot t + 1) t) ≡ true
    in_parts l =
        let k : ℕ = second_dot t in
        let n : k ≡ next_at 46 t 21 = (dot_inverted t l).1 in
        let g : get_or t k 0 ≡ 46 = ap (λ (m : ℕ). get_or t m 0) n ∙ next_is 46 t 21 (omega arith) in
        let q : t ≡ first_element ++ (part 21 k t ++ (46 ∷ drop (k + 1) t)) =
        sym (take-append-drop 21 t) ∙ (λ i. (dot_inverted t l).0 i ++ cut t 46 21 k (omega (arith, next_from 46 t 21)) l g i) in
        let inner : holds b (part 21 k t ++ (46 ∷ drop (k + 1) t)) ≡ holds b (part 21 k t) || holds b (drop (k + 1) t) =
        holds_append b (part 21 k t) (46 ∷ drop (k + 1) t) ∙ ap (λ (x : Bool). holds b (part 21 k t) || x) (holds_cons b 46 (drop (k + 1) t) f.dot) in
        sym inner ∙ sym (ap (λ (x : Bool). x || holds b (part 21 k t ++ (46 ∷ drop (k + 1) t))) f.first)
        ∙ sym (holds_append b first_element (part 21 k t ++ (46 ∷ drop (k + 1) t))) ∙ ap (holds b) (sym q) ∙ h

    pub no_form : parts_of_form t ≡ none
    unfolding parts_of_form
    no_form = go (ltb (second_dot t) (length t)) refl
      where
        inner : (x y : Bool) → holds b (part 21 (second_dot t) t) ≡ x → holds b (drop (second_dot t + 1) t) ≡ y → x || y ≡ true
            → good_parts (decoding UrlSafe (part 21 (second_dot t) t)) (decoding UrlSafe (drop (second_dot t + 1) t)) ≡ none
        inner true y e e' q = rw (no_decoding (part 21 (second_dot t) t) e) (no_first (decoding UrlSafe (drop (second_dot t + 1) t)))
        inner false true e e' q = rw (no_decoding (drop (second_dot t + 1) t) e') (no_second (decoding UrlSafe (part 21 (second_dot t) t)))
        inner false false e e' q = true-is-not-false q

        go : (x : Bool) → ltb (second_dot t) (length t) ≡ x
            → cond x (good_parts (decoding UrlSafe (part 21 (second_dot t) t)) (decoding UrlSafe (drop (second_dot t + 1) t))) none ≡ none
        go true e = inner _ _ refl refl (in_parts (ltb-true (second_dot t) (length t) e))
        go false e = refl

    -- ---- and no such text is an entry

    none_ok : no_entry.ok ≡ false
    unfolding no_entry
    none_ok = refl

    no_entry_lem : (st : State) → (found st t).ok ≡ false
    unfolding found read_entry
    no_entry_lem st = rw no_form none_ok

    sixteen : (k : List (List ℕ)) (st : State) → text_number k st t ≡ 16
    unfolding text_number
    sixteen k st = ask_no 16 (context_number k st (found st t).entry.fields) (no_entry_lem st)

    pub not_entry : (k : List (List ℕ)) (st : State) → entry_checked k st t ≡ cond (entry_ready st t) (stopped 16 st) (stopped 6 st)
    unfolding entry_checked text_checked checked
    not_entry k st =
        ap (λ (m : ℕ). cond (entry_ready st t) (ifZero m (record { number = 0; found = found st t; state = after st t }) (stopped m st)) (stopped 6 st)) (sixteen k st)
        ∙ ap (λ (x : Checked). cond (entry_ready st t) x (stopped 6 st)) (ifZero-no 16 _ _ (λ z. omega arith))

-- the size alone decides whether the length fits
ready_size : (st : State) (s w : List ℕ) → length s ≡ length w → entry_ready st s ≡ entry_ready st w
unfolding entry_ready
ready_size st s w e =
    let q : length (entry_text s) ≡ length (entry_text w) = length_entry s ∙ (ap (λ (n : ℕ). 2 + n) e ∙ sym (length_entry w)) in
    ap (λ (n : ℕ). sound_alone st && leb (st.length + n) 18446744073709551615) q

-- ---- as it lies

pub lying_entry : (k : List (List ℕ)) (st : State) (raw w : List ℕ) → AsTheyLie raw w → entry_checked k st (take (length w) raw) ≡ entry_checked k st w
lying_entry k st raw w (same e) = ap (λ (l : List ℕ). entry_checked k st (take (length w) l)) e ∙ ap (entry_checked k st) (take-length w)
lying_entry k st raw w (escaped l a b) =
    let s = take (length w) raw in
    let n : length s ≡ length w = length-take (length w) raw ∙ omega arith in
    not_entry 92 backslash s a k st
    ∙ (ap (λ (t : Bool). cond t (stopped 16 st) (stopped 6 st)) (ready_size st s w n) ∙ sym (not_entry 61 equals w b k st))

-- the part of a text that is lent to the check
pub part_entry : (k : List (List ℕ)) (st : State) {text : List ℕ} {at : ℕ} {p : Part} → Quotes text at p
    → (w : List ℕ) (r : List Token) → from text at ≡ string w ++ r
    → entry_checked k st (take (p.start + p.length - p.start) (drop p.start text)) ≡ entry_checked k st w
part_entry k st {text} {at} {p} i w r q =
    let pr = part_in i in
    let is : content (drop p.start text) 0 ≡ w = sym (pr.is w r q) in
    let long : p.length ≡ length w = pr.long ∙ ap length is in
    let quote = pr.quote in
    let m : ℕ = p.next - 1 - p.start in
    let d : List ℕ = drop p.start text in
    let e : p.start + p.length - p.start ≡ length w = omega (arith, long) in
    let f : take (length w) d ≡ take (length w) (take m d) = sym (take-take (length w) m d (omega (arith, long, quote))) in
    ap (λ (n : ℕ). entry_checked k st (take n d)) e ∙ (ap (entry_checked k st) f ∙ lying_entry k st (take m d) w (as_they_lie (rw is at pr.spells)))
