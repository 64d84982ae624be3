-- A journal with a pair without receipts is written, and its text gets 29.
use Rattle.std.proofs.lemmas.List.{length-map}
use Rattle.std.proofs.Common.{ℕ, ◌<◌, ◌≡◌, refl, sym, ap, ◌∙◌, true, false, ◌&&◌, List, [], ◌∷◌, map, arith, length, take}
use mathlib.Core.Option.{some}
use Rattle.primitives.specs.Questions.{ask}
use Rattle.primitives.proofs.Rows.{ifZero-no}
use Rattle.journal.specs.Valid.{Owner, Pair}
use Rattle.journal.proofs.WrittenIsAccepted.{accepted_is_valid}
use Rattle.exports.specs.Text.{every}
use Rattle.exports.specs.Shape.{Element, plain_element}
use Rattle.exports.specs.Parsed.{elements_of}
use Rattle.exports.specs.Spelled.{is_empty, TextPair, GoodPairs, also}
use Rattle.exports.specs.Groups.{Group}
use Rattle.exports.specs.GroupLaws.{text_pair}
use Rattle.exports.specs.Writing.{element_for, elements_for, exported, export_buffer}
use Rattle.exports.specs.Reading.{element_good, has_receipt, survey_number, elements_number, not_read, restored}
use Rattle.exports.specs.Promises.{has_text, EmptyPairGets29}
use Rattle.exports.proofs.Sized.{every_nil, every_one}
use Rattle.exports.proofs.PlainText.{plain_text_lem}
use Rattle.exports.proofs.Back.{reads_back}
use Rattle.exports.proofs.PairsBack.{valid_good, valid_pairs}
use Rattle.exports.proofs.ReadBack.{AllGroupBytes, next, element_plain, element_good_lem, made, ps, the_groups, es, over_front, restored_is}

module _ (o : Owner) (n : ℕ) where
  all_plain : (xs : List Pair) (gs : List Group) → every plain_element (elements_for (map (text_pair o n) xs) gs) ≡ true
  unfolding elements_for
  all_plain [] gs = every_nil plain_element
  all_plain (p ∷ xs) [] = every_nil plain_element
  all_plain (p ∷ xs) (g ∷ gs) = every_one plain_element _ _ (element_plain o n p g) (all_plain xs gs)

  all_good_lem : (xs : List Pair) (gs : List Group) → GoodPairs (map (text_pair o n) xs) → AllGroupBytes gs → every element_good (elements_for (map (text_pair o n) xs) gs) ≡ true
  unfolding elements_for
  all_good_lem [] gs f b = every_nil element_good
  all_good_lem (p ∷ xs) [] f b = every_nil element_good
  all_good_lem (p ∷ xs) (g ∷ gs) (also f fs) (next b bs) = every_one element_good _ _ (element_good_lem o n p g f b) (all_good_lem xs gs fs bs)

  has_receipt_lem : (x : TextPair) (g : Group) → has_receipt (element_for x g) ≡ has_text x
  unfolding has_receipt has_text element_for
  has_receipt_lem x g = refl

  all_receipts : (xs : List TextPair) (gs : List Group) → length gs ≡ length xs → every has_receipt (elements_for xs gs) ≡ every has_text xs
  unfolding elements_for every
  all_receipts [] gs l = refl
  all_receipts (x ∷ xs) [] l = absurd (omega arith)
  all_receipts (x ∷ xs) (g ∷ gs) l = λ i. has_receipt_lem x g i && all_receipts xs gs (omega arith) i

  some_one : (xs : List Pair) (gs : List Group) → 0 < length xs → length gs ≡ length xs → is_empty (elements_for (map (text_pair o n) xs) gs) ≡ false
  unfolding elements_for
  some_one [] gs h l = absurd (omega arith)
  some_one (p ∷ xs) [] h l = absurd (omega arith)
  some_one (p ∷ xs) (g ∷ gs) h l = refl

survey_none : (xs : List Element) (rest : ℕ) → is_empty xs ≡ false → every element_good xs ≡ true → every has_receipt xs ≡ false → survey_number xs rest ≡ 29
unfolding survey_number ask
survey_none xs rest a b c = rw (a, b, c)

survey_number_lem : (xs : List Element) (size : ℕ) → is_empty xs ≡ false → every element_good xs ≡ true → every has_receipt xs ≡ false → elements_number xs size ≡ 29
unfolding elements_number
survey_number_lem xs size a b c = survey_none xs _ a b c

pub empty_pair_gets_29 : EmptyPairGets29
unfolding es ps
empty_pair_gets_29 j key n certificates out size bj bc z none =
    let m = made j key n certificates out z in
    let v = (accepted_is_valid j key n bj).0 m.accepted in
    let g = the_groups j key n certificates v bc m.text m.is in
    let xs = es j key n certificates v bc m.text m.is in
    let o = v.owner in
    let same : take (exported j key n certificates out).length (export_buffer j key n certificates out) ≡ m.text
    = (λ i. take (m.long i) (m.buffer i)) ∙ over_front out m.text m.fits in
    let found : elements_of m.text ≡ some xs = ap elements_of (g.text_is ∙ plain_text_lem xs) ∙ reads_back xs (all_plain o n v.pairs g.groups) in
    let few : length g.groups ≡ length (map (text_pair o n) v.pairs) = g.count ∙ sym (length-map v.pairs (text_pair o n)) in
    let no : every has_receipt xs ≡ false = all_receipts o n (map (text_pair o n) v.pairs) g.groups few ∙ ap (every has_text) (sym (valid_pairs v)) ∙ none in
    let number : elements_number xs size ≡ 29 = survey_number_lem xs size (some_one o n v.pairs g.groups v.some g.count) (all_good_lem o n v.pairs g.groups (valid_good v) g.each_bytes) no in
    ap (λ (t : List ℕ). restored t key n size) same
    ∙ restored_is m.text key n size xs found
    ∙ ifZero-no (elements_number xs size) _ _ (λ y. omega (arith, y, number))
    ∙ ap (λ (k : ℕ). not_read k 0) number
