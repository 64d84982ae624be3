-- How long the text of an export is, from the state and the groups.
use Rattle.std.proofs.lemmas.List.{length-map}
use Rattle.std.proofs.Common.{ℕ, ◌+◌, ◌*◌, ◌/◌, ◌≤◌, ◌≡◌, refl, sym, ap, ◌∙◌, subst, Bool, true, false, List, [], ◌∷◌, ◌++◌, map, arith, length, length-append}
use Rattle.primitives.specs.Bytes.{AllBytes}
use Rattle.primitives.specs.Text.{ascii}
use Rattle.primitives.specs.Number.{bytes_of}
use Rattle.primitives.specs.declared.base64.Alphabet.TheVariants.{Standard}
use Rattle.primitives.proofs.Laws.{encoded_length_is}
use Rattle.primitives.proofs.Numbers.{length_bytes_of}
use Rattle.primitives.proofs.Rows.{true-is-not-false}
use Rattle.receipt.specs.Settings.{name_text}
use Rattle.receipt.specs.Compact.{compact}
use Rattle.receipt.specs.declared.settings.Letters.TheVariants.{Id, Serial}
use Rattle.receipt.proofs.Names.{good_name, text_short, length_text}
use Rattle.journal.specs.Head.{section, pair_start, entry_text}
use Rattle.journal.specs.Valid.{Pair, settings_for, owner_text, entries_in, state_after, Valid}
use Rattle.journal.specs.Checking.{take_over, accepted}
use Rattle.journal.specs.declared.state.State.{State}
use Rattle.journal.specs.declared.state.TakenOver.{TakenOver}
use Rattle.journal.proofs.Places.{length_entry}
use Rattle.journal.proofs.Sections.{length_section}
use Rattle.journal.proofs.Accepting.{accepted_valid}
use Rattle.journal.proofs.JournalStates.{state_of_journal}
use Rattle.exports.specs.Text.{every}
use Rattle.exports.specs.Shape.{Element}
use Rattle.exports.specs.Spelled.{sized_texts, TextPair, pair_spelled, pairs_spelled, journal_spelled, GoodPair, GoodPairs, also, pairs_of}
use Rattle.exports.specs.Groups.{Group, groups_text, group_good}
use Rattle.exports.specs.GroupLaws.{text_pair}
use Rattle.exports.specs.Writing.{quoted, listed, opening, before_certificate, before_issuers, before_receipts, ending, certificates_part, receipts_part, element_text, export_text, in_base64, element_for, elements_for, exported}
use Rattle.exports.specs.Room.{certificates_room, groups_room, export_room, ExportRoomIsEnough}
use Rattle.exports.specs.Writing.{Exported}
use Rattle.exports.proofs.Sized.{sized_nil, sized_cons}
use Rattle.exports.proofs.PairsBack.{valid_spelled, valid_good, valid_pairs}
use Rattle.exports.proofs.ExportAnswers.{used_pairs}
use Rattle.exports.proofs.Promising.{written_exactly}

-- ---- strings

unfoldable texts_room : List (List ℕ) → ℕ
texts_room [] = 0
texts_room (w ∷ ws) = 3 + length w + texts_room ws

quoted_long : (w : List ℕ) → length (quoted w) ≡ 2 + length w
unfolding quoted
quoted_long w = omega (arith, length-append w (34 ∷ []))

listed_true : (ws : List (List ℕ)) → length (listed quoted true ws) ≡ texts_room ws
unfolding listed texts_room
listed_true [] = refl
listed_true (w ∷ ws) = omega (arith, length-append (quoted w) (listed quoted true ws), quoted_long w, listed_true ws)

listed_false : (ws : List (List ℕ)) → (length (listed quoted false ws) ≤ texts_room ws) × (texts_room ws ≤ 1 + length (listed quoted false ws))
unfolding listed texts_room
listed_false [] = (omega arith, omega arith)
listed_false (w ∷ ws) =
    let a = length-append (quoted w) (listed quoted true ws) in
    (omega (arith, a, quoted_long w, listed_true ws), omega (arith, a, quoted_long w, listed_true ws))

-- ---- certificates

coded_long : (c : List ℕ) → length (in_base64 c) ≡ (length c + 2) / 3 * 4
coded_long c = encoded_length_is Standard c

coded_room : (cs : List (List ℕ)) → texts_room (map in_base64 cs) ≡ certificates_room cs
unfolding texts_room certificates_room
coded_room [] = refl
coded_room (c ∷ cs) = omega (arith, coded_long c, coded_room cs)

-- ---- an element

module _ (p : TextPair) (g : Group) where
  parts : length (element_text (element_for p g)) ≡ 71 + length (quoted (in_base64 g.certificate)) + length (listed quoted false (map in_base64 g.issuers)) + length (listed quoted false p.texts)
  unfolding element_text element_for certificates_part receipts_part before_certificate before_issuers before_receipts ending ascii
  parts =
      let c = in_base64 g.certificate in
      let is = map in_base64 g.issuers in
      omega (
        arith,
        length-append (certificates_part c is) (receipts_part p.texts),
        length-append (listed quoted false p.texts) ending,
        length-append before_certificate (quoted c ++ (before_issuers ++ (listed quoted false is ++ before_receipts))),
        length-append (quoted c) (before_issuers ++ (listed quoted false is ++ before_receipts)),
        length-append before_issuers (listed quoted false is ++ before_receipts),
        length-append (listed quoted false is) before_receipts,
      )

  certificates_of_lem : certificates_room (g.certificate ∷ g.issuers) ≡ 3 + length (in_base64 g.certificate) + certificates_room g.issuers
  unfolding certificates_room
  certificates_of_lem = omega (arith, coded_long g.certificate)

  element_room : (length (element_text (element_for p g)) ≤ 70 + certificates_room (g.certificate ∷ g.issuers) + texts_room p.texts)
      × (70 + certificates_room (g.certificate ∷ g.issuers) + texts_room p.texts ≤ length (element_text (element_for p g)) + 2)
  element_room =
      let i = listed_false (map in_base64 g.issuers) in
      let r = listed_false p.texts in
      let q = quoted_long (in_base64 g.certificate) in
      let c = coded_room g.issuers in (
        omega (arith, parts, certificates_of_lem, i.0, r.0, q, c),
        omega (arith, parts, certificates_of_lem, i.1, r.1, q, c),
      )

-- ---- a pair

sized_room : (ws : List (List ℕ)) → length (sized_texts ws) + length ws ≡ texts_room ws
unfolding texts_room
sized_room [] = ap (λ (l : List ℕ). length l + 0) sized_nil
sized_room (w ∷ ws) = omega (arith, ap length (sized_cons w ws), length-append (entry_text w) (sized_texts ws), length_entry w, sized_room ws)

pair_long : (p : TextPair) → length (pair_spelled p) + length p.texts ≡ 8 + length (name_text p.serial) + texts_room p.texts
unfolding pair_spelled pair_start
pair_long p =
    omega (
      arith,
      sized_room p.texts,
      length-append (pair_start p.serial (length p.texts)) (sized_texts p.texts),
      length-append (section (name_text p.serial)) (bytes_of 4 (length p.texts)),
      length_section (name_text p.serial),
      length_bytes_of 4 (length p.texts),
    )

serial_size : (p : TextPair) → GoodPair p → (1 ≤ length (name_text p.serial)) × (length (name_text p.serial) ≤ 32)
serial_size p g =
    let n = good_name Serial p.serial g.good in
    (omega (arith, length_text p.serial g.long n.most, n.some), text_short p.serial g.long)

-- ---- all pairs

unfoldable text_count : List TextPair → ℕ
text_count [] = 0
text_count (p ∷ ps) = length p.texts + text_count ps

-- what a journal without its head, the receipts and the groups take
unfoldable taking : List TextPair → List Group → ℕ
taking ps gs = length (pairs_spelled ps) + text_count ps + 63 * length ps + groups_room gs

abbrev elements_long : Bool → List TextPair → List Group → ℕ
elements_long more ps gs = length (listed element_text more (elements_for ps gs))

listed_long : (more : Bool) (p : TextPair) (ps : List TextPair) (g : Group) (gs : List Group)
    → (elements_long more (p ∷ ps) (g ∷ gs) ≤ 1 + length (element_text (element_for p g)) + elements_long true ps gs)
    × (length (element_text (element_for p g)) + elements_long true ps gs ≤ elements_long more (p ∷ ps) (g ∷ gs))
    × (more ≡ true → elements_long more (p ∷ ps) (g ∷ gs) ≡ 1 + length (element_text (element_for p g)) + elements_long true ps gs)
unfolding listed elements_for
listed_long true p ps g gs =
    let a = length-append (element_text (element_for p g)) (listed element_text true (elements_for ps gs)) in
    (omega (arith, a), omega (arith, a), λ e. omega (arith, a))
listed_long false p ps g gs =
    let a = length-append (element_text (element_for p g)) (listed element_text true (elements_for ps gs)) in
    (omega (arith, a), omega (arith, a), λ e. true-is-not-false e)

taking_more : (p : TextPair) (ps : List TextPair) (g : Group) (gs : List Group)
    → taking (p ∷ ps) (g ∷ gs) ≡ 71 + length (name_text p.serial) + texts_room p.texts + certificates_room (g.certificate ∷ g.issuers) + taking ps gs
unfolding taking pairs_spelled text_count groups_room
taking_more p ps g gs = omega (arith, length-append (pair_spelled p) (pairs_spelled ps), pair_long p)

upper : (more : Bool) (ps : List TextPair) (gs : List Group) → GoodPairs ps → length gs ≡ length ps → elements_long more ps gs ≤ taking ps gs
unfolding listed elements_for
upper more [] gs h l = omega arith
upper more (p ∷ ps) [] h l = absurd (omega (arith, l))
upper more (p ∷ ps) (g ∷ gs) (also a h) l =
    omega (arith, (listed_long more p ps g gs).0, (element_room p g).0, taking_more p ps g gs, (serial_size p a).0, upper true ps gs h (omega (arith, l)))

lower : (ps : List TextPair) (gs : List Group) → GoodPairs ps → length gs ≡ length ps → taking ps gs ≤ elements_long true ps gs + 34 * length ps
unfolding taking pairs_spelled text_count groups_room
lower [] [] h l = omega arith
lower [] (g ∷ gs) h l = absurd (omega (arith, l))
lower (p ∷ ps) [] h l = absurd (omega (arith, l))
lower (p ∷ ps) (g ∷ gs) (also a h) l =
    omega (arith, (listed_long true p ps g gs).2 refl, (element_room p g).1, taking_more p ps g gs, (serial_size p a).1, lower ps gs h (omega (arith, l)))

one_less : (ps : List TextPair) (gs : List Group) → elements_long true ps gs ≤ 1 + elements_long false ps gs
unfolding listed elements_for
one_less [] gs = omega arith
one_less (p ∷ ps) [] = omega arith
one_less (p ∷ ps) (g ∷ gs) = omega arith

text_long : (es : List Element) → length (export_text es) ≡ 20 + length (listed element_text false es)
unfolding export_text opening ending ascii
text_long es = omega (arith, length-append opening (listed element_text false es ++ ending), length-append (listed element_text false es) ending)

-- ---- the state

module _ {j key : List ℕ} {n : ℕ} (v : Valid j key n) where
  texts_of : (ps : List Pair) → text_count (map (text_pair v.owner n) ps) ≡ length (entries_in ps)
  unfolding text_count entries_in text_pair
  texts_of [] = refl
  texts_of (p ∷ ps) = omega (arith, length-map p.entries (compact (settings_for v.owner p.serial) n), length-append p.entries (entries_in ps), texts_of ps)

  state_taken : (take_over j key n).state ≡ state_after v.owner key n v.pairs
  unfolding accepted
  state_taken = ap (λ (t : TakenOver). t.state) (state_of_journal j key n v)

  state_issued : (take_over j key n).state.issued ≡ text_count (pairs_of j)
  unfolding state_after
  state_issued = ap (λ (s : State). s.issued) state_taken ∙ sym (texts_of v.pairs) ∙ ap text_count (sym (valid_pairs v))

  state_length : (take_over j key n).state.length ≡ length j
  unfolding state_after
  state_length = ap (λ (s : State). s.length) state_taken ∙ ap length (sym v.bytes)

  owner_size : (12 ≤ length (owner_text v.owner)) × (length (owner_text v.owner) ≤ 43)
  unfolding owner_text
  owner_size =
      let o = v.owner in
      let g = v.good in
      let i = good_name Id o.id g.id in
      let a = length-append (section o.csp) (section (name_text o.id)) in
      let l = length_text o.id g.typed_id.long i.most in (
        omega (arith, a, l, i.some, g.typed_csp, length_section o.csp, length_section (name_text o.id)),
        omega (arith, a, l, i.most, g.typed_csp, length_section o.csp, length_section (name_text o.id)),
      )

  journal_long : length j ≡ length (owner_text v.owner) + length (pairs_spelled (pairs_of j))
  unfolding journal_spelled
  journal_long =
      ap length (valid_spelled v) ∙ length-append (owner_text v.owner) (pairs_spelled (map (text_pair v.owner n) v.pairs))
      ∙ ap (λ (l : List TextPair). length (owner_text v.owner) + length (pairs_spelled l)) (sym (valid_pairs v))

  pairs_good : GoodPairs (pairs_of j)
  pairs_good = subst GoodPairs (sym (valid_pairs v)) (valid_good v)

  module _ (gs : List Group) (count : length gs ≡ length (pairs_of j)) where
    room_is : export_room (take_over j key n).state gs ≡ 8 + length (owner_text v.owner) + taking (pairs_of j) gs
    unfolding export_room taking
    room_is = omega (arith, state_length, state_issued, used_pairs v, journal_long)

    room_fits : length (export_text (elements_for (pairs_of j) gs)) ≤ export_room (take_over j key n).state gs
    room_fits = omega (arith, room_is, text_long (elements_for (pairs_of j) gs), upper false (pairs_of j) gs pairs_good count, owner_size.0)

    room_close : export_room (take_over j key n).state gs ≤ length (export_text (elements_for (pairs_of j) gs)) + 32 + 34 * length (pairs_of j)
    room_close =
        omega (arith, room_is, text_long (elements_for (pairs_of j) gs), lower (pairs_of j) gs pairs_good count, one_less (pairs_of j) gs, owner_size.1)

pub export_room_is_enough : ExportRoomIsEnough
export_room_is_enough = record { fits = fits; close = close; written = written }
  where
    fits : (j key : List ℕ) (n : ℕ) (gs : List Group) → AllBytes j → (take_over j key n).number ≡ 0 → length gs ≡ length (pairs_of j)
        → length (export_text (elements_for (pairs_of j) gs)) ≤ export_room (take_over j key n).state gs
    fits j key n gs b z count = room_fits (accepted_valid j key n b z) gs count

    close : (j key : List ℕ) (n : ℕ) (gs : List Group) → AllBytes j → (take_over j key n).number ≡ 0 → length gs ≡ length (pairs_of j)
        → export_room (take_over j key n).state gs ≤ length (export_text (elements_for (pairs_of j) gs)) + 32 + 34 * length (pairs_of j)
    close j key n gs b z count = room_close (accepted_valid j key n b z) gs count

    written : (j key : List ℕ) (n : ℕ) (gs : List Group) (out : List ℕ) → AllBytes j → (take_over j key n).number ≡ 0 → length gs ≡ length (pairs_of j)
        → every group_good gs ≡ true → export_room (take_over j key n).state gs ≤ length out → (exported j key n (groups_text gs) out).number ≡ 0
    written j key n gs out b z count good h =
        ap (λ (x : Exported). x.number) (written_exactly.always j key n gs out z count good (omega (arith, fits j key n gs b z count, h))).0
