-- The answers of both calls are those of the questions in their order.
use Rattle.std.proofs.Common.{ℕ, zero, suc, ◌+◌, ◌≤◌, ◌≡◌, refl, sym, ap, ◌∙◌, subst, Bool, true, false, cond, ◌&&◌, List, [], ◌∷◌, ◌++◌, map, ◌↔◌, ◌⊎◌, inl, inr, arith, le-leb, leb-true, leb, length}
use mathlib.Core.Option
use mathlib.Core.Option.{Option, none, some}
use Rattle.primitives.specs.Bytes.{AllBytes}
use Rattle.primitives.specs.Place.{overwrite, room}
use Rattle.primitives.specs.Base64.{accepted, bytes, unpadded, decoding}
use Rattle.primitives.specs.Answers.{written, answer_with}
use Rattle.primitives.specs.Questions.{ask, ifZero, Row, asked_all, question, AllYes, FirstNoIs, GivesFirstNo}
use Rattle.primitives.specs.declared.base64.Alphabet.TheVariants.{Standard}
use Rattle.primitives.specs.Answers.{Answer}
use Rattle.primitives.proofs.Rows.{both, true-is-not-false, ifZero-yes, ifZero-no}
use Rattle.primitives.proofs.FirstNo.{gives_none, gives_ask, gives_same}
use Rattle.primitives.proofs.Laws.{decoding_is_exact}
use Rattle.receipt.specs.declared.settings.Settings.{Settings}
use Rattle.journal.specs.Checking.{take_over}
use Rattle.journal.specs.declared.state.TakenOver.{TakenOver}
use Rattle.exports.specs.Text.{plain, every}
use Rattle.exports.specs.Shape.{Element, Shape}
use Rattle.exports.specs.Parsed.{elements_of}
use Rattle.exports.specs.Spelled.{short, some_of, journal_spelled, pairs_of}
use Rattle.exports.specs.Groups.{Group, group_good, groups_of}
use Rattle.exports.specs.Naming.{named}
use Rattle.exports.specs.Reading.{canonical, element_good, has_receipt, first_of, settings_of, names_register, owner_of, pair_of, journal_of_elements, survey_number, elements_number, not_read, restored_from, restored_by, restored, journal_by, restored_buffer}
use Rattle.exports.specs.Writing.{elements_for, export_text, export_of, exported, export_buffer}
use Rattle.exports.specs.InOrder.{AtEach, InBase64, CanonicalIsEncoding, UpTo65535, GoodElement, GoodText, HasReceipt, FirstNames, NamesSome, NamedBy, nothing, also, pairs_by, SpellJournal, questions_before, questions_of_reading, TakenAs, ReadingAnswers, GroupFits, GroupsFor, questions_of_writing, WritingAnswers}
use Rattle.exports.specs.Naming.{Named}
use Rattle.exports.specs.Writing.{Exported}
use Rattle.exports.specs.Reading.{Restored}
use Rattle.exports.proofs.Unique.{exact, one_reading}
use Rattle.exports.proofs.Sized.{every_nil, every_one, every_head, every_tail}
use Rattle.exports.proofs.PlainLetters.{canonical_encoding}
use Rattle.exports.proofs.NamedExactly.{first_receipt_exactly}
use Rattle.exports.proofs.Plainly.{PlainElement, AllPlain, shape_plain, plain_bytes}
use Rattle.exports.proofs.RoomEnough.{some_element}
use Rattle.exports.proofs.GroupsBack.{groups_exactly, one_list_of_groups}
use Rattle.exports.proofs.ReadBack.{exported_taken, exported_refused, restored_is}
use Rattle.exports.proofs.Promising.{written_exactly}

-- ---- at each place of a list

module _ {A : Type 0} (good : A → Bool) where
  every_mid : (before : List A) (x : A) (after : List A) → every good (before ++ (x ∷ after)) ≡ true → good x ≡ true
  every_mid [] x after h = every_head good x after h
  every_mid (y ∷ before) x after h = every_mid before x after (every_tail good y (before ++ (x ∷ after)) h)

  at_every : (P : A → Type 0) → ((x : A) → good x ≡ true → P x) → (xs : List A) → every good xs ≡ true → AtEach P xs
  at_every P to xs h before x after e = to x (every_mid before x after (subst (λ (l : List A). every good l ≡ true) e h))

  every_at : (P : A → Type 0) → ((x : A) → P x → good x ≡ true) → (xs : List A) → AtEach P xs → every good xs ≡ true
  every_at P of [] h = every_nil good
  every_at P of (x ∷ xs) h =
      every_one good x xs (of x (h [] x xs refl)) (every_at P of xs (λ before y after e. h (x ∷ before) y after (ap (λ (l : List A). x ∷ l) e)))

-- and where something is known of each
module _ {A : Type 0} (known good : A → Bool) (P : A → Type 0) where
  at_known : ((x : A) → known x ≡ true → good x ≡ true → P x) → (xs : List A) → every known xs ≡ true → every good xs ≡ true → AtEach P xs
  at_known to xs k h before x after e =
      to x (every_mid known before x after (subst (λ (l : List A). every known l ≡ true) e k)) (every_mid good before x after (subst (λ (l : List A). every good l ≡ true) e h))

  known_at : ((x : A) → known x ≡ true → P x → good x ≡ true) → (xs : List A) → every known xs ≡ true → AtEach P xs → every good xs ≡ true
  known_at of [] k h = every_nil good
  known_at of (x ∷ xs) k h =
      every_one good x xs (of x (every_head known x xs k) (h [] x xs refl))
      (known_at of xs (every_tail known x xs k) (λ before y after e. h (x ∷ before) y after (ap (λ (l : List A). x ∷ l) e)))

module _ (good : Element → Bool) (P : Element → Type 0) where
  at_plain : ((e : Element) → PlainElement e → good e ≡ true → P e) → (es : List Element) → AllPlain es → every good es ≡ true → AtEach P es
  at_plain to es k h before x after e =
      go before (subst AllPlain e k) (subst (λ (l : List Element). every good l ≡ true) e h)
    where
      go : (before : List Element) → AllPlain (before ++ (x ∷ after)) → every good (before ++ (x ∷ after)) ≡ true → P x
      go [] k h = to x k.0 (every_head good x after h)
      go (y ∷ before) k h = go before k.1 (every_tail good y (before ++ (x ∷ after)) h)

  plain_at : ((e : Element) → PlainElement e → P e → good e ≡ true) → (es : List Element) → AllPlain es → AtEach P es → every good es ≡ true
  plain_at of [] k h = every_nil good
  plain_at of (x ∷ es) k h =
      every_one good x es (of x k.0 (h [] x es refl))
      (plain_at of es k.1 (λ before y after e. h (x ∷ before) y after (ap (λ (l : List Element). x ∷ l) e)))

-- ---- 28: each element is good

decoded : (w : List ℕ) → accepted Standard w ≡ true → decoding Standard w ≡ some (bytes Standard (unpadded Standard w))
unfolding decoding
decoded w h = rw h

pub canonical_is_encoding : CanonicalIsEncoding
canonical_is_encoding w b = (only, always)
  where
    only : canonical w ≡ true → InBase64 w
    only h =
        let d = (decoding_is_exact Standard w (bytes Standard (unpadded Standard w)) b).0 (decoded w h) in
        record { bytes = bytes Standard (unpadded Standard w); typed = d.0; is = d.1 }

    always : InBase64 w → canonical w ≡ true
    always c = subst (λ (l : List ℕ). canonical l ≡ true) (sym c.is) (canonical_encoding c.bytes c.typed)

canonical_plain : (w : List ℕ) → every plain w ≡ true → (canonical w ≡ true) ↔ InBase64 w
canonical_plain w h = canonical_is_encoding w (plain_bytes w h)

short_is : (w : List ℕ) → (short w ≡ true) ↔ UpTo65535 w
unfolding short
short_is w = (leb-true (length w) 65535, le-leb (length w) 65535)

good_element : (e : Element) → PlainElement e → element_good e ≡ true → GoodElement e
unfolding element_good
good_element e p h =
    let a = both (canonical e.certificate && every canonical e.issuers) (every short e.receipts && leb (length e.receipts) 4294967295) h in
    let c = both (canonical e.certificate) (every canonical e.issuers) a.0 in
    let r = both (every short e.receipts) (leb (length e.receipts) 4294967295) a.1 in
    record {
      certificate = (canonical_plain e.certificate p.certificate).0 c.0;
      issuers = at_known (every plain) canonical InBase64 (λ w k x. (canonical_plain w k).0 x) e.issuers p.issuers c.1;
      receipts = at_every short UpTo65535 (λ w x. (short_is w).0 x) e.receipts r.0;
      count = leb-true (length e.receipts) 4294967295 r.1;
    }

element_good_lem : (e : Element) → PlainElement e → GoodElement e → element_good e ≡ true
unfolding element_good
element_good_lem e p g =
    let c = (canonical_plain e.certificate p.certificate).1 g.certificate in
    let i = known_at (every plain) canonical InBase64 (λ w k x. (canonical_plain w k).1 x) e.issuers p.issuers g.issuers in
    let r = every_at short UpTo65535 (λ w x. (short_is w).1 x) e.receipts g.receipts in
    let l = le-leb (length e.receipts) 4294967295 g.count in
    rw (c, i, r, l)

-- ---- 29: each has a receipt

has_receipt_lem : (e : Element) → has_receipt e ≡ true → HasReceipt e
unfolding has_receipt
has_receipt_lem e h = go e.receipts refl h
  where
    go : (ws : List (List ℕ)) → e.receipts ≡ ws → some_of ws ≡ true → HasReceipt e
    go [] q h = true-is-not-false h
    go (w ∷ ws) q h = record { first = w; later = ws; are = q }

receipt_has : (e : Element) → HasReceipt e → has_receipt e ≡ true
unfolding has_receipt
receipt_has e h = ap (λ (ws : List (List ℕ)). some_of ws) h.are

-- ---- 28: each names a register by its first receipt

named_good : (n : Named) → n.good ≡ true → n ≡ record { good = true; settings = n.settings }
named_good n h = λ i. record { good = h i; settings = n.settings }

first_bytes : (e : Element) → PlainElement e → (w : List ℕ) (ws : List (List ℕ)) → e.receipts ≡ w ∷ ws → AllBytes w
first_bytes e p w ws q = plain_bytes w (every_head (every plain) w ws (subst (λ (l : List (List ℕ)). every (every plain) l ≡ true) q p.receipts))

module _ (e : Element) (p : PlainElement e) where
  names_some : has_receipt e ≡ true → names_register e ≡ true → FirstNames e (settings_of e)
  unfolding names_register settings_of
  names_some r h =
      let f = has_receipt_lem e r in
      let q : first_of e.receipts ≡ f.first = ap first_of f.are in
      let n : named f.first ≡ named (first_of e.receipts) = ap named (sym q) in
      record {
        first = f.first;
        later = f.later;
        are = f.are;
        names = (first_receipt_exactly f.first (named (first_of e.receipts)).settings (first_bytes e p f.first f.later f.are)).0
            (n ∙ named_good (named (first_of e.receipts)) h);
      }

  names_is : (s : Settings) → FirstNames e s → named (first_of e.receipts) ≡ record { good = true; settings = s }
  names_is s f =
      ap named (ap first_of f.are) ∙ (first_receipt_exactly f.first s (first_bytes e p f.first f.later f.are)).1 f.names

  names_register_lem : NamesSome e → names_register e ≡ true
  unfolding names_register
  names_register_lem n = ap (λ (x : Named). x.good) (names_is n.0 n.1)

  names_settings : (s : Settings) → FirstNames e s → settings_of e ≡ s
  unfolding settings_of
  names_settings s f = ap (λ (x : Named). x.settings) (names_is s f)

-- ---- 23: the journal that they spell

pairs_by_lem : {es : List Element} {ss : List Settings} → AllPlain es → NamedBy es ss → pairs_by es ss ≡ map pair_of es
unfolding pairs_by pair_of
pairs_by_lem p nothing = refl
pairs_by_lem p (also {e} {s} f n) = λ i. record { serial = (sym (names_settings e p.0 s f) i).serial; texts = e.receipts } ∷ pairs_by_lem p.1 n i

owner_by : {es : List Element} {s : Settings} {ss : List Settings} → AllPlain es → NamedBy es (s ∷ ss) → record { csp = s.csp; id = s.id } ≡ owner_of es
unfolding owner_of
owner_by p (also {e} {s} f n) = λ i. record { csp = (sym (names_settings e p.0 s f) i).csp; id = (sym (names_settings e p.0 s f) i).id }

journal_by_lem : (es : List Element) (j : List ℕ) → AllPlain es → SpellJournal es j → j ≡ journal_of_elements es
unfolding journal_of_elements
journal_by_lem es j p s = s.bytes ∙ (λ i. journal_spelled (owner_by p s.named i) (pairs_by_lem p s.named i))

named_by : (es : List Element) → AllPlain es → every has_receipt es ≡ true → every names_register es ≡ true → NamedBy es (map settings_of es)
named_by [] p r h = nothing
named_by (e ∷ es) p r h =
    also (names_some e p.0 (every_head has_receipt e es r) (every_head names_register e es h))
    (named_by es p.1 (every_tail has_receipt e es r) (every_tail names_register e es h))

spell_journal : (es : List Element) → AllPlain es → (es ≡ [] → ⊥) → every has_receipt es ≡ true → every names_register es ≡ true → SpellJournal es (journal_of_elements es)
unfolding journal_of_elements
spell_journal [] p n r h = absurd (n refl)
spell_journal (e ∷ es) p n r h =
    let b = named_by (e ∷ es) p r h in
    record {
      first = settings_of e;
      later = map settings_of es;
      named = b;
      bytes = sym (λ i. journal_spelled (owner_by p b i) (pairs_by_lem p b i));
    }

-- ---- rows one after the other

abbrev then : Row → Row → Row
then asked_all tail = tail
then (question q k row) tail = question q k (then row tail)

all_join : (row tail : Row) → AllYes row → AllYes tail → AllYes (then row tail)
all_join asked_all tail y z = z
all_join (question q k row) tail y z = (y.0, all_join row tail y.1 z)

all_part : (row tail : Row) → AllYes (then row tail) → AllYes row × AllYes tail
all_part asked_all tail y = (tt, y)
all_part (question q k row) tail y = let r = all_part row tail y.1 in ((y.0, r.0), r.1)

first_left : (row tail : Row) (m : ℕ) → FirstNoIs row m → FirstNoIs (then row tail) m
first_left asked_all tail m f = absurd f
first_left (question q k row) tail m (inl f) = inl f
first_left (question q k row) tail m (inr f) = inr (f.0, first_left row tail m f.1)

first_right : (row tail : Row) (m : ℕ) → AllYes row → FirstNoIs tail m → FirstNoIs (then row tail) m
first_right asked_all tail m y f = f
first_right (question q k row) tail m y f = inr (y.0, first_right row tail m y.1 f)

first_part : (row tail : Row) (m : ℕ) → FirstNoIs (then row tail) m → FirstNoIs row m ⊎ (AllYes row × FirstNoIs tail m)
first_part asked_all tail m f = inr (tt, f)
first_part (question q k row) tail m (inl f) = inl (inl f)
first_part (question q k row) tail m (inr f) = go (first_part row tail m f.1)
  where
    go : FirstNoIs row m ⊎ (AllYes row × FirstNoIs tail m) → FirstNoIs (question q k row) m ⊎ (AllYes (question q k row) × FirstNoIs tail m)
    go (inl g) = inl (inr (f.0, g))
    go (inr g) = inr ((f.0, g.0), g.1)

all_not_first : (row : Row) (m : ℕ) → AllYes row → FirstNoIs row m → ⊥
all_not_first asked_all m y f = f
all_not_first (question q k row) m y (inl f) = f.0 y.0
all_not_first (question q k row) m y (inr f) = all_not_first row m y.1 f.1

-- the questions of a row, and then those of another
gives_then : (x m : ℕ) (row tail : Row) → GivesFirstNo x row → (AllYes row → GivesFirstNo m tail) → GivesFirstNo (ifZero x m x) (then row tail)
unfolding ifZero
gives_then zero m row tail g h =
    let y = g.none refl in
    record {
      none = λ e. all_join row tail y ((h y).none e);
      all = λ a. (h y).all (all_part row tail a).1;
      some = λ n. first_right row tail m y ((h y).some n);
      first = λ k f. go k (first_part row tail k f);
    }
  where
    go : (k : ℕ) → FirstNoIs row k ⊎ (AllYes row × FirstNoIs tail k) → m ≡ k
    go k (inl f) = absurd (all_not_first row k (g.none refl) f)
    go k (inr f) = (h f.0).first k f.1
gives_then (suc x) m row tail g h =
    record {
      none = λ e. absurd (omega (arith, e));
      all = λ a. g.all (all_part row tail a).0;
      some = λ n. first_left row tail (suc x) (g.some n);
      first = λ k f. go k (first_part row tail k f);
    }
  where
    go : (k : ℕ) → FirstNoIs row k ⊎ (AllYes row × FirstNoIs tail k) → suc x ≡ k
    go k (inl f) = g.first k f
    go k (inr f) = let z = g.all f.0 in absurd (omega (arith, z))

-- a number of its own: 0 is a yes
gives_number : (m : ℕ) → GivesFirstNo m (question (m ≡ 0) m asked_all)
gives_number m =
    record {
      none = λ e. (e, tt);
      all = λ y. y.0;
      some = λ n. inl (n, refl);
      first = first;
    }
  where
    first : (k : ℕ) → FirstNoIs (question (m ≡ 0) m asked_all) k → m ≡ k
    first k (inl f) = sym f.1
    first k (inr f) = absurd f.1

-- ---- reading: the questions of a text that spells elements

module _ (text : List ℕ) (es : List Element) (s : Shape text es) where
  same_elements : (fs : List Element) → Shape text fs → fs ≡ es
  same_elements fs x = one_reading text fs es x s

  all_plain : AllPlain es
  all_plain = shape_plain text es s

  there : (fs : List Element) → some_of fs ≡ true → fs ≡ [] → ⊥
  there [] h e = true-is-not-false h
  there (x ∷ fs) h e = let z : ◌≡◌ {A = ℕ} 0 1 = cc in omega arith

  good_yes : (some_of es && every element_good es) ≡ true → GoodText text
  good_yes h =
      let b = both (some_of es) (every element_good es) h in
      record { elements = es; shape = s; some = there es b.0; good = at_plain element_good GoodElement good_element es all_plain b.1 }

  good_no : GoodText text → (some_of es && every element_good es) ≡ true
  good_no g =
      let e = same_elements g.elements g.shape in
      let a = some_element es (λ n. g.some (e ∙ n)) in
      let b = plain_at element_good GoodElement element_good_lem es all_plain (subst (AtEach GoodElement) e g.good) in
      rw (a, b)

  some_yes : every has_receipt es ≡ true → (fs : List Element) → Shape text fs → AtEach HasReceipt fs
  some_yes h fs x = subst (AtEach HasReceipt) (sym (same_elements fs x)) (at_every has_receipt HasReceipt has_receipt_lem es h)

  some_no : ((fs : List Element) → Shape text fs → AtEach HasReceipt fs) → every has_receipt es ≡ true
  some_no h = every_at has_receipt HasReceipt receipt_has es (h es s)

  named_each : every has_receipt es ≡ true → every names_register es ≡ true → AtEach NamesSome es
  named_each r h before x after e = go before (subst AllPlain e all_plain) (subst (λ (l : List Element). every has_receipt l ≡ true) e r) (subst (λ (l : List Element). every names_register l ≡ true) e h)
    where
      go : (before : List Element) → AllPlain (before ++ (x ∷ after)) → every has_receipt (before ++ (x ∷ after)) ≡ true → every names_register (before ++ (x ∷ after)) ≡ true → NamesSome x
      go [] k r h = (settings_of x, names_some x k.0 (every_head has_receipt x after r) (every_head names_register x after h))
      go (y ∷ before) k r h = go before k.1 (every_tail has_receipt y (before ++ (x ∷ after)) r) (every_tail names_register y (before ++ (x ∷ after)) h)

  names_yes : every has_receipt es ≡ true → every names_register es ≡ true → (fs : List Element) → Shape text fs → AtEach NamesSome fs
  names_yes r h fs x = subst (AtEach NamesSome) (sym (same_elements fs x)) (named_each r h)

  names_no : ((fs : List Element) → Shape text fs → AtEach NamesSome fs) → every names_register es ≡ true
  names_no h = plain_at names_register NamesSome names_register_lem es all_plain (h es s)

  journal_is : (fs : List Element) (j : List ℕ) → Shape text fs → SpellJournal fs j → j ≡ journal_of_elements es
  journal_is fs j x y =
      let e = same_elements fs x in
      journal_by_lem es j all_plain (subst (λ (l : List Element). SpellJournal l j) e y)

  fits_yes : (size : ℕ) → leb (length (journal_of_elements es)) size ≡ true → (fs : List Element) (j : List ℕ) → Shape text fs → SpellJournal fs j → length j ≤ size
  fits_yes size h fs j x y = omega (arith, leb-true (length (journal_of_elements es)) size h, ap length (journal_is fs j x y))

  journal_there : GoodText text → every has_receipt es ≡ true → every names_register es ≡ true → SpellJournal es (journal_of_elements es)
  journal_there g r n = spell_journal es all_plain (λ z. g.some (same_elements g.elements g.shape ∙ z)) r n

  fits_no : (size : ℕ) → GoodText text → every has_receipt es ≡ true → every names_register es ≡ true
      → ((fs : List Element) (j : List ℕ) → Shape text fs → SpellJournal fs j → length j ≤ size) → leb (length (journal_of_elements es)) size ≡ true
  fits_no size g r n h = le-leb (length (journal_of_elements es)) size (h es (journal_of_elements es) s (journal_there g r n))

  -- "28, .. 29, .. 28, then 23"
  before_gives : (size : ℕ) → GivesFirstNo (elements_number es size) (questions_before text size asked_all)
  unfolding elements_number survey_number
  before_gives size =
      gives_ask (some_of es && every element_good es) 27 _ (GoodText text) _ good_yes good_no (λ g.
      gives_ask (every has_receipt es) 28 _ ((fs : List Element) → Shape text fs → AtEach HasReceipt fs) _ some_yes some_no (λ r.
      gives_ask (every names_register es) 27 _ ((fs : List Element) → Shape text fs → AtEach NamesSome fs) _ (names_yes (some_no r)) names_no (λ n.
      gives_ask (leb (length (journal_of_elements es)) size) 22 0 ((fs : List Element) (j : List ℕ) → Shape text fs → SpellJournal fs j → length j ≤ size) asked_all
      (fits_yes size) (fits_no size g (some_no r) (names_no n)) (λ f. gives_none))))

  -- every answer before Take over is yes: the journal is there
  journal_yes : (size : ℕ) → AllYes (questions_before text size asked_all) → SpellJournal es (journal_of_elements es)
  journal_yes size y = journal_there y.0 (some_no y.1.0) (names_no y.1.1.0)

-- a text that spells no elements
none_gives : (text : List ℕ) (size : ℕ) → ((es : List Element) → Shape text es → ⊥) → GivesFirstNo 28 (questions_before text size asked_all)
none_gives text size h =
    record {
      none = λ e. absurd (omega (arith, e));
      all = λ y. absurd (h y.0.elements y.0.shape);
      some = λ n. inl (λ g. h g.elements g.shape, refl);
      first = first;
    }
  where
    first : (k : ℕ) → FirstNoIs (questions_before text size asked_all) k → 28 ≡ k
    first k (inl f) = sym f.1
    first k (inr f) = absurd (h f.0.elements f.0.shape)

not_read_number : (k i : ℕ) → (not_read k i).number ≡ k
unfolding not_read
not_read_number k i = refl

from_number : (t : TakenOver) (l : ℕ) → (restored_from t l).number ≡ t.number
from_number t l = go t.number refl
  where
    go : (m : ℕ) → t.number ≡ m → (restored_from t l).number ≡ t.number
    go zero q = ap (λ (r : Restored). r.number) (ifZero-yes _ _ q) ∙ sym q
    go (suc m) q = ap (λ (r : Restored). r.number) (ifZero-no t.number _ _ (λ z. omega (arith, z, q))) ∙ not_read_number t.number t.index

by_number : (es : List Element) (key : List ℕ) (n size : ℕ)
    → (restored_by (some es) key n size).number ≡ ifZero (elements_number es size) (take_over (journal_of_elements es) key n).number (elements_number es size)
by_number es key n size = go (elements_number es size) refl
  where
    go : (m : ℕ) → elements_number es size ≡ m
        → (restored_by (some es) key n size).number ≡ ifZero (elements_number es size) (take_over (journal_of_elements es) key n).number (elements_number es size)
    go zero q =
        ap (λ (r : Restored). r.number) (ifZero-yes _ _ q) ∙ from_number (take_over (journal_of_elements es) key n) (length (journal_of_elements es)) ∙ sym (ifZero-yes _ _ q)
    go (suc m) q =
        let z : elements_number es size ≡ 0 → ⊥ = λ z. omega (arith, z, q) in
        ap (λ (r : Restored). r.number) (ifZero-no (elements_number es size) _ _ z) ∙ not_read_number (elements_number es size) 0 ∙ sym (ifZero-no (elements_number es size) _ _ z)

module _ (text key : List ℕ) (n size : ℕ) where
  restored_none : elements_of text ≡ none → restored text key n size ≡ not_read 28 0
  unfolding restored
  restored_none q = ap (λ (o : Option (List Element)). restored_by o key n size) q

  restored_some : (es : List Element) → elements_of text ≡ some es → restored text key n size ≡ restored_by (some es) key n size
  restored_some es q = restored_is text key n size es q

  no_shape : elements_of text ≡ none → (es : List Element) → Shape text es → ⊥
  no_shape q es s = let e = sym q ∙ (exact text es).1 s in let z : ◌≡◌ {A = ℕ} 0 1 = cc in omega arith

buffer_read : (text key : List ℕ) (n : ℕ) (out : List ℕ) (es : List Element) (j : List ℕ) → elements_of text ≡ some es → j ≡ journal_of_elements es
    → (restored text key n (length out)).number ≡ 0 → restored_buffer text key n out ≡ overwrite out 0 j
unfolding restored_buffer
buffer_read text key n out es j q e z = ifZero-yes _ _ z ∙ ap (overwrite out 0) (ap journal_by q ∙ sym e)

pub reading_answers : ReadingAnswers
reading_answers = record { number = number; before = before; after = after; read = read }
  where
    number : (text key : List ℕ) (n size : ℕ) (t : TakenOver) → TakenAs text key n t → GivesFirstNo (restored text key n size).number (questions_of_reading text size t)
    number text key n size t h = go (elements_of text) refl
      where
        go : (o : Option (List Element)) → elements_of text ≡ o → GivesFirstNo (restored text key n size).number (questions_of_reading text size t)
        go none q =
            gives_same _ (ap (λ (r : Restored). r.number) (restored_none text key n size q) ∙ not_read_number 28 0 ∙ sym (ifZero-no 28 t.number 28 (λ z. omega (arith, z))))
            (gives_then 28 t.number (questions_before text size asked_all) (question (t.number ≡ 0) t.number asked_all) (none_gives text size (no_shape text key n size q))
            (λ y. gives_number t.number))
        go (some es) q =
            let s = (exact text es).0 q in
            gives_same _ (ap (λ (r : Restored). r.number) (restored_some text key n size es q) ∙ by_number es key n size)
            (gives_then (elements_number es size) (take_over (journal_of_elements es) key n).number (questions_before text size asked_all)
            (question (t.number ≡ 0) t.number asked_all) (before_gives text es s size)
            (λ y. gives_same _ (ap (λ (x : TakenOver). x.number) (sym (h es (journal_of_elements es) s (journal_yes text es s size y)))) (gives_number t.number)))

    before : (text key : List ℕ) (n size k : ℕ) → FirstNoIs (questions_before text size asked_all) k → restored text key n size ≡ not_read k 0
    before text key n size k f = go (elements_of text) refl
      where
        go : (o : Option (List Element)) → elements_of text ≡ o → restored text key n size ≡ not_read k 0
        go none q = restored_none text key n size q ∙ ap (λ (m : ℕ). not_read m 0) ((none_gives text size (no_shape text key n size q)).first k f)
        go (some es) q =
            let g = before_gives text es ((exact text es).0 q) size in
            restored_some text key n size es q
            ∙ ifZero-no (elements_number es size) _ _ (λ z. all_not_first (questions_before text size asked_all) k (g.none z) f)
            ∙ ap (λ (m : ℕ). not_read m 0) (g.first k f)

    taken : (text key : List ℕ) (n size : ℕ) (es : List Element) → Shape text es → AllYes (questions_before text size asked_all)
        → restored text key n size ≡ restored_from (take_over (journal_of_elements es) key n) (length (journal_of_elements es))
    taken text key n size es s y = restored_some text key n size es ((exact text es).1 s) ∙ ifZero-yes _ _ ((before_gives text es s size).all y)

    after : (text key : List ℕ) (n size : ℕ) (t : TakenOver) → TakenAs text key n t → AllYes (questions_before text size asked_all) → (t.number ≡ 0 → ⊥)
        → restored text key n size ≡ not_read t.number t.index
    after text key n size t h y z =
        let es = y.0.elements in
        let s = y.0.shape in
        taken text key n size es s y
        ∙ ap (λ (x : TakenOver). restored_from x (length (journal_of_elements es))) (sym (h es (journal_of_elements es) s (journal_yes text es s size y)))
        ∙ ifZero-no t.number _ _ z

    read : (text key : List ℕ) (n : ℕ) (out : List ℕ) (es : List Element) (j : List ℕ) → Shape text es → SpellJournal es j
        → AllYes (questions_before text (length out) asked_all) → (take_over j key n).number ≡ 0
        → (restored text key n (length out) ≡ record { number = 0; index = 0; length = length j; state = (take_over j key n).state })
        × (restored_buffer text key n out ≡ overwrite out 0 j)
    read text key n out es j s w y z =
        let e = journal_is text es s es j s w in
        let a = taken text key n (length out) es s y ∙ ap (λ (l : List ℕ). restored_from (take_over l key n) (length l)) (sym e) ∙ ifZero-yes _ _ z in
        (a, buffer a)
      where
        buffer : restored text key n (length out) ≡ record { number = 0; index = 0; length = length j; state = (take_over j key n).state } → restored_buffer text key n out ≡ overwrite out 0 j
        buffer a =
            buffer_read text key n out es j ((exact text es).1 s) (journal_is text es s es j s w) (ap (λ (r : Restored). r.number) a)

-- ---- writing

group_fits : (g : Group) → (group_good g ≡ true) ↔ GroupFits g
unfolding group_good
group_fits g = (only, always)
  where
    only : (leb (length g.issuers) 254 && (short g.certificate && every short g.issuers)) ≡ true → GroupFits g
    only h =
        let a = both (leb (length g.issuers) 254) (short g.certificate && every short g.issuers) h in
        let b = both (short g.certificate) (every short g.issuers) a.1 in
        record {
          count = leb-true (length g.issuers) 254 a.0;
          certificate = (short_is g.certificate).0 b.0;
          issuers = at_every short UpTo65535 (λ w x. (short_is w).0 x) g.issuers b.1;
        }

    always : GroupFits g → (leb (length g.issuers) 254 && (short g.certificate && every short g.issuers)) ≡ true
    always f =
        let a = le-leb (length g.issuers) 254 f.count in
        let b = (short_is g.certificate).1 f.certificate in
        let c = every_at short UpTo65535 (λ w x. (short_is w).1 x) g.issuers f.issuers in
        rw (a, b, c)

groups_good : (gs : List Group) → AtEach GroupFits gs → every group_good gs ≡ true
groups_good gs h = every_at group_good GroupFits (λ g x. (group_fits g).1 x) gs h

good_groups : (gs : List Group) → every group_good gs ≡ true → AtEach GroupFits gs
good_groups gs h = at_every group_good GroupFits (λ g x. (group_fits g).0 x) gs h

module _ (j certificates out : List ℕ) where
  -- the groups that are read, or none are there
  pub record Found (o : Option (List ℕ)) : Type 0 where
    pub groups : List Group
    pub are : GroupsFor j certificates groups
    pub text : o ≡ some (export_text (elements_for (pairs_of j) groups))

  groups_found : Found (export_of j certificates) ⊎ ((export_of j certificates ≡ none) × ((gs : List Group) → GroupsFor j certificates gs → ⊥))
  unfolding export_of
  groups_found = go (groups_of (length (pairs_of j)) certificates) refl
    where
      go : (o : Option (List Group)) → groups_of (length (pairs_of j)) certificates ≡ o
          → Found (Option.map (λ (gs : List Group). export_text (elements_for (pairs_of j) gs)) (groups_of (length (pairs_of j)) certificates))
          ⊎ ((Option.map (λ (gs : List Group). export_text (elements_for (pairs_of j) gs)) (groups_of (length (pairs_of j)) certificates) ≡ none) × ((gs : List Group) → GroupsFor j certificates gs → ⊥))
      go none q =
          inr (
            ap (Option.map (λ (gs : List Group). export_text (elements_for (pairs_of j) gs))) q,
            λ gs f.
                let e = sym q ∙ (groups_exactly (length (pairs_of j)) certificates gs).1 (f.count, groups_good gs f.fit, f.bytes) in
                let z : ◌≡◌ {A = ℕ} 0 1 = cc in omega arith,
          )
      go (some gs) q =
          let g = (groups_exactly (length (pairs_of j)) certificates gs).0 q in
          inl (record { groups = gs; are = record { count = g.0; fit = good_groups gs g.1; bytes = g.2 }; text = ap (Option.map (λ (hs : List Group). export_text (elements_for (pairs_of j) hs))) q })

  one_list : (gs hs : List Group) → GroupsFor j certificates gs → GroupsFor j certificates hs → gs ≡ hs
  one_list gs hs g h = one_list_of_groups gs hs (groups_good gs g.fit) (groups_good hs h.fit) (sym g.bytes ∙ h.bytes)

  abbrev group_row : Row
  group_row =
      question ((gs : List Group) × GroupsFor j certificates gs) 28
      (question ((gs : List Group) → GroupsFor j certificates gs → length (export_text (elements_for (pairs_of j) gs)) ≤ length out) 23 asked_all)

  -- 23
  room_gives : (gs : List Group) → GroupsFor j certificates gs
      → GivesFirstNo (written out (export_text (elements_for (pairs_of j) gs))).number
      (question ((hs : List Group) → GroupsFor j certificates hs → length (export_text (elements_for (pairs_of j) hs)) ≤ length out) 23 asked_all)
  unfolding written room ask
  room_gives gs g = go (leb (0 + length (export_text (elements_for (pairs_of j) gs))) (length out)) refl
    where
      text_of : (hs : List Group) → GroupsFor j certificates hs → length (export_text (elements_for (pairs_of j) hs)) ≡ length (export_text (elements_for (pairs_of j) gs))
      text_of hs h = ap (λ (x : List Group). length (export_text (elements_for (pairs_of j) x))) (one_list hs gs h g)

      all_fit : length (export_text (elements_for (pairs_of j) gs)) ≤ length out → (hs : List Group) → GroupsFor j certificates hs → length (export_text (elements_for (pairs_of j) hs)) ≤ length out
      all_fit l hs h = omega (arith, l, text_of hs h)

      go : (b : Bool) → leb (0 + length (export_text (elements_for (pairs_of j) gs))) (length out) ≡ b
          → GivesFirstNo (cond {A = Answer} b (record { number = 0; length = length (export_text (elements_for (pairs_of j) gs)) }) (record { number = 23; length = 0 })).number
          (question ((hs : List Group) → GroupsFor j certificates hs → length (export_text (elements_for (pairs_of j) hs)) ≤ length out) 23 asked_all)
      go true q =
          gives_ask true 22 0 _ asked_all (λ e. all_fit (omega (arith, leb-true (0 + length (export_text (elements_for (pairs_of j) gs))) (length out) q)))
          (λ h. refl) (λ h. gives_none)
      go false q =
          gives_ask false 22 0 _ asked_all (λ e. true-is-not-false e)
          (λ h. sym q ∙ le-leb (0 + length (export_text (elements_for (pairs_of j) gs))) (length out) (omega (arith, h gs g))) (λ h. gives_none)

  -- "then comes 28 for any other buffer, then 23"
  groups_give : GivesFirstNo (answer_with 28 (export_of j certificates) out).number group_row
  unfolding ask
  groups_give = go groups_found
    where
      go : Found (export_of j certificates) ⊎ ((export_of j certificates ≡ none) × ((gs : List Group) → GroupsFor j certificates gs → ⊥))
          → GivesFirstNo (answer_with 28 (export_of j certificates) out).number group_row
      go (inl f) =
          gives_same _ (ap (λ (o : Option (List ℕ)). (answer_with 28 o out).number) f.text)
          (gives_ask true 27 (written out (export_text (elements_for (pairs_of j) f.groups))).number _ _ (λ e. (f.groups, f.are)) (λ q. refl) (λ q. room_gives f.groups f.are))
      go (inr f) =
          gives_same _ (ap (λ (o : Option (List ℕ)). (answer_with 28 o out).number) f.0)
          (gives_ask false 27 0 _ _ (λ e. true-is-not-false e) (λ q. absurd (f.1 q.0 q.1)) (λ q. absurd (f.1 q.0 q.1)))

-- a number of its own, and what is asked after it
gives_first : (m x : ℕ) (row : Row) → (m ≡ 0 → GivesFirstNo x row) → GivesFirstNo (ifZero m x m) (question (m ≡ 0) m row)
gives_first m x row h = gives_then m x (question (m ≡ 0) m asked_all) row (gives_number m) (λ y. h y.0)

pub writing_answers : WritingAnswers
writing_answers = record { number = number; refused = exported_refused; index = index; written = done }
  where
    number_is : (j key : List ℕ) (n : ℕ) (certificates out : List ℕ)
        → (exported j key n certificates out).number ≡ ifZero (take_over j key n).number (answer_with 28 (export_of j certificates) out).number (take_over j key n).number
    number_is j key n certificates out = go (take_over j key n).number refl
      where
        go : (m : ℕ) → (take_over j key n).number ≡ m
            → (exported j key n certificates out).number ≡ ifZero (take_over j key n).number (answer_with 28 (export_of j certificates) out).number (take_over j key n).number
        go zero q = ap (λ (x : Exported). x.number) (exported_taken j key n certificates out q) ∙ sym (ifZero-yes _ _ q)
        go (suc m) q =
            let z : (take_over j key n).number ≡ 0 → ⊥ = λ z. omega (arith, z, q) in
            ap (λ (x : Exported). x.number) (exported_refused j key n certificates out z) ∙ sym (ifZero-no (take_over j key n).number _ _ z)

    number : (j key : List ℕ) (n : ℕ) (certificates out : List ℕ)
        → GivesFirstNo (exported j key n certificates out).number (questions_of_writing j certificates out (take_over j key n))
    number j key n certificates out =
        gives_same _ (number_is j key n certificates out) (gives_first (take_over j key n).number (answer_with 28 (export_of j certificates) out).number _ (λ z. groups_give j certificates out))

    index : (j key : List ℕ) (n : ℕ) (certificates out : List ℕ) → (take_over j key n).number ≡ 0 → (exported j key n certificates out).index ≡ 0
    index j key n certificates out z = ap (λ (x : Exported). x.index) (exported_taken j key n certificates out z)

    done : (j key : List ℕ) (n : ℕ) (certificates out : List ℕ) (gs : List Group) → GroupsFor j certificates gs
        → AllYes (questions_of_writing j certificates out (take_over j key n))
        → (exported j key n certificates out ≡ record { number = 0; index = 0; length = length (export_text (elements_for (pairs_of j) gs)) })
        × (export_buffer j key n certificates out ≡ overwrite out 0 (export_text (elements_for (pairs_of j) gs)))
    done j key n certificates out gs g y =
        let w = written_exactly.always j key n gs out y.0 g.count (groups_good gs g.fit) (y.1.1.0 gs g) in (
          ap (λ (l : List ℕ). exported j key n l out) g.bytes ∙ w.0,
          ap (λ (l : List ℕ). export_buffer j key n l out) g.bytes ∙ w.1,
        )
