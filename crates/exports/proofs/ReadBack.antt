-- An export is read back into the journal that it was written from.
use Rattle.std.proofs.lemmas.List.{length-map}
use Rattle.std.proofs.Common.{ℕ, zero, suc, ◌+◌, ◌≤◌, ◌<◌, ◌≡◌, refl, sym, ap, ◌∙◌, subst, Bool, true, false, cond, List, [], ◌∷◌, ◌++◌, map, arith, le-leb, leb-true, leb, length, take, drop, take_at, drop_at}
use mathlib.Core.Option
use mathlib.Core.Option.{Option, none, some}
use Rattle.primitives.specs.Bytes.{AllBytes}
use Rattle.primitives.specs.Number.{bytes_of}
use Rattle.primitives.specs.Place.{overwrite, room, placed}
use Rattle.primitives.specs.Answers.{written, answer_with, bufferWith}
use Rattle.primitives.specs.Questions.{ask}
use Rattle.primitives.specs.declared.base64.Alphabet.TheVariants.{Standard}
use Rattle.primitives.specs.Answers.{Answer}
use Rattle.primitives.proofs.Rows.{true-is-not-false, ifZero-yes, ifZero-no}
use Rattle.primitives.proofs.ByteLists.{bytes_take, bytes_drop}
use Rattle.receipt.specs.Settings.{TypedSettings, settings_good}
use Rattle.receipt.specs.Compact.{compact}
use Rattle.receipt.specs.declared.settings.Name.{Name}
use Rattle.receipt.specs.declared.entry.Entry.{Entry}
use Rattle.journal.specs.Head.{entry_text}
use Rattle.journal.specs.Valid.{Owner, Pair, settings_for, placed_under, all_placed, GoodOwner, Valid}
use Rattle.journal.specs.Checking.{take_over}
use Rattle.journal.proofs.Placing.{Core, AllRight, Names, run_core, start_core, right_split}
use Rattle.journal.proofs.Placing as placing
use Rattle.journal.proofs.Passing.{typed_for, good_for}
use Rattle.journal.proofs.Accepting.{valid_work}
use Rattle.journal.proofs.WrittenIsAccepted.{accepted_is_valid}
use Rattle.exports.specs.Text.{every}
use Rattle.exports.specs.Shape.{Element, plain_element}
use Rattle.exports.specs.Parsed.{elements_of}
use Rattle.exports.specs.Spelled.{short, is_empty, TextPair, sized_texts, journal_spelled, GoodPair, GoodPairs, pairs_of}
use Rattle.exports.specs.Spelled as spelled
use Rattle.exports.specs.Groups.{Group, group_text, groups_text, groups_of}
use Rattle.exports.specs.GroupLaws.{text_pair}
use Rattle.exports.specs.Naming.{named}
use Rattle.exports.specs.Writing.{in_base64, element_for, elements_for, export_text, export_of, answered, not_written, exported, export_buffer}
use Rattle.exports.specs.Reading.{canonical, element_good, has_receipt, settings_of, names_register, owner_of, pair_of, journal_of_elements, survey_number, elements_number, restored_by, restored, restored_buffer, journal_by}
use Rattle.exports.specs.Promises.{has_text, ExportReadsBack}
use Rattle.exports.specs.Naming.{Named}
use Rattle.exports.specs.Writing.{Exported}
use Rattle.exports.specs.Reading.{Restored}
use Rattle.exports.proofs.Sized.{every_nil, every_one, every_head, every_tail}
use Rattle.exports.proofs.NamedBack.{named_back}
use Rattle.exports.proofs.PlainLetters.{plain_encoding, plain_compact, plain_each, canonical_encoding}
use Rattle.exports.proofs.PlainText.{plain_text_lem}
use Rattle.exports.proofs.Back.{reads_back}
use Rattle.exports.proofs.PairsBack.{valid_spelled, valid_good, valid_pairs}
use Rattle.exports.proofs.GroupsBack.{groups_exactly}

-- ---- the certificates of groups are bytes

-- each certificate of a group
pub data EachBytes : List (List ℕ) → Type 0 where
  nothing : EachBytes []
  also : {t : List ℕ} {ts : List (List ℕ)} → AllBytes t → EachBytes ts → EachBytes (t ∷ ts)

front_bytes : (xs ys : List ℕ) → AllBytes (xs ++ ys) → AllBytes xs
front_bytes xs ys b = subst AllBytes (take_at xs ys (length xs) refl) (bytes_take (length xs) b)

tail_bytes : (xs ys : List ℕ) → AllBytes (xs ++ ys) → AllBytes ys
tail_bytes xs ys b = subst AllBytes (drop_at xs ys (length xs) refl) (bytes_drop (length xs) b)

texts_bytes : (ts : List (List ℕ)) → AllBytes (sized_texts ts) → EachBytes ts
unfolding sized_texts entry_text
texts_bytes [] b = nothing
texts_bytes (t ∷ ts) b = also (tail_bytes (bytes_of 2 (length t)) t (front_bytes (entry_text t) (sized_texts ts) b)) (texts_bytes ts (tail_bytes (entry_text t) (sized_texts ts) b))

pub record GroupBytes (g : Group) : Type 0 where
  pub certificate : AllBytes g.certificate
  pub issuers : EachBytes g.issuers

group_bytes : (g : Group) → AllBytes (group_text g) → GroupBytes g
unfolding group_text
group_bytes g b = go (texts_bytes (g.certificate ∷ g.issuers) (bytes_drop 1 b))
  where
    go : EachBytes (g.certificate ∷ g.issuers) → GroupBytes g
    go (also c i) = record { certificate = c; issuers = i }

pub data AllGroupBytes : List Group → Type 0 where
  done : AllGroupBytes []
  next : {g : Group} {gs : List Group} → GroupBytes g → AllGroupBytes gs → AllGroupBytes (g ∷ gs)

groups_bytes : (gs : List Group) → AllBytes (groups_text gs) → AllGroupBytes gs
unfolding groups_text
groups_bytes [] b = done
groups_bytes (g ∷ gs) b = next (group_bytes g (front_bytes (group_text g) (groups_text gs) b)) (groups_bytes gs (tail_bytes (group_text g) (groups_text gs) b))

each_canonical : (ts : List (List ℕ)) → EachBytes ts → every canonical (map in_base64 ts) ≡ true
each_canonical [] nothing = every_nil canonical
each_canonical (t ∷ ts) (also b bs) = every_one canonical (in_base64 t) (map in_base64 ts) (canonical_encoding t b) (each_canonical ts bs)

-- ---- one element, of a pair with a receipt and a group

pub record ElementRight (o : Owner) (n : ℕ) (p : Pair) (g : Group) : Type 0 where
  pub plain : plain_element (element_for (text_pair o n p) g) ≡ true
  pub good : element_good (element_for (text_pair o n p) g) ≡ true
  pub receipt : has_receipt (element_for (text_pair o n p) g) ≡ true
  pub names : names_register (element_for (text_pair o n p) g) ≡ true
  pub settings : settings_of (element_for (text_pair o n p) g) ≡ settings_for o p.serial

module _ (o : Owner) (n : ℕ) (p : Pair) (g : Group) where
  pub element_plain : plain_element (element_for (text_pair o n p) g) ≡ true
  unfolding plain_element element_for text_pair
  element_plain =
      rw (plain_encoding Standard g.certificate, plain_each in_base64 (plain_encoding Standard) g.issuers, plain_each (compact (settings_for o p.serial) n) (plain_compact (settings_for o p.serial) n) p.entries)

  pub element_good_lem : GoodPair (text_pair o n p) → GroupBytes g → element_good (element_for (text_pair o n p) g) ≡ true
  unfolding element_good element_for
  element_good_lem f b =
      rw (canonical_encoding g.certificate b.certificate, each_canonical g.issuers b.issuers, f.short, le-leb (length (text_pair o n p).texts) 4294967295 (omega (arith, f.few)))

-- the first receipt names the settings of its pair
module _ (k : List ℕ) (o : Owner) (n : ℕ) (serial : Name) (e : Entry) (es : List Entry) (g : Group) (c : Core) (ts : TypedSettings (settings_for o serial)) (sg : settings_good (settings_for o serial) ≡ true)
    (h : AllRight k n c (placed_under (settings_for o serial) (e ∷ es))) where
  first_named : named (compact (settings_for o serial) n e) ≡ record { good = true; settings = settings_for o serial }
  unfolding placed_under
  first_named = go h
    where
      go : AllRight k n c (record { settings = settings_for o serial; entry = e } ∷ placed_under (settings_for o serial) es)
          → named (compact (settings_for o serial) n e) ≡ record { good = true; settings = settings_for o serial }
      go (placing.more r rs) = named_back (settings_for o serial) n e ts.lengths ts.bytes sg r.typed r.spelled

  abbrev the_pair : Pair
  the_pair = record { serial = serial; entries = e ∷ es }

  element_right : GoodPair (text_pair o n the_pair) → GroupBytes g → ElementRight o n the_pair g
  unfolding has_receipt names_register settings_of element_for text_pair
  element_right f b =
      record {
        plain = element_plain o n the_pair g;
        good = element_good_lem o n the_pair g f b;
        receipt = refl;
        names = ap (λ (x : Named). x.good) first_named;
        settings = ap (λ (x : Named). x.settings) first_named;
      }

-- ---- all elements

pub data AllElements (o : Owner) (n : ℕ) : List Pair → List Group → Type 0 where
  done : AllElements o n [] []
  next : {p : Pair} {g : Group} {ps : List Pair} {gs : List Group} → ElementRight o n p g → AllElements o n ps gs → AllElements o n (p ∷ ps) (g ∷ gs)

no_text : (o : Owner) (n : ℕ) (serial : Name) → has_text (text_pair o n (record { serial = serial; entries = [] })) ≡ true → ⊥
unfolding has_text text_pair
no_text o n serial e = true-is-not-false e

one_element : (k : List ℕ) (o : Owner) (n : ℕ) (c : Core) (p : Pair) (g : Group) → TypedSettings (settings_for o p.serial) → settings_good (settings_for o p.serial) ≡ true
    → AllRight k n c (placed_under (settings_for o p.serial) p.entries) → GoodPair (text_pair o n p) → GroupBytes g → has_text (text_pair o n p) ≡ true → ElementRight o n p g
one_element k o n c p g ts sg h f b t = go p.entries refl
  where
    go : (es : List Entry) → p.entries ≡ es → ElementRight o n p g
    go [] q = absurd (no_text o n p.serial (ap (λ (l : List Entry). has_text (text_pair o n (record { serial = p.serial; entries = l }))) (sym q) ∙ t))
    go (e ∷ es) q =
        let is : record { serial = p.serial; entries = e ∷ es } ≡ p = λ i. record { serial = p.serial; entries = sym q i } in
        subst (λ (x : Pair). ElementRight o n x g) is
        (element_right k o n p.serial e es g c ts sg (subst (λ (l : List Entry). AllRight k n c (placed_under (settings_for o p.serial) l)) q h)
        (subst (λ (x : Pair). GoodPair (text_pair o n x)) (sym is) f) b)

all_elements : (k : List ℕ) (o : Owner) (n : ℕ) (c : Core) (us : List Name) (ps : List Pair) (gs : List Group) → GoodOwner o → AllRight k n c (all_placed o ps) → Names us ps
    → GoodPairs (map (text_pair o n) ps) → AllGroupBytes gs → every has_text (map (text_pair o n) ps) ≡ true → length gs ≡ length ps → AllElements o n ps gs
unfolding all_placed
all_elements k o n c us [] [] g h ns f bs t l = done
all_elements k o n c us [] (y ∷ gs) g h ns f bs t l = absurd (omega arith)
all_elements k o n c us (p ∷ ps) [] g h ns f bs t l = absurd (omega arith)
all_elements k o n c us (p ∷ ps) (y ∷ gs) g h (placing.more b ns) (spelled.also f fs) (next x bs) t l =
    let s = settings_for o p.serial in
    let r = right_split k n c (placed_under s p.entries) (all_placed o ps) h in
    next (one_element k o n c p y (typed_for o p.serial g b.typed) (good_for o p.serial g b.good) r.0 f x (every_head has_text _ _ t))
    (all_elements k o n (run_core n c (placed_under s p.entries)) (us ++ (p.serial ∷ [])) ps gs g r.1 ns fs bs (every_tail has_text _ _ t) (omega arith))

module _ {o : Owner} {n : ℕ} where
  each_of : (good : Element → Bool) → ((p : Pair) (g : Group) → ElementRight o n p g → good (element_for (text_pair o n p) g) ≡ true)
      → {ps : List Pair} {gs : List Group} → AllElements o n ps gs → every good (elements_for (map (text_pair o n) ps) gs) ≡ true
  unfolding elements_for
  each_of good h done = every_nil good
  each_of good h (next r rs) = every_one good _ _ (h _ _ r) (each_of good h rs)

  pair_is : (p : Pair) (g : Group) → ElementRight o n p g → pair_of (element_for (text_pair o n p) g) ≡ text_pair o n p
  unfolding pair_of element_for text_pair
  pair_is p g r = λ i. record { serial = (r.settings i).serial; texts = map (compact (settings_for o p.serial) n) p.entries }

  pairs_of_lem : {ps : List Pair} {gs : List Group} → AllElements o n ps gs → map pair_of (elements_for (map (text_pair o n) ps) gs) ≡ map (text_pair o n) ps
  unfolding elements_for
  pairs_of_lem done = refl
  pairs_of_lem (next {p = p} {g = g} r rs) = λ i. pair_is p g r i ∷ pairs_of_lem rs i

  owner_of_lem : {ps : List Pair} {gs : List Group} → AllElements o n ps gs → 0 < length ps → owner_of (elements_for (map (text_pair o n) ps) gs) ≡ o
  unfolding elements_for owner_of
  owner_of_lem done h = absurd (omega arith)
  owner_of_lem (next r rs) h = λ i. record { csp = (r.settings i).csp; id = (r.settings i).id }

  some_of_lem : {ps : List Pair} {gs : List Group} → AllElements o n ps gs → 0 < length ps → is_empty (elements_for (map (text_pair o n) ps) gs) ≡ false
  unfolding elements_for
  some_of_lem done h = absurd (omega arith)
  some_of_lem (next r rs) h = refl

  journal_of_lem : {ps : List Pair} {gs : List Group} → AllElements o n ps gs → 0 < length ps
      → journal_of_elements (elements_for (map (text_pair o n) ps) gs) ≡ journal_spelled o (map (text_pair o n) ps)
  unfolding journal_of_elements
  journal_of_lem a h = λ i. journal_spelled (owner_of_lem a h i) (pairs_of_lem a i)

-- ---- what the writer wrote

pub over_front : (out text : List ℕ) → length text ≤ length out → take (length text) (overwrite out 0 text) ≡ text
unfolding overwrite
over_front out text h = take_at text (drop (0 + length text) out) (length text) refl

pub record Made (j key : List ℕ) (n : ℕ) (certificates out : List ℕ) : Type 0 where
  pub accepted : (take_over j key n).number ≡ 0
  pub text : List ℕ
  pub is : export_of j certificates ≡ some text
  pub fits : length text ≤ length out
  pub long : (exported j key n certificates out).length ≡ length text
  pub buffer : export_buffer j key n certificates out ≡ overwrite out 0 text

answer_made : (o : Option (List ℕ)) (out : List ℕ) → (answer_with 28 o out).number ≡ 0
    → (text : List ℕ) × (o ≡ some text) × (length text ≤ length out) × ((answer_with 28 o out).length ≡ length text) × (bufferWith o out ≡ overwrite out 0 text)
unfolding written placed room
answer_made none out z = absurd (omega arith)
answer_made (some text) out z = go (leb (0 + length text) (length out)) refl z
  where
    go : (t : Bool) → leb (0 + length text) (length out) ≡ t → (cond {A = Answer} t (record { number = 0; length = length text }) (record { number = 23; length = 0 })).number ≡ 0
        → (text' : List ℕ) × (some text ≡ some text') × (length text' ≤ length out) × ((cond {A = Answer} t (record { number = 0; length = length text }) (record { number = 23; length = 0 })).length ≡ length text')
        × (cond t (overwrite out 0 text) out ≡ overwrite out 0 text')
    go true e h = (text, refl, omega (arith, leb-true (0 + length text) (length out) e), refl, refl)
    go false e h = absurd (omega arith)

module _ (j key : List ℕ) (n : ℕ) (certificates out : List ℕ) where
  module _ (z : (take_over j key n).number ≡ 0) where
    pub exported_taken : exported j key n certificates out ≡ answered (answer_with 28 (export_of j certificates) out)
    unfolding exported
    exported_taken = ifZero-yes _ _ z

    pub buffer_taken : export_buffer j key n certificates out ≡ bufferWith (export_of j certificates) out
    unfolding export_buffer
    buffer_taken = ifZero-yes _ _ z

  module _ (h : (take_over j key n).number ≡ 0 → ⊥) where
    pub exported_refused : exported j key n certificates out ≡ not_written (take_over j key n)
    unfolding exported
    exported_refused = ifZero-no (take_over j key n).number _ _ h

    pub buffer_refused : export_buffer j key n certificates out ≡ out
    unfolding export_buffer
    buffer_refused = ifZero-no (take_over j key n).number _ _ h

  pub made : (exported j key n certificates out).number ≡ 0 → Made j key n certificates out
  made z = go (take_over j key n).number refl
    where
      go : (m : ℕ) → (take_over j key n).number ≡ m → Made j key n certificates out
      go zero q =
          let e = exported_taken q in
          let a = answer_made (export_of j certificates) out (sym (ap (λ (x : Exported). x.number) e) ∙ z) in
          record {
            accepted = q;
            text = a.0;
            is = a.1;
            fits = a.2;
            long = ap (λ (x : Exported). x.length) e ∙ a.3;
            buffer = buffer_taken q ∙ a.4;
          }
      go (suc m) q =
          let e = exported_refused (λ y. omega (arith, y, q)) in
          absurd (omega (arith, z, ap (λ (x : Exported). x.number) e, q))

-- ---- read

-- the questions of the text, answered yes
survey_yes : (es : List Element) (rest : ℕ) → is_empty es ≡ false → every element_good es ≡ true → every has_receipt es ≡ true → every names_register es ≡ true → survey_number es rest ≡ rest
unfolding survey_number ask
survey_yes es rest a b c d = rw (a, b, c, d)

module _ (text key : List ℕ) (n size : ℕ) (es : List Element) (found : elements_of text ≡ some es) where
  pub restored_is : restored text key n size ≡ restored_by (some es) key n size
  unfolding restored
  restored_is = ap (λ (x : Option (List Element)). restored_by x key n size) found

  module _ (survey : (rest : ℕ) → survey_number es rest ≡ rest) (fits : length (journal_of_elements es) ≤ size) where
    pub number_yes : elements_number es size ≡ 0
    unfolding elements_number ask
    number_yes = survey _ ∙ rw (le-leb (length (journal_of_elements es)) size fits)

    pub restored_taken : (take_over (journal_of_elements es) key n).number ≡ 0
        → restored text key n size ≡ record { number = 0; index = 0; length = length (journal_of_elements es); state = (take_over (journal_of_elements es) key n).state }
    restored_taken z = restored_is ∙ ifZero-yes _ _ number_yes ∙ ifZero-yes _ _ z

-- ---- the theorem

module _ (j key : List ℕ) (n : ℕ) (certificates : List ℕ) (v : Valid j key n) (bytes : AllBytes certificates) (text : List ℕ) (is : export_of j certificates ≡ some text) where
  unfoldable pub ps : List TextPair
  ps = map (text_pair v.owner n) v.pairs

  pub record Groups : Type 0 where
    pub groups : List Group
    pub count : length groups ≡ length v.pairs
    pub each_bytes : AllGroupBytes groups
    pub text_is : text ≡ export_text (elements_for ps groups)

  some_groups : (o : Option (List Group)) → groups_of (length (pairs_of j)) certificates ≡ o
      → Option.map (λ (gs : List Group). export_text (elements_for (pairs_of j) gs)) o ≡ some text → Groups
  unfolding ps
  some_groups none q e = let z : ◌≡◌ {A = ℕ} 0 1 = cc in absurd (omega arith)
  some_groups (some gs) q e =
      let g = (groups_exactly (length (pairs_of j)) certificates gs).0 q in
      let same : export_text (elements_for (pairs_of j) gs) ≡ text = cc in
      record {
        groups = gs;
        count = g.0 ∙ ap length (valid_pairs v) ∙ length-map v.pairs (text_pair v.owner n);
        each_bytes = groups_bytes gs (subst AllBytes g.2 bytes);
        text_is = sym same ∙ ap (λ (l : List TextPair). export_text (elements_for l gs)) (valid_pairs v);
      }

  pub the_groups : Groups
  unfolding export_of
  the_groups = some_groups (groups_of (length (pairs_of j)) certificates) refl is

  unfoldable pub es : List Element
  es = elements_for ps the_groups.groups

  module _ (each : every has_text (pairs_of j) ≡ true) where
    elements : AllElements v.owner n v.pairs the_groups.groups
    elements =
        let w = valid_work v in
        all_elements key v.owner n (start_core v.owner) [] v.pairs the_groups.groups v.good w.right w.names (valid_good v) the_groups.each_bytes
        (ap (every has_text) (sym (valid_pairs v)) ∙ each) the_groups.count

    journal_back : journal_of_elements es ≡ j
    unfolding es ps
    journal_back = journal_of_lem elements v.some ∙ sym (valid_spelled v)

    survey : (rest : ℕ) → survey_number es rest ≡ rest
    unfolding es ps
    survey rest =
        survey_yes es rest (some_of_lem elements v.some) (each_of element_good (λ p g r. r.good) elements) (each_of has_receipt (λ p g r. r.receipt) elements)
        (each_of names_register (λ p g r. r.names) elements)

    found : elements_of text ≡ some es
    unfolding es ps
    found =
        ap elements_of (the_groups.text_is ∙ plain_text_lem es) ∙ reads_back es (each_of plain_element (λ p g r. r.plain) elements)

    module _ (z : (take_over j key n).number ≡ 0) (second : List ℕ) (fits : length j ≤ length second) where
      taken : (take_over (journal_of_elements es) key n).number ≡ 0
      taken = ap (λ (x : List ℕ). (take_over x key n).number) journal_back ∙ z

      small : length (journal_of_elements es) ≤ length second
      small = omega (arith, ap length journal_back, fits)

      back : restored text key n (length second) ≡ record { number = 0; index = 0; length = length j; state = (take_over j key n).state }
      back =
          restored_taken text key n (length second) es found survey small taken
          ∙ (λ i. record { number = 0; index = 0; length = length (journal_back i); state = (take_over (journal_back i) key n).state })

      buffer_back : restored_buffer text key n second ≡ overwrite second 0 j
      unfolding restored_buffer
      buffer_back =
          ifZero-yes _ _ (ap (λ (x : Restored). x.number) back)
          ∙ ap (overwrite second 0) (ap journal_by found ∙ journal_back)

pub export_reads_back : ExportReadsBack
export_reads_back j key n certificates first second bj bc z each fits =
    let m = made j key n certificates first z in
    let v = (accepted_is_valid j key n bj).0 m.accepted in
    let same : take (exported j key n certificates first).length (export_buffer j key n certificates first) ≡ m.text
    = (λ i. take (m.long i) (m.buffer i)) ∙ over_front first m.text m.fits in (
      ap (λ (t : List ℕ). restored t key n (length second)) same ∙ back j key n certificates v bc m.text m.is each m.accepted second fits,
      ap (λ (t : List ℕ). restored_buffer t key n second) same ∙ buffer_back j key n certificates v bc m.text m.is each m.accepted second fits,
    )
