-- Pairs read from a journal are exactly those that it spells.
use Rattle.std.proofs.lemmas.List.{length-map}
use Rattle.std.proofs.Common.{ℕ, zero, suc, ◌+◌, ◌≤◌, ◌<◌, ◌≡◌, refl, sym, ap, ◌∙◌, true, false, List, [], ◌∷◌, ◌++◌, map, append_assoc, arith, length, drop, length-append, drop_at}
use Rattle.primitives.specs.Number.{bytes_of, count_at}
use Rattle.primitives.proofs.Numbers.{length_bytes_of}
use Rattle.primitives.proofs.Counts.{count_in}
use Rattle.receipt.specs.Settings.{name_text, name_of, serial_good}
use Rattle.receipt.specs.Compact.{compact}
use Rattle.receipt.specs.declared.settings.Name.{Name}
use Rattle.receipt.specs.declared.settings.Settings.{Settings}
use Rattle.receipt.specs.declared.settings.Letters.TheVariants.{Id, Serial}
use Rattle.receipt.specs.declared.entry.Entry.{Entry}
use Rattle.receipt.specs.Settings.{TypedSettings}
use Rattle.receipt.proofs.Names.{good_name, length_text, name_of_lem}
use Rattle.receipt.proofs.ExactEntry.{compact_short}
use Rattle.journal.specs.Head.{section, section_text, section_end, pair_start, serial_at, serial_place, entry_text}
use Rattle.journal.specs.Valid.{Owner, Pair, settings_for, texts, pair_text, pair_texts, owner_text, journal_text, placed_under, all_placed, GoodOwner, Valid}
use Rattle.journal.proofs.Sections.{length_section, section_text_lem, section_end_lem}
use Rattle.journal.proofs.Placing.{Core, AllRight, Names, step_core, run_core, start_core, right_split}
use Rattle.journal.proofs.Placing as placing
use Rattle.journal.proofs.Passing.{typed_for}
use Rattle.journal.proofs.Accepting.{valid_work}
use Rattle.exports.specs.Text.{every}
use Rattle.exports.specs.Spelled.{TextPair, sized_texts, texts_in, after_texts, short, pair_spelled, pairs_spelled, journal_spelled, GoodPair, GoodPairs, nothing, also, is_empty, pair_in, after_pair, pairs_in, pairs_of}
use Rattle.exports.specs.GroupLaws.{PairsAreThose, text_pair, PairsOfValid}
use Rattle.exports.proofs.Sized.{lt_short, every_nil, every_one}
use Rattle.exports.proofs.GroupsBack.{texts_in_lem, after_in}

-- ---- the pair at the start of a buffer

serial_fits : (x : TextPair) → GoodPair x → length (name_text x.serial) < 4294967296
serial_fits x g = let m = (good_name Serial x.serial g.good).most in omega (arith, m, length_text x.serial g.long m)

module _ (x : TextPair) (g : GoodPair x) (rest : List ℕ) where
  pub pair_open : pair_spelled x ++ rest ≡ section (name_text x.serial) ++ (bytes_of 4 (length x.texts) ++ (sized_texts x.texts ++ rest))
  unfolding pair_spelled pair_start
  pair_open = simp append_assoc

  pub pair_end : section_end (pair_spelled x ++ rest) 0 ≡ 4 + length (name_text x.serial)
  pair_end =
      ap (λ (b : List ℕ). section_end b 0) pair_open
      ∙ section_end_lem [] (name_text x.serial) (bytes_of 4 (length x.texts) ++ (sized_texts x.texts ++ rest)) 0 refl (serial_fits x g) ∙ omega arith

  pub pair_name : section_text (pair_spelled x ++ rest) 0 ≡ name_text x.serial
  pair_name =
      ap (λ (b : List ℕ). section_text b 0) pair_open
      ∙ section_text_lem [] (name_text x.serial) (bytes_of 4 (length x.texts) ++ (sized_texts x.texts ++ rest)) 0 refl (serial_fits x g)

  pub pair_count : count_at (pair_spelled x ++ rest) (section_end (pair_spelled x ++ rest) 0) 4 ≡ length x.texts
  pair_count =
      (λ i. count_at (pair_open i) (pair_end i) 4)
      ∙ count_in (section (name_text x.serial)) (sized_texts x.texts ++ rest) (4 + length (name_text x.serial)) 4 (length x.texts)
      (length_section (name_text x.serial)) (omega (arith, g.few))

  pub pair_entries : drop (section_end (pair_spelled x ++ rest) 0 + 4) (pair_spelled x ++ rest) ≡ sized_texts x.texts ++ rest
  pair_entries =
      let s = section (name_text x.serial) in
      let c = bytes_of 4 (length x.texts) in
      let l : length (s ++ c) ≡ 4 + length (name_text x.serial) + 4 =
      length-append s c ∙ omega (arith, length_section (name_text x.serial), length_bytes_of 4 (length x.texts)) in
      (λ i. drop (pair_end i + 4) ((pair_open ∙ sym (append_assoc s c (sized_texts x.texts ++ rest))) i))
      ∙ drop_at (s ++ c) (sized_texts x.texts ++ rest) (4 + length (name_text x.serial) + 4) l

  pub pair_in_lem : pair_in (pair_spelled x ++ rest) ≡ x
  unfolding pair_in serial_at
  pair_in_lem = λ i. record {
    serial = (ap name_of pair_name ∙ name_of_lem Serial x.serial g.long g.good) i;
    texts = ((λ j. texts_in (pair_count j) (pair_entries j)) ∙ texts_in_lem x.texts rest g.short) i;
  }

  pub pair_after : after_pair (pair_spelled x ++ rest) ≡ rest
  unfolding after_pair
  pair_after = (λ j. after_texts (pair_count j) (pair_entries j)) ∙ after_in x.texts rest g.short

  pub pair_size : 8 ≤ length (pair_spelled x)
  unfolding pair_spelled pair_start
  pair_size =
      let s = section (name_text x.serial) in
      let c = bytes_of 4 (length x.texts) in
      omega (arith, length-append (s ++ c) (sized_texts x.texts), length-append s c, length_section (name_text x.serial), length_bytes_of 4 (length x.texts))

-- ---- pairs

pub pairs_nil : pairs_spelled [] ≡ []
unfolding pairs_spelled
pairs_nil = refl

pub pairs_cons : (p : TextPair) (ps : List TextPair) → pairs_spelled (p ∷ ps) ≡ pair_spelled p ++ pairs_spelled ps
unfolding pairs_spelled
pairs_cons p ps = refl

filled : (buf : List ℕ) → 0 < length buf → is_empty buf ≡ false
filled [] h = absurd (omega arith)
filled (b ∷ buf) h = refl

pub pairs_in_lem : (k : ℕ) (ps : List TextPair) → length ps ≤ k → GoodPairs ps → pairs_in k (pairs_spelled ps) ≡ ps
unfolding pairs_in
pairs_in_lem zero [] h g = refl
pairs_in_lem (suc k) [] h g = rw pairs_nil
pairs_in_lem zero (p ∷ ps) h g = absurd (omega arith)
pairs_in_lem (suc k) (p ∷ ps) h (also g gs) =
    let b = pair_spelled p ++ pairs_spelled ps in
    let some : 0 < length b = omega (arith, length-append (pair_spelled p) (pairs_spelled ps), pair_size p g []) in
    rw (pairs_cons p ps, filled b some)
    (λ i. pair_in_lem p g (pairs_spelled ps) i ∷ (ap (pairs_in k) (pair_after p g (pairs_spelled ps)) ∙ pairs_in_lem k ps (omega arith) gs) i)

pub pairs_size : (ps : List TextPair) → GoodPairs ps → length ps ≤ length (pairs_spelled ps)
pairs_size [] g = omega arith
pairs_size (p ∷ ps) (also g gs) =
    omega (arith, ap length (pairs_cons p ps), length-append (pair_spelled p) (pairs_spelled ps), pair_size p g [], pairs_size ps gs)

-- ---- a journal

module _ (o : Owner) (g : GoodOwner o) (ps : List TextPair) where
  id_long : length (name_text o.id) ≡ o.id.len
  id_long = length_text o.id g.typed_id.long (good_name Id o.id g.id).most

  csp_end : length (section o.csp) ≡ 7
  csp_end = omega (arith, length_section o.csp, g.typed_csp)

  owner_long : length (owner_text o) ≡ 11 + length (name_text o.id)
  unfolding owner_text
  owner_long = length-append (section o.csp) (section (name_text o.id)) ∙ omega (arith, csp_end, length_section (name_text o.id))

  pub serial_place_lem : section_end (journal_spelled o ps) 7 ≡ length (owner_text o)
  unfolding journal_spelled owner_text
  serial_place_lem =
      ap (λ (b : List ℕ). section_end b 7) (append_assoc (section o.csp) (section (name_text o.id)) (pairs_spelled ps))
      ∙ section_end_lem (section o.csp) (name_text o.id) (pairs_spelled ps) 7 csp_end (omega (arith, id_long, (good_name Id o.id g.id).most))
      ∙ omega (arith, owner_long)

  pub after_owner : drop (section_end (journal_spelled o ps) 7) (journal_spelled o ps) ≡ pairs_spelled ps
  unfolding journal_spelled
  after_owner = drop_at (owner_text o) (pairs_spelled ps) (section_end (journal_spelled o ps) 7) (sym serial_place_lem)

  pub owner_room : section_end (journal_spelled o ps) 7 ≤ length (journal_spelled o ps)
  unfolding journal_spelled
  owner_room = omega (arith, serial_place_lem, length-append (owner_text o) (pairs_spelled ps))

  journal_size : GoodPairs ps → length ps ≤ length (journal_spelled o ps)
  unfolding journal_spelled
  journal_size gs = omega (arith, length-append (owner_text o) (pairs_spelled ps), pairs_size ps gs)

  pub pairs_those : GoodPairs ps → pairs_of (journal_spelled o ps) ≡ ps
  unfolding pairs_of serial_place
  pairs_those gs = ap (pairs_in (length (journal_spelled o ps))) after_owner ∙ pairs_in_lem (length (journal_spelled o ps)) ps (journal_size gs) gs

pub pairs_are_those : PairsAreThose
pairs_are_those o ps g gs = pairs_those o g ps gs

-- ---- a valid journal

texts_are : (s : Settings) (n : ℕ) (es : List Entry) → texts s n es ≡ sized_texts (map (compact s n) es)
unfolding texts sized_texts
texts_are s n [] = refl
texts_are s n (e ∷ es) = ap (λ (l : List ℕ). entry_text (compact s n e) ++ l) (texts_are s n es)

pair_is : (o : Owner) (n : ℕ) (p : Pair) → pair_text o n p ≡ pair_spelled (text_pair o n p)
unfolding pair_text pair_spelled text_pair
pair_is o n p =
    let s = settings_for o p.serial in
    λ i. pair_start p.serial (sym (length-map p.entries (compact s n)) i) ++ texts_are s n p.entries i

pairs_are : (o : Owner) (n : ℕ) (ps : List Pair) → pair_texts o n ps ≡ pairs_spelled (map (text_pair o n) ps)
unfolding pair_texts pairs_spelled
pairs_are o n [] = refl
pairs_are o n (p ∷ ps) = λ i. pair_is o n p i ++ pairs_are o n ps i

pub journal_is : (o : Owner) (n : ℕ) (ps : List Pair) → journal_text o n ps ≡ journal_spelled o (map (text_pair o n) ps)
unfolding journal_text journal_spelled
journal_is o n ps = ap (λ (l : List ℕ). owner_text o ++ l) (pairs_are o n ps)

-- the texts of right entries are short
all_short : (k : List ℕ) (s : Settings) (n : ℕ) (c : Core) (es : List Entry) → TypedSettings s → AllRight k n c (placed_under s es) → every short (map (compact s n) es) ≡ true
unfolding placed_under
all_short k s n c [] ts h = every_nil short
all_short k s n c (e ∷ es) ts (placing.more h hs) =
    every_one short (compact s n e) (map (compact s n) es) (lt_short (compact s n e) (omega (arith, compact_short s n e ts.lengths h.typed h.spelled)))
    (all_short k s n (step_core n c (record { settings = s; entry = e })) es ts hs)

pair_good : (o : Owner) (n : ℕ) (p : Pair) → length p.serial.bytes ≡ 32 → serial_good p.serial ≡ true → length p.entries < 4294967296
    → every short (map (compact (settings_for o p.serial) n) p.entries) ≡ true → GoodPair (text_pair o n p)
unfolding text_pair
pair_good o n p l g m s = record { long = l; good = g; short = s; few = omega (arith, length-map p.entries (compact (settings_for o p.serial) n)) }

pairs_good : (k : List ℕ) (o : Owner) (n : ℕ) (c : Core) (us : List Name) (ps : List Pair) → GoodOwner o → AllRight k n c (all_placed o ps) → Names us ps
    → GoodPairs (map (text_pair o n) ps)
unfolding all_placed
pairs_good k o n c us [] g h ns = nothing
pairs_good k o n c us (p ∷ ps) g h (placing.more b ns) =
    let s = settings_for o p.serial in
    let r = right_split k n c (placed_under s p.entries) (all_placed o ps) h in
    also (pair_good o n p b.typed.long b.good b.few (all_short k s n c p.entries (typed_for o p.serial g b.typed) r.0))
    (pairs_good k o n (run_core n c (placed_under s p.entries)) (us ++ (p.serial ∷ [])) ps g r.1 ns)

module _ {j k : List ℕ} {n : ℕ} (v : Valid j k n) where
  pub valid_spelled : j ≡ journal_spelled v.owner (map (text_pair v.owner n) v.pairs)
  valid_spelled = v.bytes ∙ journal_is v.owner n v.pairs

  pub valid_good : GoodPairs (map (text_pair v.owner n) v.pairs)
  valid_good = let w = valid_work v in pairs_good k v.owner n (start_core v.owner) [] v.pairs v.good w.right w.names

  pub valid_pairs : pairs_of j ≡ map (text_pair v.owner n) v.pairs
  valid_pairs = ap pairs_of valid_spelled ∙ pairs_those v.owner v.good (map (text_pair v.owner n) v.pairs) valid_good

pub pairs_of_valid : PairsOfValid
pairs_of_valid j k n v = valid_pairs v
