-- The journal of elements taken over where its receipts lie: the answer is that of Take over on the journal that the elements spell.
use Rattle.std.proofs.Common.{ℕ, ◌<◌, ◌≡◌, refl, sym, ap, ◌∙◌, Bool, true, false, cond, not, ◌&&◌, List, [], ◌∷◌, map, arith, leb-true, eqb-true, eqb, leb, length, take, length-drop}
use mathlib.Core.Option.{Option, none, some}
use Rattle.primitives.specs.Bytes.{same}
use Rattle.primitives.specs.Base64.{decoding}
use Rattle.primitives.specs.declared.base64.Alphabet.TheVariants.{UrlSafe}
use Rattle.primitives.specs.Counter.{width_good}
use Rattle.primitives.specs.Aes.{key_schedule}
use Rattle.primitives.specs.Questions.{ask, ifZero}
use Rattle.primitives.proofs.Rows.{both, true-is-not-false, ask_zero, ask_yes, ask_no, ifZero-yes, ifZero-no}
use Rattle.receipt.specs.Texts.{separator, dot, beginning}
use Rattle.receipt.specs.Line.{count_of}
use Rattle.receipt.specs.Settings.{csp_good, id_good, serial_good, settings_good}
use Rattle.receipt.specs.declared.settings.Settings.{Settings}
use Rattle.receipt.proofs.Entries.{length_array}
use Rattle.journal.specs.Step.{fresh}
use Rattle.journal.specs.Checking.{settings_checked, refused, accepted, take_over, last_answer}
use Rattle.journal.specs.declared.state.TakenOver.{TakenOver}
use Rattle.exports.specs.Text.{every}
use Rattle.exports.specs.Shape.{Element}
use Rattle.exports.specs.Spelled.{short, GoodPair, GoodPairs, nothing, also, is_empty}
use Rattle.exports.specs.Naming.{middle, field_of, settings_in, payload_names, not_named, named_by, named}
use Rattle.exports.specs.Reading.{canonical, element_good, has_receipt, first_of, settings_of, names_register, owner_of, pair_of, journal_of_elements, survey_number}
use Rattle.exports.specs.Running.{elements_run, owner_settings, run_journal}
use Rattle.exports.specs.TakenOver.{GoodParts, parts_taken}
use Rattle.exports.proofs.TakenAsSpelled.{read_is_taken_over}

-- ---- what a receipt names

pub record GoodNames (s : Settings) : Type 0 where
  pub three : length s.csp ≡ 3
  pub id_long : length s.id.bytes ≡ 32
  pub serial_long : length s.serial.bytes ≡ 32
  pub csp : csp_good s.csp ≡ true
  pub id : id_good s.id ≡ true
  pub serial : serial_good s.serial ≡ true

payload_good_lem : (p : List ℕ) → payload_names p ≡ true → GoodNames (settings_in p)
unfolding payload_names settings_good settings_in
payload_good_lem p e =
    let a = both (same (take 4 p) beginning) _ e in
    let b = both (eqb (count_of separator p) 12) _ a.1 in
    let c = both (eqb (length (field_of 1 p)) 6) _ b.1 in
    let d = both (csp_good (settings_in p).csp) _ c.1 in
    let f = both (id_good (settings_in p).id) (serial_good (settings_in p).serial) d.1 in
    record {
      three = length-drop 3 (field_of 1 p) ∙ omega (arith, eqb-true (length (field_of 1 p)) 6 c.0);
      id_long = length_array (field_of 2 p);
      serial_long = length_array (field_of 11 p);
      csp = d.0;
      id = f.0;
      serial = f.1;
    }

pub named_good : (w : List ℕ) → (named w).good ≡ true → GoodNames (named w).settings
unfolding named
named_good w e = go (eqb (count_of dot w) 2) (decoding UrlSafe (middle w)) e
  where
    by : (p : List ℕ) (t : Bool) → payload_names p ≡ t → (cond t (record { good = true; settings = settings_in p }) not_named).good ≡ true
        → GoodNames (cond t (record { good = true; settings = settings_in p }) not_named).settings
    by p true q h = payload_good_lem p q
    by p false q h = true-is-not-false h

    go : (t : Bool) (d : Option (List ℕ)) → (cond t (named_by d) not_named).good ≡ true → GoodNames (cond t (named_by d) not_named).settings
    go false d h = true-is-not-false h
    go true none h = true-is-not-false h
    go true (some p) h = by p (payload_names p) refl h

-- what names nothing
pub named_none : (w : List ℕ) → (named w).good ≡ false → named w ≡ not_named
unfolding named
named_none w e = go (eqb (count_of dot w) 2) (decoding UrlSafe (middle w)) e
  where
    by : (p : List ℕ) (t : Bool) → (cond t (record { good = true; settings = settings_in p }) not_named).good ≡ false
        → cond t (record { good = true; settings = settings_in p }) not_named ≡ not_named
    by p true h = true-is-not-false (sym h)
    by p false h = refl

    go : (t : Bool) (d : Option (List ℕ)) → (cond t (named_by d) not_named).good ≡ false → cond t (named_by d) not_named ≡ not_named
    go false d h = refl
    go true none h = refl
    go true (some p) h = by p (payload_names p) h

-- ---- elements that were asked about

pub element_names : (e : Element) → names_register e ≡ true → GoodNames (settings_of e)
unfolding names_register settings_of
element_names e h = named_good (first_of e.receipts) h

pub element_fits : (e : Element) → element_good e ≡ true → (every short e.receipts ≡ true) × (length e.receipts < 4294967296)
unfolding element_good
element_fits e h =
    let a = both (canonical e.certificate && every canonical e.issuers) _ h in
    let b = both (every short e.receipts) (leb (length e.receipts) 4294967295) a.1 in
    (b.0, omega (arith, leb-true (length e.receipts) 4294967295 b.1))

pub element_pair : (e : Element) → element_good e ≡ true → names_register e ≡ true → GoodPair (pair_of e)
unfolding pair_of
element_pair e g h =
    let n = element_names e h in
    let f = element_fits e g in
    record { long = n.serial_long; good = n.serial; short = f.0; few = f.1 }

every_both : (good : Element → Bool) (e : Element) (es : List Element) → every good (e ∷ es) ≡ true → (good e ≡ true) × (every good es ≡ true)
unfolding every
every_both good e es h = both (good e) (every good es) h

pub elements_pairs : (es : List Element) → every element_good es ≡ true → every names_register es ≡ true → GoodPairs (map pair_of es)
elements_pairs [] g h = nothing
elements_pairs (e ∷ es) g h =
    let a = every_both element_good e es g in
    let b = every_both names_register e es h in
    also (element_pair e a.0 b.0) (elements_pairs es a.1 b.1)

pub record Surveyed (es : List Element) : Type 0 where
  pub some : not (is_empty es) ≡ true
  pub good : every element_good es ≡ true
  pub receipts : every has_receipt es ≡ true
  pub named : every names_register es ≡ true

pub survey_zero : (es : List Element) → survey_number es 0 ≡ 0 → Surveyed es
unfolding survey_number
survey_zero es z =
    let a = ask_zero _ _ _ z in
    let b = ask_zero _ _ _ a.1 in
    let c = ask_zero _ _ _ b.1 in
    let d = both (not (is_empty es)) (every element_good es) a.0 in
    record { some = d.0; good = d.1; receipts = b.0; named = c.0 }

-- ---- the settings

settings_yes : (s : Settings) (key : List ℕ) (n : ℕ) → width_good n ≡ true → settings_good s ≡ true → settings_checked s key n ≡ accepted (fresh s n key)
unfolding settings_checked
settings_yes s key n w g = ifZero-yes _ _ (ask_yes 4 _ w ∙ ask_yes 14 0 g)

settings_no : (s : Settings) (key : List ℕ) (n : ℕ) → width_good n ≡ false → settings_checked s key n ≡ refused 4 0
unfolding settings_checked
settings_no s key n w =
    ap (λ (m : ℕ). ifZero m (accepted (fresh s n key)) (refused m 0)) (ask_no 4 (ask (settings_good s) 14 0) w)
    ∙ ifZero-no 4 _ _ (λ z. omega arith)

pub settings_good_lem : (s : Settings) → GoodNames s → settings_good s ≡ true
unfolding settings_good
settings_good_lem s g = rw (g.csp, g.id, g.serial)

module _ (e : Element) (es : List Element) (key : List ℕ) (n : ℕ) where
  -- with the answer about the settings
  answered : TakenOver → TakenOver
  answered t = ifZero t.number (last_answer (elements_run (key_schedule key) t.state (e ∷ es))) t

  run_is : run_journal (e ∷ es) key n ≡ answered (settings_checked (settings_of e) key n)
  unfolding run_journal owner_settings settings_of answered
  run_is = refl

  run_yes : width_good n ≡ true → settings_good (settings_of e) ≡ true
      → run_journal (e ∷ es) key n ≡ last_answer (elements_run (key_schedule key) (fresh (settings_of e) n key) (e ∷ es))
  unfolding answered accepted
  run_yes w g = run_is ∙ (ap answered (settings_yes (settings_of e) key n w g) ∙ ifZero-yes _ _ refl)

  run_no : width_good n ≡ false → run_journal (e ∷ es) key n ≡ refused 4 0
  unfolding answered refused
  run_no w = run_is ∙ (ap answered (settings_no (settings_of e) key n w) ∙ ifZero-no 4 _ _ (λ z. omega arith))

  run_parts : settings_good (settings_of e) ≡ true → run_journal (e ∷ es) key n ≡ parts_taken (owner_of (e ∷ es)) (pair_of e) (map pair_of es) key n
  unfolding parts_taken owner_of pair_of
  run_parts g = go (width_good n) refl
    where
      go : (t : Bool) → width_good n ≡ t
          → run_journal (e ∷ es) key n ≡ cond t (last_answer (elements_run (key_schedule key) (fresh (settings_of e) n key) (e ∷ es))) (refused 4 0)
      go true w = run_yes w g
      go false w = run_no w

pub owner_parts : (e : Element) (es : List Element) → Surveyed (e ∷ es) → length (journal_of_elements (e ∷ es)) < 18446744073709551616 → GoodParts (owner_of (e ∷ es)) (map pair_of (e ∷ es))
unfolding owner_of journal_of_elements
owner_parts e es s h =
    let n = element_names e (every_both names_register e es s.named).0 in
    record { three = n.three; csp = n.csp; long = n.id_long; id = n.id; pairs = elements_pairs (e ∷ es) s.good s.named; fits = h }

pub run_is_take_over : (es : List Element) (key : List ℕ) (n : ℕ) → survey_number es 0 ≡ 0 → length (journal_of_elements es) < 18446744073709551616
    → run_journal es key n ≡ take_over (journal_of_elements es) key n
unfolding journal_of_elements
run_is_take_over [] key n z h = true-is-not-false (survey_zero [] z).some
run_is_take_over (e ∷ es) key n z h =
    let s = survey_zero (e ∷ es) z in
    let g = element_names e (every_both names_register e es s.named).0 in
    run_parts e es key n (settings_good_lem (settings_of e) g)
    ∙ read_is_taken_over (owner_of (e ∷ es)) (pair_of e) (map pair_of es) key n (owner_parts e es s h)
