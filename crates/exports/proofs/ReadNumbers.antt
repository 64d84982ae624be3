-- Which numbers reading an export can give.
use Rattle.std.proofs.Common.{ℕ, zero, suc, ◌<◌, ◌≡◌, refl, sym, ap, ◌∙◌, Bool, true, false, cond, List, [], ◌∷◌, map, arith, ne_eqb, leb, length}
use mathlib.Core.Option.{Option, none, some}
use Rattle.primitives.specs.Counter.{width_good}
use Rattle.primitives.specs.Aes.{key_schedule}
use Rattle.primitives.specs.Questions.{ask, ifZero}
use Rattle.primitives.proofs.Rows.{true-is-not-false, ifZero-yes, ifZero-no}
use Rattle.receipt.specs.Settings.{serial_good}
use Rattle.receipt.specs.declared.settings.Name.{Name}
use Rattle.journal.specs.Step.{fresh, renewed, renew_number}
use Rattle.journal.specs.State.{unopened}
use Rattle.journal.specs.Head.{head_settings, serial_at, text_at}
use Rattle.journal.specs.Valid.{Owner, settings_for}
use Rattle.journal.specs.Checking.{context_number, text_number, entry_number, stopped, checked, text_checked, place_checked, start_number, start_checked, end_checked, full, one_step, steps, refused, accepted, last_answer, head_number, take_over, entry_ready, entry_checked, serial_ready, serial_number, serial_checked}
use Rattle.journal.specs.declared.state.State.{State}
use Rattle.journal.specs.declared.state.TakenOver.{TakenOver}
use Rattle.journal.proofs.PartSteps.{turn}
use Rattle.exports.specs.Shape.{Element}
use Rattle.exports.specs.Parsed.{elements_of}
use Rattle.exports.specs.Spelled.{TextPair, journal_spelled, GoodPair, GoodPairs, nothing, also}
use Rattle.exports.specs.Running.{run_texts, run_pair, run_pairs}
use Rattle.exports.specs.TakenOver.{GoodParts, parts_taken}
use Rattle.exports.specs.Reading.{pair_of, owner_of, journal_of_elements, survey_number, elements_number, restored_by, restored, not_read}
use Rattle.exports.specs.Promises.{among, NumbersOfReading}
use Rattle.journal.specs.declared.checking.Step.{Step}
use Rattle.exports.specs.Reading.{Restored}
use Rattle.exports.proofs.TakenAsSpelled.{read_is_taken_over}
use Rattle.exports.proofs.ElementsTaken.{Surveyed, owner_parts}
use Rattle.exports.proofs.Promising.{asked_survey}

-- ---- numbers of a list

pub ask_among : (ns : List ℕ) (t : Bool) (k rest : ℕ) → among ns k ≡ true → among ns rest ≡ true → among ns (ask t k rest) ≡ true
unfolding ask
ask_among ns true k rest a b = b
ask_among ns false k rest a b = a

pub but_first : (k : ℕ) (ns : List ℕ) (m : ℕ) → among (k ∷ ns) m ≡ true → (m ≡ k → ⊥) → among ns m ≡ true
unfolding among
but_first k ns m h d = rw (ne_eqb m k d) at h

if_among : (ns : List ℕ) (m : ℕ) (x y : ℕ) → among ns x ≡ true → among ns y ≡ true → among ns (ifZero m x y) ≡ true
unfolding ifZero
if_among ns zero x y a b = a
if_among ns (suc m) x y a b = b

-- the numbers that may come, and 6
abbrev readable : List ℕ
readable = 6 ∷ 0 ∷ 4 ∷ 16 ∷ 17 ∷ 18 ∷ 19 ∷ 20 ∷ 23 ∷ 28 ∷ 29 ∷ 30 ∷ 31 ∷ []

-- those of Take over, without 6
abbrev takeable : List ℕ
takeable = 0 ∷ 4 ∷ 14 ∷ 15 ∷ 16 ∷ 17 ∷ 18 ∷ 19 ∷ 20 ∷ 21 ∷ 30 ∷ 31 ∷ []

-- ---- of one entry and one serial

-- a list with the numbers of an entry, of a used serial and of a ninth one
record Has (ns : List ℕ) : Type 0 where
  zeros : among ns 0 ≡ true
  n16 : among ns 16 ≡ true
  n17 : among ns 17 ≡ true
  n18 : among ns 18 ≡ true
  n19 : among ns 19 ≡ true
  n20 : among ns 20 ≡ true
  n30 : among ns 30 ≡ true
  n31 : among ns 31 ≡ true

readable_has : Has readable
unfolding among
readable_has = record { zeros = refl; n16 = refl; n17 = refl; n18 = refl; n19 = refl; n20 = refl; n30 = refl; n31 = refl }

takeable_has : Has takeable
unfolding among
takeable_has = record { zeros = refl; n16 = refl; n17 = refl; n18 = refl; n19 = refl; n20 = refl; n30 = refl; n31 = refl }

module _ {ns : List ℕ} (h : Has ns) where
  text_among : (k : List (List ℕ)) (st : State) (w : List ℕ) → among ns (text_number k st w) ≡ true
  unfolding text_number context_number
  text_among k st w =
      ask_among ns _ 16 _ h.n16 (ask_among ns _ 17 _ h.n17 (ask_among ns _ 18 _ h.n18 (ask_among ns _ 19 _ h.n19 (ask_among ns _ 20 0 h.n20 h.zeros))))

  renew_among : (st : State) (s : Name) → among ns (renew_number st s 0) ≡ true
  unfolding renew_number
  renew_among st s = ask_among ns _ 30 _ h.n30 (ask_among ns _ 31 0 h.n31 h.zeros)

pub checked_number : (m : ℕ) (st : State) (w : List ℕ) → (checked m st w).number ≡ m
unfolding checked ifZero stopped
checked_number zero st w = refl
checked_number (suc m) st w = refl

pub stopped_number : (m : ℕ) (st : State) → (stopped m st).number ≡ m
unfolding stopped
stopped_number m st = refl

pub ended_number : (m : ℕ) (x st : State) → (ifZero m (stopped 0 x) (stopped m st)).number ≡ m
unfolding ifZero stopped
ended_number zero x st = refl
ended_number (suc m) x st = refl

-- ---- steps for other readers

entry_among : (k : List (List ℕ)) (st : State) (w : List ℕ) → among readable (entry_checked k st w).number ≡ true
unfolding entry_checked text_checked among
entry_among k st w = go (entry_ready st w)
  where
    go : (t : Bool) → among readable (cond t (checked (text_number k st w) st w) (stopped 6 st)).number ≡ true
    go true = ap (among readable) (checked_number (text_number k st w) st w) ∙ text_among readable_has k st w
    go false = ap (among readable) (stopped_number 6 st)

pub good_number : (st : State) (s : Name) → serial_good s ≡ true → serial_number st s ≡ renew_number st s 0
unfolding serial_number ask
good_number st s g = rw g

serial_among : (st : State) (s : Name) → serial_good s ≡ true → among readable (serial_checked st s).number ≡ true
unfolding serial_checked among
serial_among st s g = go (serial_ready st s)
  where
    go : (t : Bool) → among readable (cond t (ifZero (serial_number st s) (stopped 0 (renewed st s)) (stopped (serial_number st s) st)) (stopped 6 st)).number ≡ true
    go true = ap (among readable) (ended_number (serial_number st s) (renewed st s) st ∙ good_number st s g) ∙ renew_among readable_has st s
    go false = ap (among readable) (stopped_number 6 st)

-- ---- runs

zero_among : among readable 0 ≡ true
unfolding among
zero_among = refl

texts_among : (k : List (List ℕ)) (st : State) (ws : List (List ℕ)) → among readable (run_texts k st ws).number ≡ true
unfolding run_texts
texts_among k st [] = zero_among
texts_among k st (w ∷ ws) = go (entry_checked k st w).number (entry_among k st w) (texts_among k (entry_checked k st w).state ws)
  where
    go : (m : ℕ) → among readable m ≡ true → among readable (run_texts k (entry_checked k st w).state ws).number ≡ true
        → among readable (ifZero m (run_texts k (entry_checked k st w).state ws) (record { number = m; state = st })).number ≡ true
    go zero h rec = ap (λ (r : Step). among readable r.number) (ifZero-yes _ _ refl) ∙ rec
    go (suc m) h rec = ap (λ (r : Step). among readable r.number) (ifZero-no (suc m) _ _ (λ z. omega arith)) ∙ h

pair_among : (k : List (List ℕ)) (first : Bool) (st : State) (p : TextPair) → GoodPair p → among readable (run_pair k first st p).number ≡ true
unfolding run_pair
pair_among k true st p g = texts_among k st p.texts
pair_among k false st p g = go (serial_checked st p.serial).number (serial_among st p.serial g.good)
  where
    go : (m : ℕ) → among readable m ≡ true → among readable (ifZero m (run_texts k (serial_checked st p.serial).state p.texts) (record { number = m; state = st })).number ≡ true
    go zero h = ap (λ (r : Step). among readable r.number) (ifZero-yes _ _ refl) ∙ texts_among k (serial_checked st p.serial).state p.texts
    go (suc m) h = ap (λ (r : Step). among readable r.number) (ifZero-no (suc m) _ _ (λ z. omega arith)) ∙ h

pairs_among : (k : List (List ℕ)) (first : Bool) (st : State) {ps : List TextPair} → GoodPairs ps → among readable (run_pairs k first st ps).number ≡ true
unfolding run_pairs
pairs_among k first st nothing = zero_among
pairs_among k first st (also {p = p} {ps = ps} g gs) =
    go (run_pair k first st p) (pair_among k first st p g) (pairs_among k false (run_pair k first st p).state gs)
  where
    go : (r : Step) → among readable r.number ≡ true → among readable (run_pairs k false r.state ps).number ≡ true
        → among readable (ifZero r.number (run_pairs k false r.state ps) r).number ≡ true
    go r h rec = last r.number refl
      where
        last : (m : ℕ) → r.number ≡ m → among readable (ifZero r.number (run_pairs k false r.state ps) r).number ≡ true
        last zero q = ap (λ (x : Step). among readable x.number) (ifZero-yes _ _ q) ∙ rec
        last (suc m) q = ap (λ (x : Step). among readable x.number) (ifZero-no r.number _ _ (λ z. omega (arith, z, q))) ∙ h

answer_number : (r : Step) → (last_answer r).number ≡ r.number
unfolding last_answer accepted refused
answer_number r = go r.number refl
  where
    go : (m : ℕ) → r.number ≡ m → (ifZero {X = TakenOver} m (record { number = 0; index = 0; state = r.state }) (record { number = m; index = r.state.issued; state = unopened })).number ≡ m
    go zero q = ap (λ (t : TakenOver). t.number) (ifZero-yes _ _ refl)
    go (suc m) q = ap (λ (t : TakenOver). t.number) (ifZero-no (suc m) _ _ (λ z. omega arith))

four_among : among readable 4 ≡ true
unfolding among
four_among = refl

refused_four : (refused 4 0).number ≡ 4
unfolding refused
refused_four = refl

spelled_among : (o : Owner) (p : TextPair) (ps : List TextPair) (key : List ℕ) (n : ℕ) → GoodParts o (p ∷ ps) → among readable (take_over (journal_spelled o (p ∷ ps)) key n).number ≡ true
unfolding parts_taken
spelled_among o p ps key n g =
    ap (λ (t : TakenOver). among readable t.number) (sym (read_is_taken_over o p ps key n g)) ∙ go (width_good n)
  where
    go : (t : Bool) → among readable (cond t (last_answer (run_pairs (key_schedule key) true (fresh (settings_for o p.serial) n key) (p ∷ ps))) (refused 4 0)).number ≡ true
    go true = ap (among readable) (answer_number (run_pairs (key_schedule key) true (fresh (settings_for o p.serial) n key) (p ∷ ps))) ∙ pairs_among (key_schedule key) true _ g.pairs
    go false = ap (among readable) refused_four ∙ four_among

-- ---- Take over never gives 6

step_among : (k : List (List ℕ)) (st : State) (j : List ℕ) → among takeable (one_step k st j).number ≡ true
unfolding one_step end_checked start_checked start_number place_checked entry_number among
step_among k st j = go (full st j) (leb (length j) st.length)
  where
    start : among takeable (start_number st j) ≡ true
    start = ask_among takeable _ 21 _ refl (renew_among takeable_has st (serial_at j st.length))

    entry : among takeable (entry_number k st j) ≡ true
    entry = ask_among takeable _ 15 _ refl (text_among takeable_has k st (text_at j st.length))

    go : (t u : Bool)
        → among takeable (cond t (cond u (stopped 0 st) (ifZero (start_number st j) (stopped 0 (renewed st (serial_at j st.length))) (stopped (start_number st j) st))) (checked (entry_number k st j) st (text_at j st.length))).number ≡ true
    go true true = ap (among takeable) (stopped_number 0 st)
    go true false = ap (among takeable) (ended_number (start_number st j) (renewed st (serial_at j st.length)) st) ∙ start
    go false u = ap (among takeable) (checked_number (entry_number k st j) st (text_at j st.length)) ∙ entry

refused_is : (m i : ℕ) → (refused m i).number ≡ m
unfolding refused
refused_is m i = refl

steps_none : (k : List (List ℕ)) (st : State) (j : List ℕ) → (last_answer (steps k 0 st j)).number ≡ 0
unfolding steps last_answer ifZero accepted
steps_none k st j = refl

steps_stuck : (k : List (List ℕ)) (n : ℕ) (st : State) (j : List ℕ) (m : ℕ) → (one_step k st j).number ≡ suc m → (last_answer (steps k (suc n) st j)).number ≡ suc m
unfolding steps last_answer ifZero refused
steps_stuck k n st j m e = rw e

steps_turn : (k : List (List ℕ)) (n : ℕ) (st : State) (j : List ℕ) → (one_step k st j).number ≡ 0 → last_answer (steps k (suc n) st j) ≡ last_answer (steps k n (one_step k st j).state j)
steps_turn k n st j e = ap last_answer (turn k j n st e)

steps_among : (k : List (List ℕ)) (n : ℕ) (st : State) (j : List ℕ) → among takeable (last_answer (steps k n st j)).number ≡ true
steps_among k zero st j = ap (among takeable) (steps_none k st j) ∙ takeable_has.zeros
steps_among k (suc n) st j = go (one_step k st j).number refl (steps_among k n (one_step k st j).state j)
  where
    go : (m : ℕ) → (one_step k st j).number ≡ m → among takeable (last_answer (steps k n (one_step k st j).state j)).number ≡ true
        → among takeable (last_answer (steps k (suc n) st j)).number ≡ true
    go zero e rec = ap (λ (t : TakenOver). among takeable t.number) (steps_turn k n st j e) ∙ rec
    go (suc m) e rec = ap (among takeable) (steps_stuck k n st j m e) ∙ (ap (among takeable) (sym e) ∙ step_among k st j)

head_among : (j : List ℕ) (n : ℕ) → among takeable (head_number j n) ≡ true
unfolding head_number among
head_among j n = ask_among takeable _ 4 _ refl (ask_among takeable _ 14 0 refl refl)

taken_among : (j key : List ℕ) (n : ℕ) → among takeable (take_over j key n).number ≡ true
unfolding take_over
taken_among j key n = go (head_number j n) (head_among j n)
  where
    go : (m : ℕ) → among takeable m ≡ true
        → among takeable (ifZero m (last_answer (steps (key_schedule key) (length j) (fresh (head_settings j) n key) j)) (refused m 0)).number ≡ true
    go zero h = ap (λ (t : TakenOver). among takeable t.number) (ifZero-yes _ _ refl) ∙ steps_among (key_schedule key) (length j) (fresh (head_settings j) n key) j
    go (suc m) h = ap (λ (t : TakenOver). among takeable t.number) (ifZero-no (suc m) _ _ (λ z. omega arith)) ∙ (ap (among takeable) (refused_is (suc m) 0) ∙ h)

six_not : among takeable 6 ≡ false
unfolding among
six_not = refl

pub never_six : (j key : List ℕ) (n : ℕ) → (take_over j key n).number ≡ 6 → ⊥
never_six j key n e = true-is-not-false (sym six_not ∙ sym (ap (among takeable) e) ∙ taken_among j key n)

-- ---- the answer

abbrev listed : List ℕ
listed = 0 ∷ 4 ∷ 16 ∷ 17 ∷ 18 ∷ 19 ∷ 20 ∷ 23 ∷ 28 ∷ 29 ∷ 30 ∷ 31 ∷ []

number_among : (es : List Element) (size : ℕ) → among listed (elements_number es size) ≡ true
unfolding elements_number survey_number among
number_among es size =
    ask_among listed _ 28 _ refl (ask_among listed _ 29 _ refl (ask_among listed _ 28 _ refl (ask_among listed _ 23 0 refl refl)))

read_number : (m i : ℕ) → (not_read m i).number ≡ m
unfolding not_read
read_number m i = refl

of_parts : (e : Element) (es : List Element) (key : List ℕ) (n : ℕ) → Surveyed (e ∷ es) → length (journal_of_elements (e ∷ es)) < 18446744073709551616 → among readable (take_over (journal_of_elements (e ∷ es)) key n).number ≡ true
unfolding journal_of_elements
of_parts e es key n s l = spelled_among (owner_of (e ∷ es)) (pair_of e) (map pair_of es) key n (owner_parts e es s l)

journal_among : (es : List Element) (key : List ℕ) (n size : ℕ) → size < 18446744073709551616 → elements_number es size ≡ 0 → among listed (take_over (journal_of_elements es) key n).number ≡ true
journal_among es key n size h z =
    let a = asked_survey es size z in
    but_first 6 listed (take_over (journal_of_elements es) key n).number (go es a.0 (omega (arith, a.1, h))) (never_six (journal_of_elements es) key n)
  where
    go : (es : List Element) → Surveyed es → length (journal_of_elements es) < 18446744073709551616 → among readable (take_over (journal_of_elements es) key n).number ≡ true
    go [] s l = true-is-not-false s.some
    go (e ∷ es) s l = of_parts e es key n s l

pub numbers_of_reading : NumbersOfReading
unfolding restored among
numbers_of_reading text key n size h = go (elements_of text)
  where
    last : (es : List Element) → elements_number es size ≡ 0 → (m : ℕ) → (take_over (journal_of_elements es) key n).number ≡ m → among listed (restored_by (some es) key n size).number ≡ true
    last es q zero t = ap (λ (r : Restored). among listed r.number) (ifZero-yes _ _ q ∙ ifZero-yes _ _ t)
    last es q (suc m) t =
        ap (λ (r : Restored). among listed r.number) (ifZero-yes _ _ q ∙ ifZero-no (take_over (journal_of_elements es) key n).number _ _ (λ z. omega (arith, z, t)))
        ∙ (ap (among listed) (read_number (take_over (journal_of_elements es) key n).number (take_over (journal_of_elements es) key n).index) ∙ journal_among es key n size h q)

    some_of_lem : (es : List Element) (m : ℕ) → elements_number es size ≡ m → among listed (restored_by (some es) key n size).number ≡ true
    some_of_lem es zero q = last es q (take_over (journal_of_elements es) key n).number refl
    some_of_lem es (suc m) q =
        ap (λ (r : Restored). among listed r.number) (ifZero-no (elements_number es size) _ _ (λ z. omega (arith, z, q)))
        ∙ (ap (among listed) (read_number (elements_number es size) 0) ∙ number_among es size)

    go : (o : Option (List Element)) → among listed (restored_by o key n size).number ≡ true
    go none = ap (among listed) (read_number 28 0)
    go (some es) = some_of_lem es (elements_number es size) refl
