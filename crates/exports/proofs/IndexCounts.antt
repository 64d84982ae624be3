-- The index of a refused reading: the receipts of all elements before the refused place.
use Rattle.std.proofs.Common.{ℕ, zero, suc, ◌+◌, ◌≤◌, ◌<◌, ◌≡◌, refl, sym, ap, ◌∙◌, subst, Bool, true, false, cond, not, ◌||◌, List, [], ◌∷◌, ◌++◌, map, append_assoc, ⊎_elim, arith, eqb-true, eqb, length, length-append}
use mathlib.Core.Option.{Option, none, some}
use Rattle.primitives.specs.Number.{bytes_of}
use Rattle.primitives.specs.Counter.{width_good}
use Rattle.primitives.specs.Aes.{key_schedule}
use Rattle.primitives.specs.Questions.{ask, ifZero}
use Rattle.primitives.proofs.Rows.{both, true-is-not-false, ask_no, ifZero-yes, ifZero-no}
use Rattle.primitives.proofs.Numbers.{length_bytes_of}
use Rattle.receipt.specs.Settings.{name_text, serial_good}
use Rattle.receipt.specs.declared.settings.Name.{Name}
use Rattle.journal.specs.Head.{section, pair_start, head_settings, head_good}
use Rattle.journal.specs.Step.{fresh, renewed, renew_number}
use Rattle.journal.specs.Valid.{Owner, owner_text, settings_for}
use Rattle.journal.specs.Checking.{context_number, text_number, stopped, checked, text_checked, entry_ready, entry_checked, serial_ready, serial_number, serial_checked, refused, accepted, last_answer, steps, head_number, take_over}
use Rattle.journal.specs.declared.state.State.{State}
use Rattle.journal.specs.declared.state.TakenOver.{TakenOver}
use Rattle.journal.specs.declared.checking.Step.{Step}
use Rattle.exports.specs.Text.{every}
use Rattle.exports.specs.Shape.{Element, Shape}
use Rattle.exports.specs.Parsed.{elements_of}
use Rattle.exports.specs.Spelled.{short, sized_texts, TextPair, pair_spelled, pairs_spelled, journal_spelled, GoodPair, GoodPairs, nothing, also}
use Rattle.exports.specs.Running.{run_texts, run_pair, run_pairs}
use Rattle.exports.specs.Reading.{settings_of, owner_of, pair_of, journal_of_elements, survey_number, elements_number, not_read, restored_from, restored_by, restored}
use Rattle.exports.specs.TakenOver.{GoodParts, parts_taken}
use Rattle.exports.specs.Promises.{among}
use Rattle.exports.specs.Indices.{receipt_count, journal_up_to, ReceiptRefused, SerialRefused, of_receipt, of_serial, of_neither, IndexCountsAllReceipts}
use Rattle.exports.specs.Reading.{Restored}
use Rattle.exports.proofs.Sized.{sized_append}
use Rattle.exports.proofs.PairsBack.{pairs_nil, pairs_cons}
use Rattle.exports.proofs.TakenAsSpelled.{read_is_taken_over}
use Rattle.exports.proofs.ElementsTaken.{Surveyed, owner_parts}
use Rattle.exports.proofs.Promising.{asked_survey}
use Rattle.exports.proofs.Unique.{exact}
use Rattle.exports.proofs.ReadNumbers.{ask_among, but_first, checked_number, stopped_number, ended_number, good_number, never_six}
use Rattle.exports.proofs.RunStops.{pair_with, texts_issued, pairs_issued, TextsStop, texts_stop, later, PairsStop, pairs_stop, pair_last, Runs, Stops, pair_case, pairs_stay}

-- ---- the first parts of good parts are good

start_length : (s : Name) (a b : ℕ) → length (pair_start s a) ≡ length (pair_start s b)
unfolding pair_start
start_length s a b =
    omega (
      arith,
      length-append (section (name_text s)) (bytes_of 4 a),
      length-append (section (name_text s)) (bytes_of 4 b),
      length_bytes_of 4 a,
      length_bytes_of 4 b,
    )

pair_shorter : (s : Name) (ws left : List (List ℕ)) → length (pair_spelled (pair_with s ws)) ≤ length (pair_spelled (pair_with s (ws ++ left)))
unfolding pair_spelled
pair_shorter s ws left =
    omega (
      arith,
      length-append (pair_start s (length ws)) (sized_texts ws),
      length-append (pair_start s (length (ws ++ left))) (sized_texts (ws ++ left)),
      start_length s (length ws) (length (ws ++ left)),
      ap length (sized_append ws left),
      length-append (sized_texts ws) (sized_texts left),
    )

every_left : (ws left : List (List ℕ)) → every short (ws ++ left) ≡ true → every short ws ≡ true
unfolding every
every_left [] left h = refl
every_left (w ∷ ws) left h = let a = both (short w) (every short (ws ++ left)) h in rw (a.0, every_left ws left a.1)

pair_fewer : (s : Name) (ws left : List (List ℕ)) → GoodPair (pair_with s (ws ++ left)) → GoodPair (pair_with s ws)
pair_fewer s ws left g =
    record { long = g.long; good = g.good; short = every_left ws left g.short; few = omega (arith, g.few, length-append ws left) }

pairs_length : (ps qs : List TextPair) → length (pairs_spelled (ps ++ qs)) ≡ length (pairs_spelled ps) + length (pairs_spelled qs)
pairs_length [] qs = omega (arith, ap length pairs_nil)
pairs_length (p ∷ ps) qs =
    omega (
      arith,
      ap length (pairs_cons p (ps ++ qs)),
      ap length (pairs_cons p ps),
      length-append (pair_spelled p) (pairs_spelled (ps ++ qs)),
      length-append (pair_spelled p) (pairs_spelled ps),
      pairs_length ps qs,
    )

pairs_before : (ps qs : List TextPair) → GoodPairs (ps ++ qs) → GoodPairs ps
pairs_before [] qs g = nothing
pairs_before (p ∷ ps) qs (also h g) = also h (pairs_before ps qs g)

pair_there : (ps : List TextPair) (p : TextPair) (qs : List TextPair) → GoodPairs (ps ++ (p ∷ qs)) → GoodPair p
pair_there [] p qs (also h g) = h
pair_there (q ∷ ps) p qs (also h g) = pair_there ps p qs g

pairs_then : (ps : List TextPair) (q : TextPair) → GoodPairs ps → GoodPair q → GoodPairs (ps ++ (q ∷ []))
pairs_then [] q g h = also h nothing
pairs_then (p ∷ ps) q (also i g) h = also i (pairs_then ps q g h)

journal_length : (o : Owner) (ps : List TextPair) → length (journal_spelled o ps) ≡ length (owner_text o) + length (pairs_spelled ps)
unfolding journal_spelled
journal_length o ps = length-append (owner_text o) (pairs_spelled ps)

parts_before : (o : Owner) (ps qs : List TextPair) → GoodParts o (ps ++ qs) → GoodParts o ps
parts_before o ps qs g =
    record {
      three = g.three;
      csp = g.csp;
      long = g.long;
      id = g.id;
      pairs = pairs_before ps qs g.pairs;
      fits = omega (arith, g.fits, journal_length o ps, journal_length o (ps ++ qs), pairs_length ps qs);
    }

parts_cut : (o : Owner) (ps : List TextPair) (s : Name) (ws left : List (List ℕ)) (qs : List TextPair)
    → GoodParts o (ps ++ (pair_with s (ws ++ left) ∷ qs)) → GoodParts o (ps ++ (pair_with s ws ∷ []))
parts_cut o ps s ws left qs g =
    record {
      three = g.three;
      csp = g.csp;
      long = g.long;
      id = g.id;
      pairs = pairs_then ps (pair_with s ws) (pairs_before ps _ g.pairs) (pair_fewer s ws left (pair_there ps _ qs g.pairs));
      fits =
          omega (
            arith,
            g.fits,
            journal_length o (ps ++ (pair_with s (ws ++ left) ∷ qs)),
            journal_length o (ps ++ (pair_with s ws ∷ [])),
            pairs_length ps (pair_with s (ws ++ left) ∷ qs),
            pairs_length ps (pair_with s ws ∷ []),
            ap length (pairs_cons (pair_with s (ws ++ left)) qs),
            ap length (pairs_cons (pair_with s ws) []),
            length-append (pair_spelled (pair_with s (ws ++ left))) (pairs_spelled qs),
            length-append (pair_spelled (pair_with s ws)) (pairs_spelled []),
            ap length pairs_nil,
            pair_shorter s ws left,
          );
    }

-- ---- answers

answer_yes : (r : Step) → r.number ≡ 0 → last_answer r ≡ accepted r.state
unfolding last_answer
answer_yes r z = ifZero-yes _ _ z

answer_no : (r : Step) → (r.number ≡ 0 → ⊥) → last_answer r ≡ refused r.number r.state.issued
unfolding last_answer
answer_no r d = ifZero-no r.number _ _ d

accepted_is : (st : State) → ((accepted st).number ≡ 0) × ((accepted st).index ≡ 0) × ((accepted st).state ≡ st)
unfolding accepted
accepted_is st = (refl, refl, refl)

refused_is : (m i : ℕ) → ((refused m i).number ≡ m) × ((refused m i).index ≡ i)
unfolding refused
refused_is m i = (refl, refl)

-- a refused answer by its own number and index
refused_self : (t : TakenOver) (m i : ℕ) → t ≡ refused m i → t ≡ refused t.number t.index
refused_self t m i e =
    e ∙ (λ x. refused ((sym (refused_is m i).0 ∙ ap (λ (u : TakenOver). u.number) (sym e)) x) ((sym (refused_is m i).1 ∙ ap (λ (u : TakenOver). u.index) (sym e)) x))

-- ---- Take over on the first parts

-- the serial of the first element; where there is none, another
unfoldable serial_in : List Element → Name → Name
serial_in [] s = s
serial_in (e ∷ es) s = (pair_of e).serial

serial_first : (e : Element) (es before : List Element) (x : Element) (after : List Element) → e ∷ es ≡ before ++ (x ∷ after)
    → serial_in before (pair_of x).serial ≡ (pair_of e).serial
unfolding serial_in
serial_first e es [] x after p = ap (λ (l : List Element). serial_in l (pair_of e).serial) (sym p)
serial_first e es (b ∷ bs) x after p = ap (λ (l : List Element). serial_in l (pair_of e).serial) (sym p)

module _ (o : Owner) (key : List ℕ) (n : ℕ) (good : width_good n ≡ true) where
  taken : (p : TextPair) (ps : List TextPair) → GoodParts o (p ∷ ps)
      → take_over (journal_spelled o (p ∷ ps)) key n ≡ last_answer (run_pairs (key_schedule key) true (fresh (settings_for o p.serial) n key) (p ∷ ps))
  unfolding parts_taken
  taken p ps g = sym (read_is_taken_over o p ps key n g) ∙ rw good

  taken_then : (before : List Element) (q : TextPair) → GoodParts o (map pair_of before ++ (q ∷ []))
      → take_over (journal_spelled o (map pair_of before ++ (q ∷ []))) key n
      ≡ last_answer (run_pairs (key_schedule key) true (fresh (settings_for o (serial_in before q.serial)) n key) (map pair_of before ++ (q ∷ [])))
  unfolding serial_in
  taken_then [] q g = taken q [] g
  taken_then (b ∷ bs) q g = taken (pair_of b) (map pair_of bs ++ (q ∷ [])) g

  taken_some : (before : List Element) (s : Name) → (before ≡ [] → ⊥) → GoodParts o (map pair_of before)
      → take_over (journal_spelled o (map pair_of before)) key n
      ≡ last_answer (run_pairs (key_schedule key) true (fresh (settings_for o (serial_in before s)) n key) (map pair_of before))
  unfolding serial_in
  taken_some [] s d g = absurd (d refl)
  taken_some (b ∷ bs) s d g = taken (pair_of b) (map pair_of bs) g

-- ---- numbers at a receipt and at a serial

entry_numbers : (k : List (List ℕ)) (st : State) (w : List ℕ) → among (0 ∷ 6 ∷ of_receipt) (entry_checked k st w).number ≡ true
unfolding entry_checked text_checked among text_number context_number
entry_numbers k st w = go (entry_ready st w)
  where
    go : (t : Bool) → among (0 ∷ 6 ∷ of_receipt) (cond t (checked (text_number k st w) st w) (stopped 6 st)).number ≡ true
    go true =
        ap (among (0 ∷ 6 ∷ of_receipt)) (checked_number (text_number k st w) st w)
        ∙ ask_among (0 ∷ 6 ∷ of_receipt) _ 16 _ refl
        (ask_among (0 ∷ 6 ∷ of_receipt) _ 17 _ refl
        (ask_among (0 ∷ 6 ∷ of_receipt) _ 18 _ refl (ask_among (0 ∷ 6 ∷ of_receipt) _ 19 _ refl (ask_among (0 ∷ 6 ∷ of_receipt) _ 20 0 refl refl))))
    go false = ap (among (0 ∷ 6 ∷ of_receipt)) (stopped_number 6 st)

serial_numbers : (st : State) (s : Name) → serial_good s ≡ true → among (0 ∷ 6 ∷ of_serial) (serial_checked st s).number ≡ true
unfolding serial_checked among renew_number
serial_numbers st s g = go (serial_ready st s)
  where
    go : (t : Bool)
        → among (0 ∷ 6 ∷ of_serial) (cond t (ifZero (serial_number st s) (stopped 0 (renewed st s)) (stopped (serial_number st s) st)) (stopped 6 st)).number ≡ true
    go true =
        ap (among (0 ∷ 6 ∷ of_serial)) (ended_number (serial_number st s) (renewed st s) st ∙ good_number st s g)
        ∙ ask_among (0 ∷ 6 ∷ of_serial) _ 30 _ refl (ask_among (0 ∷ 6 ∷ of_serial) _ 31 0 refl refl)
    go false = ap (among (0 ∷ 6 ∷ of_serial)) (stopped_number 6 st)

-- ---- refused by Take over

pair_is : (x : Element) → pair_of x ≡ pair_with (settings_of x).serial x.receipts
unfolding pair_of
pair_is x = refl

up_to_is : (o : Owner) (before : List Element) (x : Element) (ws : List (List ℕ))
    → journal_up_to o before x ws ≡ journal_spelled o (map pair_of before ++ (pair_with (settings_of x).serial ws ∷ []))
unfolding journal_up_to
up_to_is o before x ws = refl

journal_is : (es : List Element) → journal_of_elements es ≡ journal_spelled (owner_of es) (map pair_of es)
unfolding journal_of_elements
journal_is es = refl

pairs_append : (es fs : List Element) → map pair_of (es ++ fs) ≡ map pair_of es ++ map pair_of fs
pairs_append [] fs = refl
pairs_append (e ∷ es) fs = ap (λ (l : List TextPair). pair_of e ∷ l) (pairs_append es fs)

data Place (es : List Element) (key : List ℕ) (n number index : ℕ) : Type 0 where
  receipt_there : among of_receipt number ≡ true → ReceiptRefused es key n number index → Place es key n number index
  serial_there : among of_serial number ≡ true → SerialRefused es key n number index → Place es key n number index

owner_before : (es before : List Element) (x : Element) (after : List Element) → es ≡ before ++ (x ∷ after) → (before ≡ [] → ⊥) → owner_of before ≡ owner_of es
unfolding owner_of
owner_before es [] x after p d = absurd (d refl)
owner_before es (b ∷ bs) x after p d = ap owner_of (sym p)

module _ (e : Element) (es : List Element) (key : List ℕ) (n : ℕ) (width : width_good n ≡ true) (g : GoodParts (owner_of (e ∷ es)) (map pair_of (e ∷ es))) where
  o : Owner
  o = owner_of (e ∷ es)

  k : List (List ℕ)
  k = key_schedule key

  start : State
  start = fresh (settings_for o (pair_of e).serial) n key

  whole : Step
  whole = run_pairs k true start (map pair_of (e ∷ es))

  answer : TakenOver
  answer = take_over (journal_of_elements (e ∷ es)) key n

  answer_is : answer ≡ last_answer whole
  unfolding answer whole start k o
  answer_is = ap (λ (j : List ℕ). take_over j key n) (journal_is (e ∷ es)) ∙ taken o key n width (pair_of e) (map pair_of es) g

  -- a place of the elements
  module _ (before : List Element) (x : Element) (after : List Element) (p : e ∷ es ≡ before ++ (x ∷ after)) where
    serial : Name
    serial = (settings_of x).serial

    pairs_are : map pair_of (e ∷ es) ≡ map pair_of before ++ (pair_with serial x.receipts ∷ map pair_of after)
    unfolding serial
    pairs_are =
        ap (map pair_of) p
        ∙ (pairs_append before (x ∷ after) ∙ ap (λ (q : TextPair). map pair_of before ++ (q ∷ map pair_of after)) (pair_is x))

    good_pairs : GoodParts o (map pair_of before ++ (pair_with serial x.receipts ∷ map pair_of after))
    unfolding o
    good_pairs = subst (GoodParts o) pairs_are g

    start_is : fresh (settings_for o (serial_in before serial)) n key ≡ start
    unfolding start serial
    start_is =
        ap (λ (s : Name). fresh (settings_for o s) n key)
        (ap (λ (q : TextPair). serial_in before q.serial) (sym (pair_is x)) ∙ serial_first e es before x after p)

    -- with some of the receipts of the element
    up_to : (ws left : List (List ℕ)) → x.receipts ≡ ws ++ left
        → take_over (journal_up_to (owner_of (e ∷ es)) before x ws) key n ≡ last_answer (run_pairs k true start (map pair_of before ++ (pair_with serial ws ∷ [])))
    unfolding o serial k
    up_to ws left q =
        ap (λ (j : List ℕ). take_over j key n) (up_to_is o before x ws)
        ∙ (taken_then o key n width before (pair_with serial ws)
        (parts_cut o (map pair_of before) serial ws left (map pair_of after)
        (subst (λ (l : List (List ℕ)). GoodParts o (map pair_of before ++ (pair_with serial l ∷ map pair_of after))) q good_pairs))
        ∙ ap (λ (st : State). last_answer (run_pairs k true st (map pair_of before ++ (pair_with serial ws ∷ [])))) start_is)

    -- what follows a refused place does not matter
    same_answer : (ws left : List (List ℕ)) (m i : ℕ) → x.receipts ≡ ws ++ left → (m ≡ 0 → ⊥)
        → take_over (journal_up_to (owner_of (e ∷ es)) before x ws) key n ≡ refused m i → take_over (journal_of_elements (e ∷ es)) key n ≡ refused m i
    unfolding answer whole
    same_answer ws left m i q d h =
        let run = run_pairs k true start (map pair_of before ++ (pair_with serial ws ∷ [])) in
        let t : last_answer run ≡ refused m i = sym (up_to ws left q) ∙ h in
        let stuck : run.number ≡ 0 → ⊥ = λ z.
        d (sym (refused_is m i).0 ∙ (ap (λ (u : TakenOver). u.number) (sym t ∙ answer_yes run z) ∙ (accepted_is run.state).0)) in
        answer_is
        ∙ (ap (λ (ps : List TextPair). last_answer (run_pairs k true start ps))
        (pairs_are ∙ ap (λ (l : List (List ℕ)). map pair_of before ++ (pair_with serial l ∷ map pair_of after)) q)
        ∙ (ap last_answer (pairs_stay k (map pair_of before) true start serial ws left (map pair_of after) stuck) ∙ t))

  -- refused
  module _ (d : (take_over (journal_of_elements (e ∷ es)) key n).number ≡ 0 → ⊥) where
    not_zero : whole.number ≡ 0 → ⊥
    unfolding answer
    not_zero z = d (ap (λ (t : TakenOver). t.number) (answer_is ∙ answer_yes whole z) ∙ (accepted_is whole.state).0)

    refused_answer : answer ≡ refused whole.number whole.state.issued
    refused_answer = answer_is ∙ answer_no whole not_zero

    self : answer ≡ refused answer.number answer.index
    self = refused_self answer whole.number whole.state.issued refused_answer

    number_is : answer.number ≡ whole.number
    number_is = ap (λ (t : TakenOver). t.number) refused_answer ∙ (refused_is whole.number whole.state.issued).0

    index_is : answer.index ≡ whole.state.issued
    index_is = ap (λ (t : TakenOver). t.index) refused_answer ∙ (refused_is whole.number whole.state.issued).1

    not_six : whole.number ≡ 6 → ⊥
    unfolding answer
    not_six q = never_six (journal_of_elements (e ∷ es)) key n (number_is ∙ q)

    r : PairsStop k true start (e ∷ es)
    unfolding whole
    r = pairs_stop k (e ∷ es) true start not_zero

    middle : State
    middle = (run_pairs k true start (map pair_of r.before)).state

    first : Bool
    first = later k true (map pair_of r.before)

    name : Name
    name = (settings_of r.element).serial

    start_issued : start.issued ≡ 0
    unfolding start fresh
    start_issued = refl

    middle_issued : middle.issued ≡ receipt_count r.before
    unfolding middle
    middle_issued = omega (arith, pairs_issued k r.before true start r.passed, start_issued)

    whole_is : whole ≡ run_pair k first middle (pair_with name r.element.receipts)
    unfolding whole first middle name
    whole_is = r.is ∙ ap (run_pair k first middle) (pair_is r.element)

    -- with some of the receipts of the element
    first_of_it : (ws left : List (List ℕ)) → r.element.receipts ≡ ws ++ left
        → take_over (journal_up_to (owner_of (e ∷ es)) r.before r.element ws) key n ≡ last_answer (run_pair k first middle (pair_with name ws))
    unfolding first middle name serial
    first_of_it ws left q =
        up_to r.before r.element r.after r.parts ws left q
        ∙ ap last_answer (pair_last k (map pair_of r.before) true start (pair_with name ws) r.passed)

    -- refused at a receipt
    module _ (c : Runs k first middle name) where
      texts_are : whole ≡ run_texts k c.base r.element.receipts
      texts_are = whole_is ∙ c.run r.element.receipts

      t : TextsStop k c.base r.element.receipts
      t = texts_stop k r.element.receipts c.base (λ z. not_zero (ap (λ (s : Step). s.number) texts_are ∙ z))

      done : Step
      done = run_texts k c.base t.done

      done_issued : done.state.issued ≡ receipt_count r.before + length t.done
      unfolding done
      done_issued = omega (arith, texts_issued k t.done c.base t.passed, c.issued, middle_issued)

      index_done : done.state.issued ≡ answer.index
      unfolding done
      index_done = ap (λ (s : State). s.issued) (sym t.state) ∙ (ap (λ (s : Step). s.state.issued) (sym texts_are) ∙ sym index_is)

      one_more : r.element.receipts ≡ (t.done ++ (t.text ∷ [])) ++ t.left
      one_more = t.parts ∙ sym (append_assoc t.done (t.text ∷ []) t.left)

      before_it : take_over (journal_up_to (owner_of (e ∷ es)) r.before r.element t.done) key n ≡ accepted done.state
      unfolding done
      before_it = first_of_it t.done (t.text ∷ t.left) t.parts ∙ (ap last_answer (c.run t.done) ∙ answer_yes done t.passed)

      at_receipt : ReceiptRefused (e ∷ es) key n answer.number answer.index
      at_receipt =
          record {
            before = r.before;
            element = r.element;
            after = r.after;
            elements = r.parts;
            done = t.done;
            receipt = t.text;
            left = t.left;
            receipts = t.parts;
            without = ap (λ (u : TakenOver). u.number) before_it ∙ (accepted_is done.state).0;
            issued = ap (λ (u : TakenOver). u.state.issued) before_it ∙ (ap (λ (s : State). s.issued) (accepted_is done.state).2 ∙ index_done);
            with_it =
                first_of_it (t.done ++ (t.text ∷ [])) t.left one_more
                ∙ (ap last_answer (c.run (t.done ++ (t.text ∷ [])) ∙ (t.same ∙ sym texts_are)) ∙ (sym answer_is ∙ self));
            counted = sym index_done ∙ done_issued;
          }

      receipt_number : among of_receipt answer.number ≡ true
      unfolding done
      receipt_number =
          let q : whole.number ≡ (entry_checked k done.state t.text).number = ap (λ (s : Step). s.number) texts_are ∙ t.number in
          ap (among of_receipt) number_is
          ∙ but_first 6 of_receipt whole.number
          (but_first 0 (6 ∷ of_receipt) whole.number (ap (among (0 ∷ 6 ∷ of_receipt)) q ∙ entry_numbers k done.state t.text) not_zero) not_six

    -- refused at a serial
    module _ (c : Stops k first middle name) where
      stop_is : whole ≡ record { number = (serial_checked middle name).number; state = middle }
      stop_is = whole_is ∙ c.run r.element.receipts

      some_before : r.before ≡ [] → ⊥
      unfolding first later
      some_before q = true-is-not-false (sym c.is_later ∙ ap (λ (l : List Element). later k true (map pair_of l)) q)

      middle_index : middle.issued ≡ answer.index
      middle_index = ap (λ (s : Step). s.state.issued) (sym stop_is) ∙ sym index_is

      before_serial : take_over (journal_of_elements r.before) key n ≡ accepted middle
      unfolding o k middle
      before_serial =
          let q = ap (λ (w : Owner). journal_spelled w (map pair_of r.before)) (owner_before (e ∷ es) r.before r.element r.after r.parts some_before) in
          ap (λ (j : List ℕ). take_over j key n) (journal_is r.before ∙ q)
          ∙ (taken_some o key n width r.before (serial r.before r.element r.after r.parts) some_before
          (parts_before o (map pair_of r.before) _ (good_pairs r.before r.element r.after r.parts))
          ∙ (ap (λ (st : State). last_answer (run_pairs k true st (map pair_of r.before))) (start_is r.before r.element r.after r.parts)
          ∙ answer_yes (run_pairs k true start (map pair_of r.before)) r.passed))

      at_serial : SerialRefused (e ∷ es) key n answer.number answer.index
      at_serial =
          record {
            before = r.before;
            element = r.element;
            after = r.after;
            elements = r.parts;
            some = some_before;
            without = ap (λ (u : TakenOver). u.number) before_serial ∙ (accepted_is middle).0;
            issued = ap (λ (u : TakenOver). u.state.issued) before_serial ∙ (ap (λ (s : State). s.issued) (accepted_is middle).2 ∙ middle_index);
            with_it = first_of_it [] r.element.receipts refl ∙ (ap last_answer (c.run [] ∙ sym stop_is) ∙ (sym answer_is ∙ self));
            counted = sym middle_index ∙ middle_issued;
          }

      serial_number_lem : among of_serial answer.number ≡ true
      unfolding name serial
      serial_number_lem =
          let q : whole.number ≡ (serial_checked middle name).number = ap (λ (s : Step). s.number) stop_is in
          let h : serial_good name ≡ true = (pair_there (map pair_of r.before) _ (map pair_of r.after) (good_pairs r.before r.element r.after r.parts).pairs).good in
          ap (among of_serial) number_is
          ∙ but_first 6 of_serial whole.number
          (but_first 0 (6 ∷ of_serial) whole.number (ap (among (0 ∷ 6 ∷ of_serial)) q ∙ serial_numbers middle name h) not_zero) not_six

    place_of : Place (e ∷ es) key n (take_over (journal_of_elements (e ∷ es)) key n).number (take_over (journal_of_elements (e ∷ es)) key n).index
    unfolding answer
    place_of = ⊎_elim (λ c. receipt_there (receipt_number c) (at_receipt c)) (λ c. serial_there (serial_number_lem c) (at_serial c)) (pair_case k first middle name)

-- ---- refused at no element

asked_numbers : (es : List Element) (size : ℕ) → among of_neither (elements_number es size) ≡ true
unfolding elements_number survey_number among
asked_numbers es size =
    ask_among of_neither _ 28 _ refl (ask_among of_neither _ 29 _ refl (ask_among of_neither _ 28 _ refl (ask_among of_neither _ 23 0 refl refl)))

width_no : (j key : List ℕ) (n : ℕ) → width_good n ≡ false → take_over j key n ≡ refused 4 0
unfolding take_over head_number
width_no j key n w =
    ap (λ (m : ℕ). ifZero m (last_answer (steps (key_schedule key) (length j) (fresh (head_settings j) n key) j)) (refused m 0)) (ask_no 4 (ask (head_good j) 14 0) w)
    ∙ ifZero-no 4 _ _ (λ z. omega arith)

-- ---- the answer

data Outcome (text key : List ℕ) (n number index : ℕ) : Type 0 where
  no_place : among of_neither number ≡ true → index ≡ 0 → Outcome text key n number index
  a_place : (es : List Element) → Shape text es → Place es key n number index → Outcome text key n number index

module _ (text key : List ℕ) (n size : ℕ) where
  move : (r s : Restored) → r ≡ s → Outcome text key n s.number s.index → Outcome text key n r.number r.index
  move r s e c = subst (λ (x : Restored). Outcome text key n x.number x.index) (sym e) c

  not_read_lem : (m i : ℕ) → Outcome text key n m i → Outcome text key n (not_read m i).number (not_read m i).index
  unfolding not_read
  not_read_lem m i c = c

  passed : (st : State) (l : ℕ) → Outcome text key n (ifZero {X = Restored} 0 (record { number = 0; index = 0; length = l; state = st }) (not_read 0 0)).number (ifZero {X = Restored} 0 (record { number = 0; index = 0; length = l; state = st }) (not_read 0 0)).index
  unfolding ifZero among
  passed st l = no_place refl refl

  four : Outcome text key n 4 0
  unfolding among
  four = no_place refl refl

  at_place : (es : List Element) → Shape text es → Surveyed es → length (journal_of_elements es) < 18446744073709551616 → width_good n ≡ true
      → ((take_over (journal_of_elements es) key n).number ≡ 0 → ⊥) → Outcome text key n (take_over (journal_of_elements es) key n).number (take_over (journal_of_elements es) key n).index
  at_place [] s y l w d = true-is-not-false y.some
  at_place (e ∷ es) s y l w d = a_place (e ∷ es) s (place_of e es key n w (owner_parts e es y l) d)

  taken_outcome : (es : List Element) → Shape text es → Surveyed es → length (journal_of_elements es) < 18446744073709551616
      → (l : ℕ) → Outcome text key n (restored_from (take_over (journal_of_elements es) key n) l).number (restored_from (take_over (journal_of_elements es) key n) l).index
  taken_outcome es s y h l = go (take_over (journal_of_elements es) key n).number (width_good n) refl refl
    where
      go : (m : ℕ) (t : Bool) → (take_over (journal_of_elements es) key n).number ≡ m → width_good n ≡ t
          → Outcome text key n (restored_from (take_over (journal_of_elements es) key n) l).number (restored_from (take_over (journal_of_elements es) key n) l).index
      go m false q w =
          let e = width_no (journal_of_elements es) key n w in
          let z : (take_over (journal_of_elements es) key n).number ≡ 4 = ap (λ (t : TakenOver). t.number) e ∙ (refused_is 4 0).0 in
          let i : (take_over (journal_of_elements es) key n).index ≡ 0 = ap (λ (t : TakenOver). t.index) e ∙ (refused_is 4 0).1 in
          move _ (not_read 4 0) (ifZero-no (take_over (journal_of_elements es) key n).number _ _ (λ y. omega (arith, y, z)) ∙ (λ x. not_read (z x) (i x))) (not_read_lem 4 0 four)
      go zero true q w = move _ _ (ifZero-yes _ _ q ∙ sym (ifZero-yes _ _ refl)) (passed (take_over (journal_of_elements es) key n).state l)
      go (suc m) true q w =
          let d : (take_over (journal_of_elements es) key n).number ≡ 0 → ⊥ = λ z. omega (arith, z, q) in
          move _ (not_read (take_over (journal_of_elements es) key n).number (take_over (journal_of_elements es) key n).index) (ifZero-no (take_over (journal_of_elements es) key n).number _ _ d)
          (not_read_lem _ _ (at_place es s y h w d))

  outcome : size < 18446744073709551616 → Outcome text key n (restored text key n size).number (restored text key n size).index
  unfolding restored among
  outcome h = go (elements_of text) refl
    where
      asked : (es : List Element) (m : ℕ) → elements_of text ≡ some es → elements_number es size ≡ m
          → Outcome text key n (restored_by (some es) key n size).number (restored_by (some es) key n size).index
      asked es zero e q =
          let a = asked_survey es size q in
          move _ _ (ifZero-yes _ _ q) (taken_outcome es ((exact text es).0 e) a.0 (omega (arith, a.1, h)) (length (journal_of_elements es)))
      asked es (suc m) e q =
          move _ (not_read (elements_number es size) 0) (ifZero-no (elements_number es size) _ _ (λ z. omega (arith, z, q)))
          (not_read_lem _ _ (no_place (asked_numbers es size) refl))

      go : (x : Option (List Element)) → elements_of text ≡ x → Outcome text key n (restored_by x key n size).number (restored_by x key n size).index
      go none e = not_read_lem 28 0 (no_place refl refl)
      go (some es) e = asked es (elements_number es size) e refl

-- ---- the statement

abbrev apart_from : List ℕ → ℕ → Bool
apart_from ns m = not (among ns m)

-- a number of two lists that share none
apart : (ms ns : List ℕ) (m : ℕ) → every (apart_from ns) ms ≡ true → among ms m ≡ true → among ns m ≡ true → ⊥
unfolding among every
apart [] ns m h a b = true-is-not-false a
apart (k ∷ ms) ns m h a b = go (eqb m k) refl a (λ c. apart ms ns m (both (apart_from ns k) _ h).1 c b)
  where
    go : (t : Bool) → eqb m k ≡ t → t || among ms m ≡ true → (among ms m ≡ true → ⊥) → ⊥
    go true e q rec =
        let c : among ns k ≡ true = ap (among ns) (sym (eqb-true m k e)) ∙ b in
        true-is-not-false (ap not (sym c) ∙ (both (apart_from ns k) _ h).0)
    go false e q rec = rec q

-- a place gives the answer
module _ (text key : List ℕ) (n size : ℕ) (h : size < 18446744073709551616) where
  width_yes : (j : List ℕ) → (take_over j key n).number ≡ 0 → width_good n ≡ true
  width_yes j z = go (width_good n) refl
    where
      go : (t : Bool) → width_good n ≡ t → t ≡ true
      go true w = refl
      go false w =
          let f : (take_over j key n).number ≡ 4 = ap (λ (u : TakenOver). u.number) (width_no j key n w) ∙ (refused_is 4 0).0 in
          absurd (omega (arith, f, z))

  refused_read : (es : List Element) (m i : ℕ) → Shape text es → elements_number es size ≡ 0 → (m ≡ 0 → ⊥) → take_over (journal_of_elements es) key n ≡ refused m i
      → ((restored text key n size).number ≡ m) × ((restored text key n size).index ≡ i)
  unfolding restored not_read
  refused_read es m i s q d t =
      let a : (take_over (journal_of_elements es) key n).number ≡ m = ap (λ (u : TakenOver). u.number) t ∙ (refused_is m i).0 in
      let b : (take_over (journal_of_elements es) key n).index ≡ i = ap (λ (u : TakenOver). u.index) t ∙ (refused_is m i).1 in
      let r : restored text key n size ≡ not_read (take_over (journal_of_elements es) key n).number (take_over (journal_of_elements es) key n).index =
      ap (λ (x : Option (List Element)). restored_by x key n size) ((exact text es).1 s)
      ∙ (ifZero-yes _ _ q ∙ ifZero-no (take_over (journal_of_elements es) key n).number _ _ (λ z. d (sym a ∙ z))) in
      (ap (λ (x : Restored). x.number) r ∙ a, ap (λ (x : Restored). x.index) r ∙ b)

  -- refused at these receipts of an element, whatever follows them
  refused_there : (es before : List Element) (x : Element) (after : List Element) (ws left : List (List ℕ)) (m i : ℕ) → Shape text es → elements_number es size ≡ 0
      → width_good n ≡ true → es ≡ before ++ (x ∷ after) → x.receipts ≡ ws ++ left → (m ≡ 0 → ⊥)
      → take_over (journal_up_to (owner_of es) before x ws) key n ≡ refused m i → ((restored text key n size).number ≡ m) × ((restored text key n size).index ≡ i)
  refused_there [] before x after ws left m i s q w p f d t = true-is-not-false (asked_survey [] size q).0.some
  refused_there (e ∷ es) before x after ws left m i s q w p f d t =
      let a = asked_survey (e ∷ es) size q in
      let g = owner_parts e es a.0 (omega (arith, a.1, h)) in
      refused_read (e ∷ es) m i s q d (same_answer e es key n w g before x after p ws left m i f d t)

  this_receipt : (es : List Element) (m i : ℕ) → Shape text es → elements_number es size ≡ 0 → (m ≡ 0 → ⊥) → ReceiptRefused es key n m i
      → ((restored text key n size).number ≡ m) × ((restored text key n size).index ≡ i)
  this_receipt es m i s q d c =
      refused_there es c.before c.element c.after (c.done ++ (c.receipt ∷ [])) c.left m i s q (width_yes _ c.without) c.elements
      (c.receipts ∙ sym (append_assoc c.done (c.receipt ∷ []) c.left)) d c.with_it

  this_serial : (es : List Element) (m i : ℕ) → Shape text es → elements_number es size ≡ 0 → (m ≡ 0 → ⊥) → SerialRefused es key n m i
      → ((restored text key n size).number ≡ m) × ((restored text key n size).index ≡ i)
  this_serial es m i s q d c =
      refused_there es c.before c.element c.after [] c.element.receipts m i s q (width_yes _ c.without) c.elements refl d c.with_it

pub index_counts_all_receipts : IndexCountsAllReceipts
unfolding among every
index_counts_all_receipts =
    record {
      neither = λ text key n size h a. neither_of text key n _ _ a (outcome text key n size h);
      receipt = λ text key n size h a. receipt_of_lem text key n _ _ a (outcome text key n size h);
      serial = λ text key n size h a. serial_of text key n _ _ a (outcome text key n size h);
      this_receipt = λ text key n size es m i h s q a c.
          this_receipt text key n size h es m i s q (λ z. apart of_receipt (0 ∷ []) m refl a (ap (among (0 ∷ [])) z)) c;
      this_serial = λ text key n size es m i h s q a c.
          this_serial text key n size h es m i s q (λ z. apart of_serial (0 ∷ []) m refl a (ap (among (0 ∷ [])) z)) c;
    }
  where
    neither_of : (text key : List ℕ) (n m i : ℕ) → among of_neither m ≡ true → Outcome text key n m i → i ≡ 0
    neither_of text key n m i a (no_place b z) = z
    neither_of text key n m i a (a_place es s (receipt_there b r)) = absurd (apart of_neither of_receipt m refl a b)
    neither_of text key n m i a (a_place es s (serial_there b r)) = absurd (apart of_neither of_serial m refl a b)

    receipt_of_lem : (text key : List ℕ) (n m i : ℕ) → among of_receipt m ≡ true → Outcome text key n m i → (es : List Element) × Shape text es × ReceiptRefused es key n m i
    receipt_of_lem text key n m i a (no_place b z) = absurd (apart of_receipt of_neither m refl a b)
    receipt_of_lem text key n m i a (a_place es s (receipt_there b r)) = (es, s, r)
    receipt_of_lem text key n m i a (a_place es s (serial_there b r)) = absurd (apart of_receipt of_serial m refl a b)

    serial_of : (text key : List ℕ) (n m i : ℕ) → among of_serial m ≡ true → Outcome text key n m i → (es : List Element) × Shape text es × SerialRefused es key n m i
    serial_of text key n m i a (no_place b z) = absurd (apart of_serial of_neither m refl a b)
    serial_of text key n m i a (a_place es s (receipt_there b r)) = absurd (apart of_serial of_receipt m refl a b)
    serial_of text key n m i a (a_place es s (serial_there b r)) = (es, s, r)
