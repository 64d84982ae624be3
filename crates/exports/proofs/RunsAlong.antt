-- The runs of room `retaking`: what each of their turns amounts to.
use Rattle.std.proofs.Common.{Option, Some, None, IfSome, MatchOption, Result, Ok, Err, IfOk, rules, ◌≤◌, length, ℕ, ◌+◌, ◌-◌, ◌<◌, ◌≡◌, refl, sym, ap, ◌∙◌, subst, Bool, true, false, ◌⊎◌, ⊎_elim, List, [], ◌∷◌, ◌++◌, map, take, drop}
use Rattle.primitives.specs.Refusals.{number_of}
use Rattle.primitives.specs.declared.refusal.Refusal.{Refusal}
use Rattle.primitives.proofs.Refusals.{numbers_are_not_zero}
use Rattle.journal.specs.declared.state.Stop.{Stop}
use Rattle.primitives.specs.Aes.{key_schedule}
use Rattle.primitives.specs.Questions.{ifZero}
use Rattle.primitives.proofs.Rows.{ifZero-yes, ifZero-no}
use Rattle.journal.specs.Checking.{as_step, entry_checked, serial_checked, settings_checked, last_answer}
use Rattle.journal.specs.declared.state.State.{State}
use Rattle.journal.specs.declared.state.TakenOver.{TakenOver}
use Rattle.journal.specs.Checking.{Checked}
use Rattle.journal.specs.declared.checking.Step.{Step}
use Rattle.exports.specs.Text.{Token, mark}
use Rattle.exports.specs.Shape.{array, string, strings, Element, Written, written, document, elements, Shape}
use Rattle.exports.specs.Places.{from, Absent, Quotes, Followed, end_of, ReceiptsAt, EndedAt, Closing}
use Rattle.exports.specs.Naming.{named}
use Rattle.exports.specs.Reading.{first_of, settings_of, pair_of}
use Rattle.exports.specs.Running.{owner_settings, run_texts, run_pair, run_pairs, elements_run, run_journal, as_ran, TextsRan, PairStarted}
use Rattle.receipt.specs.declared.settings.Settings.{Settings}
use Rattle.exports.specs.Naming.{Named}
use Rattle.exports.specs.declared.lexer.Part.{Part}
use Rattle.exports.specs.declared.walk.Cursor.{Cursor}
use Rattle.exports.specs.declared.walk.Cursor.TheVariants.{Item, Past, Broken}
use Rattle.exports.specs.declared.retaking.Ran.{Ran}
use Rattle.exports.proofs.Lexical.{lexed}
use Rattle.exports.proofs.Tokening.{read_word}
use Rattle.exports.proofs.EntryLying.{part_entry}
use Rattle.exports.proofs.Passing.{NoItem, Beyond, Passing, pass_out, pass_stop, pass_end, pass_more}

-- ---- the strings of an array

end_inside : (text : List ℕ) (at : ℕ) (c : Cursor) → Beyond text at c → IfSome (end_of c) (λ e. (at < e) × (e ≤ length text))
end_inside text at (Item p) b = search rules
end_inside text at (Past p) b = b
end_inside text at Broken b = search rules

module _ (k : List (List ℕ)) (start st : State) {text : List ℕ} {at : ℕ} {c : Cursor} (w : Passing string (run_texts k start) (run_texts k st) text at c) where
  pub texts_end : NoItem c → (n : Option ℕ) → n ≡ end_of c → TextsRan k start text at (Ok (record { state = st; next = n }))
  unfolding run_texts
  texts_end h n z = rw z (record { inside = end_inside text at c w.beyond; is = λ ws r q. let x = pass_end string w h ws r q in (x.0, rw x.2 x.3) })

  module _ {i : ℕ} (e : c ≡ Item i) where
    pub texts_none : Absent string text i → TextsRan k start text at (Ok (record { state = st; next = None }))
    texts_none a = record { inside = search rules; is = λ ws r q. absurd (pass_stop string w e a.none ws r q) }

    module _ {p : Part} (pr : Quotes text i p) {s : Checked} (is : s ≡ entry_checked k st (take (p.start + p.length - p.start) (drop p.start text))) where
      its : (x : List ℕ) (r : List Token) → from text i ≡ string x ++ r → s ≡ entry_checked k st x
      its x r q = is ∙ part_entry k st pr x r q

      one_refused : (s.number ≡ 0 → ⊥) → (x : List ℕ) (xs : List (List ℕ)) (r : List Token) → from text i ≡ string x ++ r
          → run_texts k st (x ∷ xs) ≡ record { number = s.number; state = st }
      unfolding run_texts
      one_refused h x xs r q = rw (← its x r q) (ifZero-no s.number _ _ h)

      one_more : s.number ≡ 0 → (x : List ℕ) (xs : List (List ℕ)) (r : List Token) → from text i ≡ string x ++ r → run_texts k st (x ∷ xs) ≡ run_texts k s.state xs
      unfolding run_texts
      one_more h x xs r q = rw (← its x r q) (ifZero-yes _ _ h)

      pub texts_refused : (question : Refusal) → s.number ≡ number_of question → TextsRan k start text at (Err (record { question = question; state = st }))
      texts_refused question n =
          let h : s.number ≡ 0 → ⊥ = λ z. numbers_are_not_zero question (sym n ∙ z) in
          record {
            inside = search rules;
            is = λ ws r q. (ap (λ (m : ℕ). record { number = m; state = st }) (sym n) ∙ pass_out string w e _ (one_refused h) ws r q, search rules);
          }

      pub texts_more : s.number ≡ 0 → (d : Cursor) → Followed text p.next d → Passing string (run_texts k start) (run_texts k s.state) text at d
      texts_more h d f = pass_more string w e (read_word pr) d f (run_texts k s.state) (one_more h)

-- ---- one element

-- a run over the receipts at a place, and before them their serial, except in the first element
pub record PairRan (k : List (List ℕ)) (first : Bool) (st : State) (text : List ℕ) (at : ℕ) (r : Result Ran Stop) : Type 0 where
  pub is : (x : Element) (rest : List Token) → from text at ≡ strings x.receipts ++ rest
      → (as_ran r ≡ run_pair k first st (pair_of x)) × IfOk r (λ t. MatchOption t.next ⊥ (λ e. from text e ≡ rest))

pub pair_started : {st : State} {text : List ℕ} {at : ℕ} {n : Named} {s : Checked}
    → ((ws : List (List ℕ)) (r : List Token) → from text at ≡ strings ws ++ r → n ≡ named (first_of ws)) → s ≡ serial_checked st n.settings.serial → PairStarted st text at s
unfolding pair_of settings_of
pair_started {st} h e = record { is = λ x rest q. e ∙ ap (λ (m : Named). serial_checked st m.settings.serial) (h x.receipts rest q) }

-- a serial after its answer
unfoldable after_serial : List (List ℕ) → State → List (List ℕ) → Checked → Step
after_serial k st ws c = ifZero c.number (run_texts k c.state ws) (record { number = c.number; state = st })

module _ (k : List (List ℕ)) (st : State) (text : List ℕ) (at : ℕ) {first : Bool} where
  pub pair_first : first ≡ true → {r : Result Ran Stop} → TextsRan k st text at r → PairRan k first st text at r
  unfolding run_pair pair_of
  pair_first f t = record { is = λ x rest q. let y = t.is x.receipts rest q in (rw f y.0, y.1) }

  module _ (f : first ≡ false) {s : Checked} (p : PairStarted st text at s) where
    later_is : (x : Element) (rest : List Token) → from text at ≡ strings x.receipts ++ rest → after_serial k st x.receipts s ≡ run_pair k first st (pair_of x)
    unfolding run_pair pair_of after_serial
    later_is x rest q = rw f (ap (after_serial k st x.receipts) (p.is x rest q))

    pub pair_refused : (question : Refusal) → s.number ≡ number_of question → PairRan k first st text at (Err (record { question = question; state = st }))
    unfolding after_serial
    pair_refused question n =
        let h : s.number ≡ 0 → ⊥ = λ z. numbers_are_not_zero question (sym n ∙ z) in
        record { is = λ x rest q. (ap (λ (m : ℕ). record { number = m; state = st }) (sym n) ∙ (sym (ifZero-no s.number _ _ h) ∙ later_is x rest q), search rules) }

    pub pair_later : {r : Result Ran Stop} → s.number ≡ 0 → TextsRan k s.state text at r → PairRan k first st text at r
    unfolding after_serial
    pair_later h t =
        record {
          is = λ x rest q.
              let y = t.is x.receipts rest q in
              (y.0 ∙ (sym (ifZero-yes _ _ h) ∙ later_is x rest q), y.1);
        }

-- the receipts after the serial, or without it in the first element
pub pair_ran : (k : List (List ℕ)) {first : Bool} {st st' : State} {text : List ℕ} {at : ℕ} {r : Result Ran Stop}
    → ((first ≡ false) × (s : Checked) × (PairStarted st text at s) × (s.number ≡ 0) × (st' ≡ s.state)) ⊎ ((first ≡ true) × (st' ≡ st))
    → TextsRan k st' text at r → PairRan k first st text at r
pair_ran k {first} {st} {st'} {text} {at} {r} w t =
    ⊎_elim
    (λ x. pair_later k st text at x.0 x.2 x.3 (subst (λ (u : State). TextsRan k u text at r) x.4 t))
    (λ x. pair_first k st text at x.0 (subst (λ (u : State). TextsRan k u text at r) x.1 t))
    w

-- ---- all elements, in the order in which they are written

abbrev pub run_written : List (List ℕ) → Bool → State → List Written → Step
run_written k first st ws = run_pairs k first st (map pair_of (elements ws))

pub pairs_end : (k : List (List ℕ)) (first : Bool) (st : State) → run_written k first st [] ≡ record { number = 0; state = st }
unfolding run_pairs elements
pairs_end k first st = refl

-- what stands after the receipts
record Closes (text : List ℕ) (t : Ran) (rest : List Token) : Type 0 where
  pub next : ℕ
  pub is : t.next ≡ Some next
  pub tokens : List Token
  pub closing : Closing tokens rest
  pub stands : from text next ≡ tokens

module _ (k : List (List ℕ)) (first : Bool) (st : State) {text : List ℕ} {at p : ℕ} (f : ReceiptsAt text at p) where
  its_pair : {r : Result Ran Stop} → PairRan k first st text p r → (w : Written) (rest : List Token) → from text at ≡ written w ++ rest → as_ran r ≡ run_pair k first st (pair_of w.element)
  its_pair h w rest q = let x = f.is w rest q in (h.is w.element x.0 x.1).0

  pub pairs_refused : {stop : Stop} → PairRan k first st text p (Err stop) → (w : Written) (ws : List Written) (rest : List Token) → from text at ≡ written w ++ rest
      → run_written k first st (w ∷ ws) ≡ as_step (Err stop)
  unfolding run_pairs elements
  pairs_refused {stop} h w ws rest q = rw (← its_pair h w rest q) (ifZero-no (number_of stop.question) _ _ (numbers_are_not_zero stop.question))

  module _ {t : Ran} (h : PairRan k first st text p (Ok t)) where
    pub pairs_more : (w : Written) (ws : List Written) (rest : List Token) → from text at ≡ written w ++ rest → run_written k first st (w ∷ ws) ≡ run_written k false t.state ws
    unfolding run_pairs elements
    pairs_more w ws rest q = rw (← its_pair h w rest q) (ifZero-yes _ _ refl)

    closes : (w : Written) (rest : List Token) → from text at ≡ written w ++ rest → Closes text t rest
    closes w rest q = let x = f.is w rest q in go t.next refl x.0 x.2 (h.is w.element x.0 x.1).1
      where
        go : (o : Option ℕ) → t.next ≡ o → (ts : List Token) → Closing ts rest → MatchOption o ⊥ (λ e. from text e ≡ ts) → Closes text t rest
        go None i ts c m = absurd m
        go (Some e) i ts c m = record { next = e; is = i; tokens = ts; closing = c; stands = m }

    -- e is the place after the element
    pub pairs_after : {a e : ℕ} → t.next ≡ Some a → EndedAt text a e → (w : Written) (rest : List Token) → from text at ≡ written w ++ rest → from text e ≡ rest
    pairs_after {a} i g w rest q =
        let x = closes w rest q in
        let s : Some x.next ≡ Some a = sym x.is ∙ i in
        let e : x.next ≡ a = cc in
        g.is x.tokens rest x.closing (ap (from text) (sym e) ∙ x.stands)

    -- where an element stands, its receipts were passed and its end was found
    pub pairs_stuck : t.next ≡ None → (w : Written) (rest : List Token) → from text at ≡ written w ++ rest → ⊥
    pairs_stuck i w rest q = let x = closes w rest q in let e : Some x.next ≡ None = sym x.is ∙ i in cc

    pub pairs_unended : {a : ℕ} → t.next ≡ Some a → ((ts rest : List Token) → Closing ts rest → from text a ≡ ts → ⊥) → (w : Written) (rest : List Token) → from text at ≡ written w ++ rest → ⊥
    pairs_unended {a} i g w rest q =
        let x = closes w rest q in
        let s : Some x.next ≡ Some a = sym x.is ∙ i in
        let e : x.next ≡ a = cc in
        g x.tokens rest x.closing (ap (from text) (sym e) ∙ x.stands)

pub pairs_finish : (k : List (List ℕ)) (st : State) (text : List ℕ) (g : ℕ) {b : Step} → ((ws : List Written) → from text 0 ≡ document ws → from text g ≡ array written ws ++ (mark 125 ∷ []))
    → ((ws : List Written) (r : List Token) → from text g ≡ array written ws ++ r → b ≡ run_written k true st ws)
    → (es : List Element) → Shape text es → b ≡ elements_run k st es
unfolding from
pairs_finish k st text g p h es s = h s.order _ (p s.order (lexed s.spelled)) ∙ ap (elements_run k st) s.same

-- ---- the answer

module _ (key : List ℕ) (n : ℕ) (es : List Element) {m : Settings} (owner : m ≡ owner_settings es) {t : TakenOver} (is : t ≡ settings_checked m key n) where
  whole : TakenOver → TakenOver
  whole x = ifZero x.number (last_answer (elements_run (key_schedule key) x.state es)) x

  whole_is : whole t ≡ run_journal es key n
  unfolding run_journal whole
  whole_is = ap whole (is ∙ ap (λ (y : Settings). settings_checked y key n) owner)

  pub journal_refused : (t.number ≡ 0 → ⊥) → t ≡ run_journal es key n
  unfolding whole
  journal_refused h = sym (ifZero-no t.number _ _ h) ∙ whole_is

  pub journal_run : {k : List (List ℕ)} {r : Step} {a : TakenOver} → t.number ≡ 0 → k ≡ key_schedule key → r ≡ elements_run k t.state es → a ≡ last_answer r → a ≡ run_journal es key n
  unfolding whole
  journal_run h q e f =
      f ∙ (ap last_answer (e ∙ ap (λ (x : List (List ℕ)). elements_run x t.state es) q) ∙ (sym (ifZero-yes _ _ h) ∙ whole_is))
