-- Runs that are refused: where they stop, and the receipts issued before that.
use Rattle.std.proofs.Common.{ℕ, zero, suc, ◌+◌, ◌≡◌, refl, sym, ap, ◌∙◌, Bool, true, false, cond, List, [], ◌∷◌, ◌++◌, map, ◌⊎◌, inl, inr, ⊎_elim, arith, length}
use Rattle.primitives.specs.Questions.{ifZero}
use Rattle.primitives.proofs.Rows.{ifZero-yes, ifZero-no}
use Rattle.receipt.specs.declared.settings.Name.{Name}
use Rattle.journal.specs.Step.{next, renewed}
use Rattle.journal.specs.Checking.{text_number, stopped, checked, text_checked, after, entry_ready, entry_checked, serial_ready, serial_number, serial_checked}
use Rattle.journal.specs.declared.state.State.{State}
use Rattle.journal.specs.declared.checking.Step.{Step}
use Rattle.exports.specs.Shape.{Element}
use Rattle.exports.specs.Spelled.{TextPair}
use Rattle.exports.specs.Running.{run_texts, run_pair, run_pairs}
use Rattle.exports.specs.Reading.{pair_of}
use Rattle.exports.specs.Indices.{receipt_count}

-- ---- an entry is counted, a serial is not

checked_issued : (m : ℕ) (st : State) (w : List ℕ) → (checked m st w).number ≡ 0 → (checked m st w).state.issued ≡ st.issued + 1
unfolding checked ifZero stopped after next
checked_issued zero st w z = refl
checked_issued (suc m) st w z = absurd (omega (arith, z))

six_not : (st : State) → (stopped 6 st).number ≡ 0 → ⊥
unfolding stopped
six_not st z = omega (arith, z)

entry_issued : (k : List (List ℕ)) (st : State) (w : List ℕ) → (entry_checked k st w).number ≡ 0 → (entry_checked k st w).state.issued ≡ st.issued + 1
unfolding entry_checked text_checked
entry_issued k st w z = go (entry_ready st w) z
  where
    go : (t : Bool) → (cond t (checked (text_number k st w) st w) (stopped 6 st)).number ≡ 0
        → (cond t (checked (text_number k st w) st w) (stopped 6 st)).state.issued ≡ st.issued + 1
    go true h = checked_issued (text_number k st w) st w h
    go false h = absurd (six_not st h)

serial_issued : (st : State) (s : Name) → (serial_checked st s).state.issued ≡ st.issued
unfolding serial_checked stopped renewed ifZero
serial_issued st s = go (serial_ready st s) (serial_number st s)
  where
    go : (t : Bool) (m : ℕ) → (cond t (ifZero m (stopped 0 (renewed st s)) (stopped m st)) (stopped 6 st)).state.issued ≡ st.issued
    go true zero = refl
    go true (suc m) = refl
    go false m = refl

abbrev pub pair_with : Name → List (List ℕ) → TextPair
pair_with s ws = record { serial = s; texts = ws }

-- ---- one turn of a run

pair_texts_lem : (e : Element) → (pair_of e).texts ≡ e.receipts
unfolding pair_of
pair_texts_lem e = refl

module _ (k : List (List ℕ)) where
  text_turn : (st : State) (w : List ℕ) (ws : List (List ℕ)) → (entry_checked k st w).number ≡ 0
      → run_texts k st (w ∷ ws) ≡ run_texts k (entry_checked k st w).state ws
  unfolding run_texts
  text_turn st w ws z = ifZero-yes _ _ z

  text_stop : (st : State) (w : List ℕ) (ws : List (List ℕ)) → ((entry_checked k st w).number ≡ 0 → ⊥)
      → run_texts k st (w ∷ ws) ≡ record { number = (entry_checked k st w).number; state = st }
  unfolding run_texts
  text_stop st w ws d = ifZero-no (entry_checked k st w).number _ _ d

  text_none : (st : State) → run_texts k st [] ≡ record { number = 0; state = st }
  unfolding run_texts
  text_none st = refl

  first_turn : (st : State) (p : TextPair) → run_pair k true st p ≡ run_texts k st p.texts
  unfolding run_pair
  first_turn st p = refl

  serial_turn : (st : State) (p : TextPair) → (serial_checked st p.serial).number ≡ 0
      → run_pair k false st p ≡ run_texts k (serial_checked st p.serial).state p.texts
  unfolding run_pair
  serial_turn st p z = ifZero-yes _ _ z

  serial_stop : (st : State) (p : TextPair) → ((serial_checked st p.serial).number ≡ 0 → ⊥)
      → run_pair k false st p ≡ record { number = (serial_checked st p.serial).number; state = st }
  unfolding run_pair
  serial_stop st p d = ifZero-no (serial_checked st p.serial).number _ _ d

  pair_none : (first : Bool) (st : State) → run_pairs k first st [] ≡ record { number = 0; state = st }
  unfolding run_pairs
  pair_none first st = refl

  pair_turn : (first : Bool) (st : State) (p : TextPair) (ps : List TextPair) → (run_pair k first st p).number ≡ 0
      → run_pairs k first st (p ∷ ps) ≡ run_pairs k false (run_pair k first st p).state ps
  unfolding run_pairs
  pair_turn first st p ps z = ifZero-yes _ _ z

  pair_stop : (first : Bool) (st : State) (p : TextPair) (ps : List TextPair) → ((run_pair k first st p).number ≡ 0 → ⊥)
      → run_pairs k first st (p ∷ ps) ≡ run_pair k first st p
  unfolding run_pairs
  pair_stop first st p ps d = ifZero-no (run_pair k first st p).number _ _ d

  -- one pair alone
  pair_alone : (first : Bool) (st : State) (p : TextPair) → run_pairs k first st (p ∷ []) ≡ run_pair k first st p
  pair_alone first st p = go (run_pair k first st p).number refl
    where
      go : (m : ℕ) → (run_pair k first st p).number ≡ m → run_pairs k first st (p ∷ []) ≡ run_pair k first st p
      go zero e = pair_turn first st p [] e ∙ (pair_none false (run_pair k first st p).state ∙ (λ i. record { number = sym e i; state = (run_pair k first st p).state }))
      go (suc m) e = pair_stop first st p [] (λ z. omega (arith, z, e))

  -- ---- receipts issued

  pub texts_issued : (ws : List (List ℕ)) (st : State) → (run_texts k st ws).number ≡ 0 → (run_texts k st ws).state.issued ≡ st.issued + length ws
  texts_issued [] st z = ap (λ (r : Step). r.state.issued) (text_none st) ∙ omega arith
  texts_issued (w ∷ ws) st z = go (entry_checked k st w).number refl (λ h. texts_issued ws (entry_checked k st w).state h)
    where
      go : (m : ℕ) → (entry_checked k st w).number ≡ m
          → ((run_texts k (entry_checked k st w).state ws).number ≡ 0
          → (run_texts k (entry_checked k st w).state ws).state.issued ≡ (entry_checked k st w).state.issued + length ws)
          → (run_texts k st (w ∷ ws)).state.issued ≡ st.issued + length (w ∷ ws)
      go zero e rec =
          let t = text_turn st w ws e in
          ap (λ (r : Step). r.state.issued) t ∙ (rec (ap (λ (r : Step). r.number) (sym t) ∙ z) ∙ omega (arith, entry_issued k st w e))
      go (suc m) e rec =
          let d : (entry_checked k st w).number ≡ 0 → ⊥ = λ y. omega (arith, y, e) in
          absurd (d (ap (λ (r : Step). r.number) (sym (text_stop st w ws d)) ∙ z))

  pair_issued : (first : Bool) (st : State) (p : TextPair) → (run_pair k first st p).number ≡ 0 → (run_pair k first st p).state.issued ≡ st.issued + length p.texts
  pair_issued true st p z =
      let t = first_turn st p in
      ap (λ (r : Step). r.state.issued) t ∙ texts_issued p.texts st (ap (λ (r : Step). r.number) (sym t) ∙ z)
  pair_issued false st p z = go (serial_checked st p.serial).number refl
    where
      go : (m : ℕ) → (serial_checked st p.serial).number ≡ m → (run_pair k false st p).state.issued ≡ st.issued + length p.texts
      go zero e =
          let t = serial_turn st p e in
          ap (λ (r : Step). r.state.issued) t
          ∙ (texts_issued p.texts (serial_checked st p.serial).state (ap (λ (r : Step). r.number) (sym t) ∙ z)
          ∙ ap (λ (x : ℕ). x + length p.texts) (serial_issued st p.serial))
      go (suc m) e =
          let d : (serial_checked st p.serial).number ≡ 0 → ⊥ = λ y. omega (arith, y, e) in
          absurd (d (ap (λ (r : Step). r.number) (sym (serial_stop st p d)) ∙ z))

  pub pairs_issued : (es : List Element) (first : Bool) (st : State) → (run_pairs k first st (map pair_of es)).number ≡ 0
      → (run_pairs k first st (map pair_of es)).state.issued ≡ st.issued + receipt_count es
  unfolding receipt_count
  pairs_issued [] first st z = ap (λ (r : Step). r.state.issued) (pair_none first st) ∙ omega arith
  pairs_issued (e ∷ es) first st z =
      go (run_pair k first st (pair_of e)).number refl (λ h. pairs_issued es false (run_pair k first st (pair_of e)).state h)
    where
      go : (m : ℕ) → (run_pair k first st (pair_of e)).number ≡ m
          → ((run_pairs k false (run_pair k first st (pair_of e)).state (map pair_of es)).number ≡ 0
          → (run_pairs k false (run_pair k first st (pair_of e)).state (map pair_of es)).state.issued ≡ (run_pair k first st (pair_of e)).state.issued + receipt_count es)
          → (run_pairs k first st (pair_of e ∷ map pair_of es)).state.issued ≡ st.issued + (length e.receipts + receipt_count es)
      go zero q rec =
          let t = pair_turn first st (pair_of e) (map pair_of es) q in
          ap (λ (r : Step). r.state.issued) t
          ∙ (rec (ap (λ (r : Step). r.number) (sym t) ∙ z) ∙ omega (arith, pair_issued first st (pair_of e) q, ap length (pair_texts_lem e)))
      go (suc m) q rec =
          let d : (run_pair k first st (pair_of e)).number ≡ 0 → ⊥ = λ y. omega (arith, y, q) in
          absurd (d (ap (λ (r : Step). r.number) (sym (pair_stop first st (pair_of e) (map pair_of es) d)) ∙ z))

  -- ---- where a run stops

  pub record TextsStop (st : State) (ws : List (List ℕ)) : Type 0 where
    pub done : List (List ℕ)
    pub text : List ℕ
    pub left : List (List ℕ)
    pub parts : ws ≡ done ++ (text ∷ left)
    pub passed : (run_texts k st done).number ≡ 0
    pub same : run_texts k st (done ++ (text ∷ [])) ≡ run_texts k st ws
    pub number : (run_texts k st ws).number ≡ (entry_checked k (run_texts k st done).state text).number
    pub state : (run_texts k st ws).state ≡ (run_texts k st done).state

  pub texts_stop : (ws : List (List ℕ)) (st : State) → ((run_texts k st ws).number ≡ 0 → ⊥) → TextsStop st ws
  texts_stop [] st h = absurd (h (ap (λ (r : Step). r.number) (text_none st)))
  texts_stop (w ∷ ws) st h = go (entry_checked k st w).number refl (λ d. texts_stop ws (entry_checked k st w).state d)
    where
      go : (m : ℕ) → (entry_checked k st w).number ≡ m
          → (((run_texts k (entry_checked k st w).state ws).number ≡ 0 → ⊥) → TextsStop (entry_checked k st w).state ws) → TextsStop st (w ∷ ws)
      go zero e rec =
          let r = rec (λ z. h (ap (λ (r : Step). r.number) (text_turn st w ws e) ∙ z)) in
          let q : (run_texts k st (w ∷ r.done)).state ≡ (run_texts k (entry_checked k st w).state r.done).state =
          ap (λ (r : Step). r.state) (text_turn st w r.done e) in
          record {
            done = w ∷ r.done;
            text = r.text;
            left = r.left;
            parts = ap (λ (l : List (List ℕ)). w ∷ l) r.parts;
            passed = ap (λ (r : Step). r.number) (text_turn st w r.done e) ∙ r.passed;
            same = text_turn st w (r.done ++ (r.text ∷ [])) e ∙ (r.same ∙ sym (text_turn st w ws e));
            number =
                ap (λ (r : Step). r.number) (text_turn st w ws e)
                ∙ (r.number ∙ ap (λ (s : State). (entry_checked k s r.text).number) (sym q));
            state = ap (λ (r : Step). r.state) (text_turn st w ws e) ∙ (r.state ∙ sym q);
          }
      go (suc m) e rec =
          let d : (entry_checked k st w).number ≡ 0 → ⊥ = λ y. omega (arith, y, e) in
          let q : (run_texts k st []).state ≡ st = ap (λ (r : Step). r.state) (text_none st) in
          record {
            done = [];
            text = w;
            left = ws;
            parts = refl;
            passed = ap (λ (r : Step). r.number) (text_none st);
            same = text_stop st w [] d ∙ sym (text_stop st w ws d);
            number = ap (λ (r : Step). r.number) (text_stop st w ws d) ∙ ap (λ (s : State). (entry_checked k s w).number) (sym q);
            state = ap (λ (r : Step). r.state) (text_stop st w ws d) ∙ sym q;
          }

  -- whether the pair after these is the first one
  unfoldable pub later : Bool → List TextPair → Bool
  later first [] = first
  later first (p ∷ ps) = false

  pub record PairsStop (first : Bool) (st : State) (es : List Element) : Type 0 where
    pub before : List Element
    pub element : Element
    pub after : List Element
    pub parts : es ≡ before ++ (element ∷ after)
    pub passed : (run_pairs k first st (map pair_of before)).number ≡ 0
    pub is : run_pairs k first st (map pair_of es) ≡ run_pair k (later first (map pair_of before)) (run_pairs k first st (map pair_of before)).state (pair_of element)

  pub pairs_stop : (es : List Element) (first : Bool) (st : State) → ((run_pairs k first st (map pair_of es)).number ≡ 0 → ⊥) → PairsStop first st es
  unfolding later
  pairs_stop [] first st h = absurd (h (ap (λ (r : Step). r.number) (pair_none first st)))
  pairs_stop (e ∷ es) first st h =
      go (run_pair k first st (pair_of e)).number refl (λ d. pairs_stop es false (run_pair k first st (pair_of e)).state d)
    where
      still : (ps : List TextPair) → later false ps ≡ false
      still [] = refl
      still (p ∷ ps) = refl

      go : (m : ℕ) → (run_pair k first st (pair_of e)).number ≡ m
          → (((run_pairs k false (run_pair k first st (pair_of e)).state (map pair_of es)).number ≡ 0 → ⊥) → PairsStop false (run_pair k first st (pair_of e)).state es)
          → PairsStop first st (e ∷ es)
      go zero q rec =
          let t = pair_turn first st (pair_of e) (map pair_of es) q in
          let r = rec (λ z. h (ap (λ (r : Step). r.number) t ∙ z)) in
          let u = pair_turn first st (pair_of e) (map pair_of r.before) q in
          record {
            before = e ∷ r.before;
            element = r.element;
            after = r.after;
            parts = ap (λ (l : List Element). e ∷ l) r.parts;
            passed = ap (λ (r : Step). r.number) u ∙ r.passed;
            is = t ∙ (r.is ∙ (λ i. run_pair k (still (map pair_of r.before) i) (sym u i).state (pair_of r.element)));
          }
      go (suc m) q rec =
          let d : (run_pair k first st (pair_of e)).number ≡ 0 → ⊥ = λ y. omega (arith, y, q) in
          record {
            before = [];
            element = e;
            after = es;
            parts = refl;
            passed = ap (λ (r : Step). r.number) (pair_none first st);
            is = pair_stop first st (pair_of e) (map pair_of es) d ∙ (λ i. run_pair k first (sym (pair_none first st) i).state (pair_of e));
          }

  -- a pair after pairs that were passed
  pub pair_last : (ps : List TextPair) (first : Bool) (st : State) (q : TextPair) → (run_pairs k first st ps).number ≡ 0
      → run_pairs k first st (ps ++ (q ∷ [])) ≡ run_pair k (later first ps) (run_pairs k first st ps).state q
  unfolding later
  pair_last [] first st q z = pair_alone first st q ∙ (λ i. run_pair k first (sym (pair_none first st) i).state q)
  pair_last (p ∷ ps) first st q z =
      go (run_pair k first st p).number refl (λ y. pair_last ps false (run_pair k first st p).state q y)
    where
      still : (ps : List TextPair) → later false ps ≡ false
      still [] = refl
      still (p ∷ ps) = refl

      go : (m : ℕ) → (run_pair k first st p).number ≡ m
          → ((run_pairs k false (run_pair k first st p).state ps).number ≡ 0
          → run_pairs k false (run_pair k first st p).state (ps ++ (q ∷ [])) ≡ run_pair k (later false ps) (run_pairs k false (run_pair k first st p).state ps).state q)
          → run_pairs k first st (p ∷ (ps ++ (q ∷ []))) ≡ run_pair k false (run_pairs k first st (p ∷ ps)).state q
      go zero e rec =
          let t = pair_turn first st p ps e in
          pair_turn first st p (ps ++ (q ∷ [])) e
          ∙ (rec (ap (λ (r : Step). r.number) (sym t) ∙ z) ∙ (λ i. run_pair k (still ps i) (sym t i).state q))
      go (suc m) e rec =
          let d : (run_pair k first st p).number ≡ 0 → ⊥ = λ y. omega (arith, y, e) in
          absurd (d (ap (λ (r : Step). r.number) (sym (pair_stop first st p ps d)) ∙ z))

  -- ---- one pair: refused at a receipt, or at its serial

  -- its entries run from the state `base` on
  pub record Runs (first : Bool) (st : State) (s : Name) : Type 0 where
    pub base : State
    pub issued : base.issued ≡ st.issued
    pub run : (ws : List (List ℕ)) → run_pair k first st (pair_with s ws) ≡ run_texts k base ws

  pub record Stops (first : Bool) (st : State) (s : Name) : Type 0 where
    pub is_later : first ≡ false
    pub run : (ws : List (List ℕ)) → run_pair k first st (pair_with s ws) ≡ record { number = (serial_checked st s).number; state = st }

  pub pair_case : (first : Bool) (st : State) (s : Name) → Runs first st s ⊎ Stops first st s
  pair_case true st s = inl (record { base = st; issued = refl; run = λ ws. first_turn st (pair_with s ws) })
  pair_case false st s = go (serial_checked st s).number refl
    where
      go : (m : ℕ) → (serial_checked st s).number ≡ m → Runs false st s ⊎ Stops false st s
      go zero e = inl (record { base = (serial_checked st s).state; issued = serial_issued st s; run = λ ws. serial_turn st (pair_with s ws) e })
      go (suc m) e = inr (record { is_later = refl; run = λ ws. serial_stop st (pair_with s ws) (λ z. omega (arith, z, e)) })

  -- ---- what follows a refused place does not matter

  texts_stay : (ws left : List (List ℕ)) (st : State) → ((run_texts k st ws).number ≡ 0 → ⊥) → run_texts k st (ws ++ left) ≡ run_texts k st ws
  texts_stay [] left st h = absurd (h (ap (λ (r : Step). r.number) (text_none st)))
  texts_stay (w ∷ ws) left st h = go (entry_checked k st w).number refl (λ d. texts_stay ws left (entry_checked k st w).state d)
    where
      go : (m : ℕ) → (entry_checked k st w).number ≡ m
          → (((run_texts k (entry_checked k st w).state ws).number ≡ 0 → ⊥)
          → run_texts k (entry_checked k st w).state (ws ++ left) ≡ run_texts k (entry_checked k st w).state ws)
          → run_texts k st (w ∷ (ws ++ left)) ≡ run_texts k st (w ∷ ws)
      go zero e rec =
          let t = text_turn st w ws e in
          text_turn st w (ws ++ left) e ∙ (rec (λ z. h (ap (λ (r : Step). r.number) t ∙ z)) ∙ sym t)
      go (suc m) e rec =
          let d : (entry_checked k st w).number ≡ 0 → ⊥ = λ y. omega (arith, y, e) in
          text_stop st w (ws ++ left) d ∙ sym (text_stop st w ws d)

  pair_stays : (first : Bool) (st : State) (s : Name) (ws left : List (List ℕ)) → ((run_pair k first st (pair_with s ws)).number ≡ 0 → ⊥)
      → run_pair k first st (pair_with s (ws ++ left)) ≡ run_pair k first st (pair_with s ws)
  pair_stays first st s ws left h = ⊎_elim runs stops (pair_case first st s)
    where
      runs : Runs first st s → run_pair k first st (pair_with s (ws ++ left)) ≡ run_pair k first st (pair_with s ws)
      runs c =
          c.run (ws ++ left)
          ∙ (texts_stay ws left c.base (λ z. h (ap (λ (r : Step). r.number) (c.run ws) ∙ z)) ∙ sym (c.run ws))

      stops : Stops first st s → run_pair k first st (pair_with s (ws ++ left)) ≡ run_pair k first st (pair_with s ws)
      stops c = c.run (ws ++ left) ∙ sym (c.run ws)

  pub pairs_stay : (ps : List TextPair) (first : Bool) (st : State) (s : Name) (ws left : List (List ℕ)) (qs : List TextPair)
      → ((run_pairs k first st (ps ++ (pair_with s ws ∷ []))).number ≡ 0 → ⊥)
      → run_pairs k first st (ps ++ (pair_with s (ws ++ left) ∷ qs)) ≡ run_pairs k first st (ps ++ (pair_with s ws ∷ []))
  pairs_stay [] first st s ws left qs h =
      let a = pair_alone first st (pair_with s ws) in
      let d : (run_pair k first st (pair_with s ws)).number ≡ 0 → ⊥ = λ z. h (ap (λ (r : Step). r.number) a ∙ z) in
      let b = pair_stays first st s ws left d in
      pair_stop first st (pair_with s (ws ++ left)) qs (λ z. d (ap (λ (r : Step). r.number) (sym b) ∙ z)) ∙ (b ∙ sym a)
  pairs_stay (p ∷ ps) first st s ws left qs h =
      go (run_pair k first st p).number refl (λ d. pairs_stay ps false (run_pair k first st p).state s ws left qs d)
    where
      go : (m : ℕ) → (run_pair k first st p).number ≡ m
          → (((run_pairs k false (run_pair k first st p).state (ps ++ (pair_with s ws ∷ []))).number ≡ 0 → ⊥)
          → run_pairs k false (run_pair k first st p).state (ps ++ (pair_with s (ws ++ left) ∷ qs))
          ≡ run_pairs k false (run_pair k first st p).state (ps ++ (pair_with s ws ∷ [])))
          → run_pairs k first st (p ∷ (ps ++ (pair_with s (ws ++ left) ∷ qs))) ≡ run_pairs k first st (p ∷ (ps ++ (pair_with s ws ∷ [])))
      go zero e rec =
          let t = pair_turn first st p (ps ++ (pair_with s ws ∷ [])) e in
          pair_turn first st p (ps ++ (pair_with s (ws ++ left) ∷ qs)) e ∙ (rec (λ z. h (ap (λ (r : Step). r.number) t ∙ z)) ∙ sym t)
      go (suc m) e rec =
          let d : (run_pair k first st p).number ≡ 0 → ⊥ = λ y. omega (arith, y, e) in
          pair_stop first st p (ps ++ (pair_with s (ws ++ left) ∷ qs)) d ∙ sym (pair_stop first st p (ps ++ (pair_with s ws ∷ [])) d)
