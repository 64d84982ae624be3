-- What the functions of a Change show at their returns, over plain variables.
use Rattle.std.proofs.Common.{ℕ, ◌+◌, ◌≤◌, ◌<◌, ◌≡◌, refl, sym, ◌∙◌, Bool, true, false, not, List, arith, le-ltb, ltb, leb, length}
use Rattle.primitives.specs.Place.{overwrite}
use Rattle.primitives.specs.Questions.{ask, ifZero}
use Rattle.primitives.proofs.Rows.{ask_yes, ask_no, ifZero-yes, ifZero-no}
use Rattle.receipt.specs.Settings.{serial_good}
use Rattle.receipt.specs.declared.settings.Name.{Name}
use Rattle.journal.specs.Changing.{change_number, changed, change_buffer}
use Rattle.journal.specs.Head.{pair_start}
use Rattle.journal.specs.State.{used, added, is_in}
use Rattle.journal.specs.Step.{sound, renewed, renew_number}
use Rattle.journal.specs.declared.state.State.{State}
use Rattle.journal.proofs.Answers.{Changeable, serial-zero, serial-yes, change-zero}

-- ---- questions 30 and 31

module _ (st : State) (s : Name) (rest : ℕ) where
  pub serial_used : is_in s (used st.serials) ≡ true → 30 ≡ renew_number st s rest
  unfolding renew_number ask
  serial_used e = rw e

  pub serial_ninth : is_in s (used st.serials) ≡ false → 8 ≤ length (used st.serials) → 31 ≡ renew_number st s rest
  unfolding renew_number ask
  serial_ninth e h = rw (e, le-ltb (length (used st.serials)) 8 h)

  -- the two alone, and then the rest: as code asks them
  serial_then : renew_number st s rest ≡ ifZero (renew_number st s 0) rest (renew_number st s 0)
  unfolding renew_number ask ifZero
  serial_then = go (not (is_in s (used st.serials))) (ltb (length (used st.serials)) 8)
    where
      go : (a b : Bool) → ask a 30 (ask b 31 rest) ≡ ifZero (ask a 30 (ask b 31 0)) rest (ask a 30 (ask b 31 0))
      go false b = refl
      go true false = refl
      go true true = refl

-- the state after the start of a pair
pub renewed_is : (st : State) (s : Name) {ns : List Name} → ns ≡ added st.serials s
    → record {
      csp = st.csp;
      id = st.id;
      serials = ns;
      width = st.width;
      key = st.key;
      counter = st.counter;
      last = st.last;
      issued = st.issued;
      chain = st.chain;
      length = st.length + 8 + s.len;
      since = 0;
      place = st.length + 4 + s.len;
    } ≡ renewed st s
unfolding renewed
renewed_is st s e =
    λ i. record {
      csp = st.csp;
      id = st.id;
      serials = e i;
      width = st.width;
      key = st.key;
      counter = st.counter;
      last = st.last;
      issued = st.issued;
      chain = st.chain;
      length = st.length + 8 + s.len;
      since = 0;
      place = st.length + 4 + s.len;
    }

-- ---- all questions

module _ (st : State) (s : Name) (room : ℕ) where
  pub change_unsound : sound st room ≡ false → 6 ≡ change_number st s room
  unfolding change_number
  change_unsound h = sym (ask_no 6 _ h)

  module _ (a : sound st room ≡ true) where
    pub change_bad : serial_good s ≡ false → 3 ≡ change_number st s room
    unfolding change_number
    change_bad h = sym (ask_yes 6 _ a ∙ ask_no 3 _ h)

    module _ (g : serial_good s ≡ true) {k : ℕ} (e : k ≡ renew_number st s 0) where
      number_is : change_number st s room ≡ renew_number st s (ask (leb (st.length + (8 + s.len)) room) 13 0)
      unfolding change_number
      number_is = ask_yes 6 _ a ∙ ask_yes 3 _ g

      pub change_serial : (k ≡ 0 → ⊥) → k ≡ change_number st s room
      change_serial h =
          e ∙ sym (number_is ∙ (serial_then st s (ask (leb (st.length + (8 + s.len)) room) 13 0) ∙ ifZero-no (renew_number st s 0) _ _ (λ z. h (e ∙ z))))

      module _ (z : k ≡ 0) where
        number_left : change_number st s room ≡ ask (leb (st.length + (8 + s.len)) room) 13 0
        number_left = let p = serial-zero st s 0 (sym e ∙ z) in number_is ∙ serial-yes st s _ p.0 p.1

        pub change_full : leb (st.length + (8 + s.len)) room ≡ false → 13 ≡ change_number st s room
        change_full h = sym (number_left ∙ ask_no 13 0 h)

        pub change_none : leb (st.length + (8 + s.len)) room ≡ true → 0 ≡ change_number st s room
        change_none h = sym (number_left ∙ ask_yes 13 0 h)

-- ---- the call

module _ (st : State) (s : Name) (b : List ℕ) {k : ℕ} (e : k ≡ change_number st s (length b)) where
  pub change_refused : (k ≡ 0 → ⊥) → (record { number = k; state = st } ≡ changed st s (length b)) × (b ≡ change_buffer st s b)
  unfolding changed change_buffer
  change_refused h =
      let m : change_number st s (length b) ≡ 0 → ⊥ = λ z. h (e ∙ z) in (
        (λ i. record { number = e i; state = sym (ifZero-no (change_number st s (length b)) (renewed st s) st m) i }),
        sym (ifZero-no (change_number st s (length b)) (overwrite b st.length (pair_start s 0)) b m),
      )

  module _ (z : k ≡ 0) where
    asked : Changeable st s (length b)
    asked = change-zero st s (length b) (sym e ∙ z)

    -- what the start of the pair asks for, and the state after it
    pub change_room : (serial_good s ≡ true) × (st.length + 8 + s.len ≤ length b)
    change_room = (asked.good, omega (arith, asked.fits))

    pub change_few : length (used st.serials) < 8
    change_few = asked.few

    pub change_done : {x : State} {b₁ : List ℕ} → b₁ ≡ overwrite b st.length (pair_start s 0) → x ≡ renewed st s
        → (record { number = 0; state = x } ≡ changed st s (length b)) × (b₁ ≡ change_buffer st s b)
    unfolding changed change_buffer
    change_done w q =
        let m : change_number st s (length b) ≡ 0 = sym e ∙ z in (
          (λ i. record { number = sym m i; state = (q ∙ sym (ifZero-yes (renewed st s) st m)) i }),
          w ∙ sym (ifZero-yes (overwrite b st.length (pair_start s 0)) b m),
        )
