-- What the code's types say of the states of a check.
use Rattle.std.proofs.lemmas.Bool.{eqb-false}
use Rattle.std.proofs.Common.{ℕ, zero, suc, ◌^◌, ◌<◌, ◌≡◌, refl, sym, ap, ◌∙◌, subst, Bool, true, false, List, [], ◌∷◌, arith, lt-ltb, eqb-true, eqb, length, get_or, set, length-set, get_or-set_same, get_or-set_other}
use lib.Signed.{mag}
use Rattle.primitives.specs.Bytes.{AllBytes}
use Rattle.primitives.specs.Counter.{fits_in}
use Rattle.primitives.specs.Aes.{key_schedule}
use Rattle.primitives.proofs.Twos.{width_true, half_small, fits_below, fits_64, counted}
use Rattle.receipt.specs.declared.settings.Name.{Name}
use Rattle.receipt.specs.declared.settings.Settings.{Settings}
use Rattle.receipt.proofs.ExactEntry.{found_typed}
use Rattle.journal.specs.Head.{head_settings, text_at, serial_at}
use Rattle.journal.specs.State.{no_name, used, in_eight, added, serials_good, settings_now, TypedName, TypedState}
use Rattle.journal.specs.declared.state.TakenOver.{TakenOver}
use Rattle.journal.specs.Step.{fresh, next, renewed}
use Rattle.journal.specs.Checking.{found, after, one_step, steps, check_head, Checked}
use Rattle.journal.specs.declared.checking.Step.{Step}
use Rattle.journal.specs.Parts.{check_steps}
use Rattle.journal.specs.Valid.{GoodOwner}
use Rattle.journal.specs.declared.state.State.{State}
use Rattle.journal.proofs.Serials.{added_set}
use Rattle.journal.proofs.Answers.{Eight, chain-eight}
use Rattle.journal.proofs.Heads.{good_head, read_typed}
use Rattle.journal.proofs.Stepping.{Case, an_entry, at_end_lem, a_start, step_case}
use Rattle.journal.proofs.Starting.{start_at}
use Rattle.journal.proofs.Passing.{state_of_lem}
use Rattle.journal.proofs.Accepting.{owner_in, good_owner}
use Rattle.journal.proofs.CheckCalls.{head_passed, state_fresh}
use Rattle.journal.proofs.TypedStates.{zeros_typed}
use Rattle.journal.proofs.PartSteps.{Ready, ready_step, turn, no_steps, steps_zero, ready_steps, accepted_state, went, start_ready}

-- ---- what does not follow from a state's being sound

record Stored (st : State) : Type 0 where
  csp : length st.csp ≡ 3
  id : TypedName st.id
  eight : length st.serials ≡ 8
  serials : (i : ℕ) → i < 8 → TypedName (get_or st.serials i no_name)
  key_length : length st.key ≡ 32
  key_bytes : AllBytes st.key
  last : st.last < 4294967296
  chain : Eight st.chain

typed_stored : {st : State} → TypedState st → Stored st
typed_stored t =
    record {
      csp = t.csp;
      id = t.id;
      eight = t.eight;
      serials = t.serials;
      key_length = t.key_length;
      key_bytes = t.key_bytes;
      last = t.last;
      chain = record { long = t.chain; bytes = t.chain_bytes };
    }

-- a state that a check goes on from, in a journal whose length is a number of 64 bits
stored_typed : (st : State) (j : List ℕ) → length j < 18446744073709551616 → Ready st j → Stored st → TypedState st
stored_typed st j small r t =
    let s = r.alone in
    let w = (width_true st.width s.width).most in
    let f = counted st.width st.counter s.counter in
    let fits : fits_in 8 st.counter ≡ true =
    fits_64 st.counter ∙ lt-ltb (mag st.counter) (2 ^ 63) (omega (arith, fits_below st.width st.counter f.fits, half_small st.width w)) in
    record {
      csp = t.csp;
      id = t.id;
      eight = t.eight;
      serials = t.serials;
      width = omega (arith, w);
      key_length = t.key_length;
      key_bytes = t.key_bytes;
      counter = fits;
      last = t.last;
      issued = omega (arith, s.issued, t.last);
      chain = t.chain.long;
      chain_bytes = t.chain.bytes;
      in_journal = omega (arith, r.inside, small);
      since = omega (arith, s.since, s.issued, t.last);
      place = omega (arith, s.place, r.inside, small);
    }

-- ---- one step

-- whatever entry was found
stored_after : (st : State) (text : List ℕ) → Stored st → Stored (after st text)
unfolding after next found
stored_after st text t =
    record {
      csp = t.csp;
      id = t.id;
      eight = t.eight;
      serials = t.serials;
      key_length = t.key_length;
      key_bytes = t.key_bytes;
      last = (found_typed (settings_now st) st.width text).fields.number;
      chain = chain-eight text;
    }

set_typed : (slots : List Name) (k i : ℕ) (s : Name) → k < length slots → TypedName s → TypedName (get_or slots i no_name) → TypedName (get_or (set slots k s) i no_name)
set_typed slots k i s h ts t = go (eqb i k) refl
  where
    go : (b : Bool) → eqb i k ≡ b → TypedName (get_or (set slots k s) i no_name)
    go true e = subst TypedName (sym (ap (λ (n : ℕ). get_or (set slots k s) n no_name) (eqb-true i k e) ∙ get_or-set_same slots k s no_name h)) ts
    go false e = subst TypedName (sym (get_or-set_other slots k i s no_name (eqb-false i k e))) t

stored_renewed : (st : State) (s : Name) → serials_good st.serials ≡ true → length (used st.serials) < 8 → TypedName s → Stored st → Stored (renewed st s)
unfolding renewed
stored_renewed st s good few ts t =
    let k = length (used st.serials) in
    let e : set st.serials k s ≡ added st.serials s = added_set st.serials k s t.eight good few refl in
    record {
      csp = t.csp;
      id = t.id;
      eight = sym (ap length e) ∙ (length-set st.serials k s ∙ t.eight);
      serials = λ i h. subst (λ (ns : List Name). TypedName (get_or ns i no_name)) e (set_typed st.serials k i s (omega (arith, few, t.eight)) ts (t.serials i h));
      key_length = t.key_length;
      key_bytes = t.key_bytes;
      last = t.last;
      chain = t.chain;
    }

module _ (k : List (List ℕ)) (j : List ℕ) (b : AllBytes j) where
  stored_step : (st : State) → (one_step k st j).number ≡ 0 → Ready st j → Stored st → Stored (one_step k st j).state
  stored_step st z r t = go (step_case k st j z)
    where
      go : Case k st j → Stored (one_step k st j).state
      go (an_entry f e q) = subst Stored (sym (ap (λ (c : Checked). c.state) q)) (stored_after st (text_at j st.length) t)
      go (at_end_lem f l q) = subst Stored (sym (ap (λ (c : Checked). c.state) q ∙ state_of_lem 0 st)) t
      go (a_start f l x q) =
          let s = serial_at j st.length in
          let y = start_at j b st.length x.there in
          subst Stored (sym (ap (λ (c : Checked). c.state) q ∙ state_of_lem 0 (renewed st s))) (stored_renewed st s r.alone.serials x.few y.typed t)

  stored_steps : (n : ℕ) (st : State) → Ready st j → Stored st → (steps k n st j).number ≡ 0 → Stored (steps k n st j).state
  stored_steps zero st r t z = subst (λ (x : Step). Stored x.state) (sym (no_steps k j st)) t
  stored_steps (suc n) st r t z =
      let w = steps_zero k j n st z in
      subst (λ (x : Step). Stored x.state) (sym (turn k j n st w.0))
      (stored_steps n (one_step k st j).state (ready_step k j st w.0 r) (stored_step st w.0 r t) w.1)

-- ---- the two calls

pub checked_typed : (st : State) (j : List ℕ) → AllBytes j → length j < 18446744073709551616 → TypedState st → (n : ℕ) → (check_steps st j n).number ≡ 0
    → TypedState (check_steps st j n).state
checked_typed st j b small t n z =
    let k = key_schedule st.key in
    let w = went st j n z in
    let x = (steps k n st j).state in
    subst TypedState (sym (ap (λ (a : TakenOver). a.state) w.state ∙ accepted_state x))
    (stored_typed x j small (ready_steps k j n st w.start w.number) (stored_steps k j b n st w.start (typed_stored t) w.number))

one_typed : (s : Name) → TypedName s → (i : ℕ) → TypedName (get_or (in_eight (s ∷ [])) i no_name)
unfolding in_eight
one_typed s t zero = t
one_typed s t (suc i) = zeros_typed 7 i

fresh_stored : (s : Settings) (key : List ℕ) (n : ℕ) → GoodOwner (owner_in s) → TypedName s.serial → length key ≡ 32 → AllBytes key → Stored (fresh s n key)
unfolding fresh in_eight
fresh_stored s key n g t l kb =
    record {
      csp = g.typed_csp;
      id = g.typed_id;
      eight = refl;
      serials = λ i h. one_typed s.serial t i;
      key_length = l;
      key_bytes = kb;
      last = omega arith;
      chain = chain-eight _;
    }

pub head_typed : (j key : List ℕ) (n : ℕ) → AllBytes j → length j < 18446744073709551616 → length key ≡ 32 → AllBytes key → (check_head j key n).number ≡ 0
    → TypedState (check_head j key n).state
head_typed j key n b small l kb z =
    let p = head_passed j key n refl z in
    let s = head_settings j in
    let g = good_owner s (read_typed j b p.good) (good_head j b p.good).good in
    subst TypedState (sym (state_fresh j key n refl z))
    (stored_typed (fresh s n key) j small (start_ready j key n b p) (fresh_stored s key n g.0 g.1 l kb))
