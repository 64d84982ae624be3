-- Reading and writing settings and states undo each other.
use Rattle.std.proofs.Common.{ℕ, zero, suc, ◌+◌, ◌*◌, ◌^◌, ◌≤◌, ◌<◌, ◌≡◌, refl, sym, ap, ◌∙◌, subst, Bool, true, false, cond, List, [], ◌∷◌, ◌++◌, append_assoc, append-nil, arith, eq-eqb, eqb-true, eqb, length, take, drop, get_or, drop_of_length-le, take_at, drop_at, drop-drop, take-add, take_all}
use Rattle.primitives.specs.Bytes.{AllBytes}
use Rattle.primitives.specs.Number.{bytes_of, value_of, count_at}
use Rattle.primitives.specs.Questions.{ask}
use Rattle.primitives.specs.Counter.{width_good, counter_bytes, counter_value}
use Rattle.primitives.proofs.ByteLists.{bytes_take, bytes_drop}
use Rattle.primitives.proofs.Counts.{part_length, count_is, count_bytes, count_lt}
use Rattle.primitives.proofs.Numbers.{length_bytes_of, value_bytes_of}
use Rattle.primitives.proofs.Rows.{ifZero-yes}
use Rattle.primitives.proofs.Twos.{fits_wide, fits_value, counter_back, counter_whole, length_counter_bytes}
use Rattle.receipt.specs.declared.settings.Name.{Name}
use Rattle.receipt.specs.declared.settings.Settings.{Settings}
use Rattle.receipt.proofs.Names.{settings_zero}
use Rattle.journal.specs.State.{no_name, TypedName, TypedRegister, TypedState}
use Rattle.journal.specs.declared.state.State.{State}
use Rattle.device.specs.Layout.{name_bytes, settings_bytes, names_bytes, register_bytes, figures_bytes, state_bytes, name_at, settings_at, width_at, key_at, names_at, state_at, settings_of, width_of, key_of, state_of, kept}
use Rattle.device.specs.Calls.{settings_from, width_with, settings_answer, settings_buffer}
use Rattle.device.specs.Laws.{SettingsAreRead, WrittenSettingsAreRead, SettingsBytesAreKept, StateIsRead, BytesAreKept}
use Rattle.device.proofs.Sizes.{width_whole, key_long, from_typed, good_register}
use Rattle.device.proofs.Slots.{typed_lengths}
use Rattle.device.proofs.DetailLaws.{eight_good}
use Rattle.device.proofs.Writers.{length_name, length_names, length_settings, length_state}

-- ---- what was written is read, at a place from which on the list is m and then r

module _ (l : List ℕ) where
  part_here : (at n : ℕ) (m r : List ℕ) → drop at l ≡ m ++ r → length m ≡ n → take n (drop at l) ≡ m
  part_here at n m r e f = ap (take n) e ∙ take_at m r n f

  part_after : (at n : ℕ) (m r : List ℕ) → drop at l ≡ m ++ r → length m ≡ n → drop (at + n) l ≡ r
  part_after at n m r e f = sym (drop-drop n at l) ∙ ap (drop n) e ∙ drop_at m r n f

  count_here : (at n v : ℕ) (r : List ℕ) → drop at l ≡ bytes_of n v ++ r → v < 256 ^ n → count_at l at n ≡ v
  count_here at n v r e h = count_is l at n ∙ ap value_of (part_here at n (bytes_of n v) r e (length_bytes_of n v)) ∙ value_bytes_of n v h

  name_here : (at : ℕ) (n : Name) (r : List ℕ) → drop at l ≡ name_bytes n ++ r → length n.bytes ≡ 32 → n.len < 18446744073709551616 → name_at l at ≡ n
  unfolding name_at
  name_here at n r e f h =
      let q : drop at l ≡ n.bytes ++ (bytes_of 8 n.len ++ r) = e ∙ append_assoc n.bytes (bytes_of 8 n.len) r in
      let a = part_here at 32 n.bytes (bytes_of 8 n.len ++ r) q f in
      let b = count_here (at + 32) 8 n.len r (part_after at 32 n.bytes (bytes_of 8 n.len ++ r) q f) (omega arith) in
      λ i. record { bytes = a i; len = b i }

  names_here : (at : ℕ) (ns : List Name) (r : List ℕ) → drop at l ≡ names_bytes ns ++ r → ((i : ℕ) → i < length ns → TypedName (get_or ns i no_name))
      → names_at l at (length ns) ≡ ns
  unfolding names_bytes names_at
  names_here at [] r e t = refl
  names_here at (n ∷ ns) r e t =
      let q : drop at l ≡ name_bytes n ++ (names_bytes ns ++ r) = e ∙ append_assoc (name_bytes n) (names_bytes ns) r in
      let h = t 0 (omega arith) in
      let a = name_here at n (names_bytes ns ++ r) q h.long h.small in
      let b = names_here (at + 40) ns r (part_after at 40 (name_bytes n) (names_bytes ns ++ r) q (length_name n h.long)) (λ i k. t (suc i) (omega arith)) in
      λ i. a i ∷ b i

-- ---- settings

module _ (s : Settings) (n : ℕ) (key : List ℕ) (t : TypedRegister s n key) where
  -- what stands from the ID, the serial, the width and the key on
  abbrev from_width : List ℕ
  from_width = bytes_of 8 n ++ (key ++ [])

  abbrev from_serial : List ℕ
  from_serial = name_bytes s.serial ++ from_width

  abbrev from_id : List ℕ
  from_id = name_bytes s.id ++ from_serial

  all_settings : drop 0 (settings_bytes s n key) ≡ s.csp ++ from_id
  unfolding settings_bytes
  all_settings = sym (append-nil (settings_bytes s n key)) ∙ simp append_assoc

  settings_read : (settings_at (settings_bytes s n key) ≡ s) × (width_at (settings_bytes s n key) ≡ n) × (key_at (settings_bytes s n key) ≡ key)
  unfolding settings_at width_at key_at
  settings_read =
      let l = settings_bytes s n key in
      let d₁ = all_settings in
      let d₂ = part_after l 0 3 s.csp from_id d₁ t.settings.csp in
      let d₃ = part_after l 3 40 (name_bytes s.id) from_serial d₂ (length_name s.id t.settings.id) in
      let d₄ = part_after l 43 40 (name_bytes s.serial) from_width d₃ (length_name s.serial t.settings.serial) in
      let d₅ = part_after l 83 8 (bytes_of 8 n) (key ++ []) d₄ (length_bytes_of 8 n) in
      let csp = part_here l 0 3 s.csp from_id d₁ t.settings.csp in
      let id = name_here l 3 s.id from_serial d₂ t.settings.id t.id in
      let serial = name_here l 43 s.serial from_width d₃ t.settings.serial t.serial in
      (λ i. record { csp = csp i; id = id i; serial = serial i }, count_here l 83 8 n (key ++ []) d₄ (omega (arith, t.width)), part_here l 91 32 key [] d₅ t.key_length)

pub settings_are_read : SettingsAreRead
unfolding settings_of width_of key_of
settings_are_read s n key t = rw (eq-eqb (length (settings_bytes s n key)) 123 (length_settings s t.settings n key t.key_length)) (settings_read s n key t)

pub written_settings_are_read : WrittenSettingsAreRead
unfolding settings_answer settings_buffer
written_settings_are_read csp id serial key n out b z =
    let s = settings_from csp id serial in
    let a = settings_zero s false (width_with key n) (ask (eqb (length out) 123) 23 0) z in
    let l = key_long key n a.1 in
    let w : width_good n ≡ true = subst (λ (k : ℕ). width_good k ≡ true) (width_whole key n l) a.1 in
    let e : settings_buffer s key n out ≡ settings_bytes s n key = ifZero-yes (settings_bytes s n key) out z in
    let r = settings_are_read s n key (good_register s n key (from_typed csp id serial) a.0 w l b) in
    (ap settings_of e ∙ r.0, ap width_of e ∙ r.1, ap key_of e ∙ r.2)

-- ---- states

module _ (st : State) (t : TypedState st) where
  -- what stands from each of its parts on
  abbrev from_place : List ℕ
  from_place = bytes_of 8 st.place ++ []

  abbrev from_since : List ℕ
  from_since = bytes_of 4 st.since ++ from_place

  abbrev from_length : List ℕ
  from_length = bytes_of 8 st.length ++ from_since

  abbrev from_chain : List ℕ
  from_chain = st.chain ++ from_length

  abbrev from_issued : List ℕ
  from_issued = bytes_of 4 st.issued ++ from_chain

  abbrev from_last : List ℕ
  from_last = bytes_of 4 st.last ++ from_issued

  abbrev from_counter : List ℕ
  from_counter = counter_bytes 8 st.counter ++ from_last

  abbrev from_key : List ℕ
  from_key = st.key ++ from_counter

  abbrev from_states_width : List ℕ
  from_states_width = bytes_of 8 st.width ++ from_key

  abbrev from_serials : List ℕ
  from_serials = names_bytes st.serials ++ from_states_width

  abbrev from_states_id : List ℕ
  from_states_id = name_bytes st.id ++ from_serials

  all_state : drop 0 (state_bytes st) ≡ st.csp ++ from_states_id
  unfolding state_bytes register_bytes figures_bytes
  all_state = sym (append-nil (state_bytes st)) ∙ simp append_assoc

  state_read : state_at (state_bytes st) ≡ st
  unfolding state_at
  state_read =
      let l = state_bytes st in
      let z = st.counter in
      let d₁ = all_state in
      let d₂ = part_after l 0 3 st.csp from_states_id d₁ t.csp in
      let d₃ = part_after l 3 40 (name_bytes st.id) from_serials d₂ (length_name st.id t.id.long) in
      let m = length_names st.serials (typed_lengths t).serials in
      let d₄ = part_after l 43 320 (names_bytes st.serials) from_states_width d₃ (omega (arith, m, t.eight)) in
      let d₅ = part_after l 363 8 (bytes_of 8 st.width) from_key d₄ (length_bytes_of 8 st.width) in
      let d₆ = part_after l 371 32 st.key from_counter d₅ t.key_length in
      let d₇ = part_after l 403 8 (counter_bytes 8 z) from_last d₆ (length_counter_bytes 8 z) in
      let d₈ = part_after l 411 4 (bytes_of 4 st.last) from_issued d₇ (length_bytes_of 4 st.last) in
      let d₉ = part_after l 415 4 (bytes_of 4 st.issued) from_chain d₈ (length_bytes_of 4 st.issued) in
      let d₁₀ = part_after l 419 8 st.chain from_length d₉ t.chain in
      let d₁₁ = part_after l 427 8 (bytes_of 8 st.length) from_since d₁₀ (length_bytes_of 8 st.length) in
      let d₁₂ = part_after l 435 4 (bytes_of 4 st.since) from_place d₁₁ (length_bytes_of 4 st.since) in
      let csp = part_here l 0 3 st.csp from_states_id d₁ t.csp in
      let id = name_here l 3 st.id from_serials d₂ t.id.long t.id.small in
      let serials = ap (names_at l 43) (sym t.eight) ∙ names_here l 43 st.serials from_states_width d₃ (λ i h. t.serials i (omega (arith, t.eight))) in
      let width = count_here l 363 8 st.width from_key d₄ (omega (arith, t.width)) in
      let key = part_here l 371 32 st.key from_counter d₅ t.key_length in
      let bytes = part_here l 403 8 (counter_bytes 8 z) from_last d₆ (length_counter_bytes 8 z) in
      let counter = ap (counter_value 8) bytes ∙ counter_back 8 z (fits_wide 8 z eight_good ∙ t.counter) in
      let last = count_here l 411 4 st.last from_issued d₇ (omega (arith, t.last)) in
      let issued = count_here l 415 4 st.issued from_chain d₈ (omega (arith, t.issued)) in
      let chain = part_here l 419 8 st.chain from_length d₉ t.chain in
      let len = count_here l 427 8 st.length from_since d₁₀ (omega (arith, t.in_journal)) in
      let since = count_here l 435 4 st.since from_place d₁₁ (omega (arith, t.since)) in
      let place = count_here l 439 8 st.place [] d₁₂ (omega (arith, t.place)) in
      λ i. record {
        csp = csp i;
        id = id i;
        serials = serials i;
        width = width i;
        key = key i;
        counter = counter i;
        last = last i;
        issued = issued i;
        chain = chain i;
        length = len i;
        since = since i;
        place = place i;
      }

pub state_is_read : StateIsRead
unfolding state_of
state_is_read st t = rw (eq-eqb (length (state_bytes st)) 447 (length_state st (typed_lengths t))) (state_read st t)

-- ---- what was read is written

-- one more part
pub next_part : (b : List ℕ) (at n : ℕ) {y x : List ℕ} → y ≡ take at b → x ≡ take n (drop at b) → y ++ x ≡ take (at + n) b
next_part b at n p q = (λ i. p i ++ q i) ∙ sym (take-add at n b)

module _ (b : List ℕ) (a : AllBytes b) where
  name_again : (at : ℕ) → at + 40 ≤ length b → name_bytes (name_at b at) ≡ take 40 (drop at b)
  unfolding name_at
  name_again at h = next_part (drop at b) 32 8 refl (count_bytes b a (at + 32) 8 (omega arith) ∙ ap (take 8) (sym (drop-drop 32 at b)))

  names_again : (k at : ℕ) → at + 40 * k ≤ length b → names_bytes (names_at b at k) ≡ take (40 * k) (drop at b)
  unfolding names_bytes names_at
  names_again zero at h = refl
  names_again (suc k) at h =
      let e : 40 + 40 * k ≡ 40 * suc k = omega arith in
      next_part (drop at b) 40 (40 * k) (name_again at (omega arith)) (names_again k (at + 40) (omega arith) ∙ ap (take (40 * k)) (sym (drop-drop 40 at b)))
      ∙ ap (λ (n : ℕ). take n (drop at b)) e

  settings_again_lem : length b ≡ 123 → settings_bytes (settings_at b) (width_at b) (key_at b) ≡ b
  unfolding settings_bytes settings_at name_at width_at key_at
  settings_again_lem e =
      let c : (at : ℕ) → at + 8 ≤ length b → bytes_of 8 (count_at b at 8) ≡ take 8 (drop at b) = λ at h. count_bytes b a at 8 h in
      let p₁ = next_part b 3 32 refl refl in
      let p₂ = next_part b 35 8 p₁ (c 35 (omega arith)) in
      let p₃ = next_part b 43 32 p₂ refl in
      let p₄ = next_part b 75 8 p₃ (c 75 (omega arith)) in
      let p₅ = next_part b 83 8 p₄ (c 83 (omega arith)) in
      next_part b 91 32 p₅ refl ∙ take_all 123 b (omega arith)

  module _ (e : length b ≡ 447) where
    register_again : register_bytes (state_at b) ≡ take 403 b
    unfolding register_bytes state_at
    register_again =
        let p₁ = next_part b 3 40 refl (name_again 3 (omega arith)) in
        let p₂ = next_part b 43 320 p₁ (names_again 8 43 (omega arith)) in
        let p₃ = next_part b 363 8 p₂ (count_bytes b a 363 8 (omega arith)) in
        next_part b 371 32 p₃ refl

    counter_again : counter_bytes 8 (counter_value 8 (take 8 (drop 403 b))) ≡ take 8 (drop 403 b)
    counter_again =
        let l = part_length b a 403 8 (omega arith) in
        let m : length (take 8 (drop 403 b)) ≤ 8 = omega arith in
        counter_whole 8 eight_good (bytes_take 8 (bytes_drop 403 a)) l (drop_of_length-le (take 8 (drop 403 b)) m)

    figures_split : (y : List ℕ) (st : State)
        → y ++ figures_bytes st
        ≡ y ++ counter_bytes 8 st.counter ++ bytes_of 4 st.last ++ bytes_of 4 st.issued ++ st.chain ++ bytes_of 8 st.length ++ bytes_of 4 st.since
        ++ bytes_of 8 st.place
    unfolding figures_bytes
    figures_split y st = simp append_assoc

    state_again : state_bytes (state_at b) ≡ b
    unfolding state_bytes state_at
    state_again =
        let c : (at n : ℕ) → at + n ≤ length b → bytes_of n (count_at b at n) ≡ take n (drop at b) = λ at n h. count_bytes b a at n h in
        let p₁ = next_part b 403 8 register_again counter_again in
        let p₂ = next_part b 411 4 p₁ (c 411 4 (omega arith)) in
        let p₃ = next_part b 415 4 p₂ (c 415 4 (omega arith)) in
        let p₄ = next_part b 419 8 p₃ refl in
        let p₅ = next_part b 427 8 p₄ (c 427 8 (omega arith)) in
        let p₆ = next_part b 435 4 p₅ (c 435 4 (omega arith)) in
        let p₇ = next_part b 439 8 p₆ (c 439 8 (omega arith)) in
        figures_split (register_bytes (state_at b)) (state_at b) ∙ p₇ ∙ take_all 447 b (omega arith)

pub settings_bytes_are_kept : SettingsBytesAreKept
unfolding settings_of width_of key_of
settings_bytes_are_kept b a e = rw (eq-eqb (length b) 123 e) (settings_again_lem b a e)

pub bytes_are_kept : BytesAreKept
unfolding state_of
bytes_are_kept b a e = rw (eq-eqb (length b) 447 e) (state_again b a e)

-- ---- a state that was read is kept as it was

pub kept_as_it_was : (b : List ℕ) → AllBytes b → kept b (state_of b) ≡ b
unfolding kept
kept_as_it_was b a = go (eqb (length b) 447) refl
  where
    go : (t : Bool) → eqb (length b) 447 ≡ t → cond t (state_bytes (state_of b)) b ≡ b
    go true e = bytes_are_kept b a (eqb-true (length b) 447 e)
    go false e = refl

-- ---- what bytes read as has the code's types

module _ (b : List ℕ) (a : AllBytes b) where
  name_typed : (at : ℕ) → at + 40 ≤ length b → TypedName (name_at b at)
  unfolding name_at
  name_typed at h =
      record { long = part_length b a at 32 (omega arith); bytes = bytes_take 32 (bytes_drop at a); small = omega (arith, count_lt b a (at + 32) 8 (omega arith)) }

  names_typed : (k at : ℕ) → at + 40 * k ≤ length b → (length (names_at b at k) ≡ k) × ((i : ℕ) → i < k → TypedName (get_or (names_at b at k) i no_name))
  unfolding names_at
  names_typed zero at h = (refl, λ i l. absurd (omega arith))
  names_typed (suc k) at h =
      let p = names_typed k (at + 40) (omega arith) in
      (ap suc p.0, go p.1)
    where
      go : ((i : ℕ) → i < k → TypedName (get_or (names_at b (at + 40) k) i no_name)) → (i : ℕ) → i < suc k → TypedName (get_or (name_at b at ∷ names_at b (at + 40) k) i no_name)
      go f zero l = name_typed at (omega arith)
      go f (suc i) l = f i (omega arith)

  pub bytes_typed : length b ≡ 447 → TypedState (state_of b)
  unfolding state_of state_at
  bytes_typed e =
      let ns = names_typed 8 43 (omega arith) in
      let f = fits_value 8 eight_good (bytes_take 8 (bytes_drop 403 a)) (part_length b a 403 8 (omega arith)) in
      rw (eq-eqb (length b) 447 e) (record {
        csp = part_length b a 0 3 (omega arith);
        id = name_typed 3 (omega arith);
        eight = ns.0;
        serials = ns.1;
        width = omega (arith, count_lt b a 363 8 (omega arith));
        key_length = part_length b a 371 32 (omega arith);
        key_bytes = bytes_take 32 (bytes_drop 371 a);
        counter = sym (fits_wide 8 (counter_value 8 (take 8 (drop 403 b))) eight_good) ∙ f;
        last = omega (arith, count_lt b a 411 4 (omega arith));
        issued = omega (arith, count_lt b a 415 4 (omega arith));
        chain = part_length b a 419 8 (omega arith);
        chain_bytes = bytes_take 8 (bytes_drop 419 a);
        in_journal = omega (arith, count_lt b a 427 8 (omega arith));
        since = omega (arith, count_lt b a 435 4 (omega arith));
        place = omega (arith, count_lt b a 439 8 (omega arith));
      })
