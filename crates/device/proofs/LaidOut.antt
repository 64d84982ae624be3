-- Settings, state and details lie in their bytes as include/ditgrux.h says.
use Rattle.std.proofs.Common.{ℕ, zero, suc, ◌+◌, ◌-◌, ◌*◌, ◌/◌, ◌%◌, ◌^◌, ◌≤◌, ◌<◌, ◌≡◌, refl, sym, ap, ◌∙◌, subst, Bool, true, false, cond, List, [], ◌∷◌, ◌++◌, append_assoc, arith, eq-eqb, eqb-true, ltb-true, ltb-false, eqb, ltb, ℤ, negsuc, length, take, drop, get_or, replicate, drop-cons, drop-drop, take-add, take_all}
use Rattle.std.proofs.lemmas.Bool.{eqb-false}
use Rattle.primitives.specs.Bytes.{AllBytes}
use Rattle.primitives.specs.Number.{digits_of, bytes_of, number_after, value_after, value_of, count_at}
use Rattle.primitives.specs.Counter.{half, of_twos, counter_value}
use Rattle.primitives.proofs.Counts.{part_length, count_is, count_bytes, count_lt}
use Rattle.primitives.proofs.Numbers.{value_append}
use Rattle.primitives.proofs.Twos.{of_lower, of_upper, value_wide}
use Rattle.primitives.proofs.Rows.{ask_yes}
use Rattle.receipt.specs.Settings.{name_text}
use Rattle.receipt.specs.declared.settings.Name.{Name}
use Rattle.receipt.specs.declared.settings.Settings.{Settings}
use Rattle.journal.specs.State.{no_name, used, unopened}
use Rattle.journal.specs.declared.state.State.{State}
use Rattle.device.specs.Layout.{settings_bytes, name_at, settings_at, width_at, key_at, names_at, state_at, settings_of, width_of, key_of, state_of}
use Rattle.device.specs.Details.{no_details, details_of, number_in, amount_in, details_in, details_from, list_in}
use Rattle.device.specs.Calls.{serial_in, settings_in, settings_in_buffer, order_in}
use Rattle.device.specs.LayoutWords.{four, eight, InTwos, NameThere, SettingsAreLaidOut, StateIsLaidOut, DetailsAreLaidOut, ListIsLaidOut, SerialsBefore, Says, SaysNothing, StateIsReadInC, SerialIsReadInC, SettingsInAreRead}
use Rattle.device.proofs.Sizes.{state_none}
use Rattle.device.proofs.DetailLaws.{eight_good}
use Rattle.device.proofs.Spelling.{next_part}
use Rattle.device.proofs.CallAnswers.{serial_none, serial_some, settings_in_none}

-- ---- numbers

module _ (b : List ℕ) where
  -- the byte at a place, and those after it
  one : (at k : ℕ) → at + k < length b → drop (at + k) b ≡ get_or b (at + k) 0 ∷ drop (at + suc k) b
  one at k h = let e : suc (at + k) ≡ at + suc k = omega arith in drop-cons b (at + k) 0 h ∙ ap (λ (i : ℕ). get_or b (at + k) 0 ∷ drop i b) e

  four_bytes : (at : ℕ) → at + 4 ≤ length b → take 4 (drop at b) ≡ get_or b at 0 ∷ get_or b (at + 1) 0 ∷ get_or b (at + 2) 0 ∷ get_or b (at + 3) 0 ∷ []
  four_bytes at h =
      let z : at + 0 ≡ at = omega arith in
      let e₀ : drop at b ≡ get_or b at 0 ∷ drop (at + 1) b = subst (λ (k : ℕ). drop k b ≡ get_or b k 0 ∷ drop (at + 1) b) z (one at 0 (omega arith)) in
      let e₁ = one at 1 (omega arith) in
      let e₂ = one at 2 (omega arith) in
      let e₃ = one at 3 (omega arith) in
      ap (take 4) e₀ ∙ ap (λ (l : List ℕ). get_or b at 0 ∷ take 3 l) e₁ ∙ ap (λ (l : List ℕ). get_or b at 0 ∷ get_or b (at + 1) 0 ∷ take 2 l) e₂
      ∙ ap (λ (l : List ℕ). get_or b at 0 ∷ get_or b (at + 1) 0 ∷ get_or b (at + 2) 0 ∷ take 1 l) e₃

  value_four : (w x y z : ℕ) → value_of (w ∷ x ∷ y ∷ z ∷ []) ≡ ((w * 256 + x) * 256 + y) * 256 + z
  unfolding value_of value_after number_after
  value_four w x y z = omega arith

  pub count_four : (at : ℕ) → at + 4 ≤ length b → count_at b at 4 ≡ four b at
  count_four at h = count_is b at 4 ∙ ap value_of (four_bytes at h) ∙ value_four _ _ _ _

  pub count_eight : (at : ℕ) → at + 8 ≤ length b → count_at b at 8 ≡ eight b at
  count_eight at h =
      let d = drop at b in
      let e : take 8 d ≡ take 4 d ++ take 4 (drop (at + 4) b) = take-add 4 4 d ∙ ap (λ (l : List ℕ). take 4 d ++ take 4 l) (drop-drop 4 at b) in
      let l : length (take 4 (drop (at + 4) b)) ≡ 4 = ap length (four_bytes (at + 4) (omega arith)) in
      let p : value_of (take 4 d) ≡ four b at = ap value_of (four_bytes at (omega arith)) ∙ value_four _ _ _ _ in
      let q : value_of (take 4 (drop (at + 4) b)) ≡ four b (at + 4) = ap value_of (four_bytes (at + 4) (omega arith)) ∙ value_four _ _ _ _ in
      count_is b at 8 ∙ ap value_of e ∙ value_append (take 4 d) (take 4 (drop (at + 4) b))
      ∙ (λ i. p i * (256 ^ l i) + q i)

half_eight : half 8 ≡ 9223372036854775808
unfolding half
half_eight = refl

-- two's complement of eight bytes
in_twos : (b : List ℕ) → AllBytes b → (at : ℕ) → at + 8 ≤ length b → InTwos (eight b at) (counter_value 8 (take 8 (drop at b)))
in_twos b a at h =
    let v = count_at b at 8 in
    let e : v ≡ eight b at = count_eight b at h in
    let q : counter_value 8 (take 8 (drop at b)) ≡ of_twos 8 v = value_wide 8 (take 8 (drop at b)) eight_good ∙ ap (λ (l : List ℕ). of_twos 8 (value_of l)) (take_all 8 (take 8 (drop at b)) (omega (arith, part_length b a at 8 h))) ∙ ap (of_twos 8) (sym (count_is b at 8)) in
    subst (λ (x : ℕ). InTwos x (counter_value 8 (take 8 (drop at b)))) e
    (record {
      low = λ l. q ∙ of_lower 8 v (subst (λ (x : ℕ). v < x) (sym half_eight) l);
      high = λ l.
          let s : 18446744073709551616 - suc v ≡ 18446744073709551615 - v = omega arith in
          q ∙ of_upper 8 v (subst (λ (x : ℕ). x ≤ v) (sym half_eight) l) (count_lt b a at 8 h) ∙ ap negsuc s;
    })

-- ---- names

name_there : (b : List ℕ) (at : ℕ) → at + 40 ≤ length b → NameThere b at (name_at b at)
unfolding name_at
name_there b at h = record { bytes = refl; len = count_eight b (at + 32) (omega arith) }

names_there : (b : List ℕ) (k at i : ℕ) → i < k → get_or (names_at b at k) i no_name ≡ name_at b (at + 40 * i)
unfolding names_at
names_there b zero at i l = absurd (omega arith)
names_there b (suc k) at zero l = let e : at ≡ at + 40 * 0 = omega arith in ap (name_at b) e
names_there b (suc k) at (suc i) l = let e : at + 40 + 40 * i ≡ at + 40 * suc i = omega arith in names_there b k (at + 40) i (omega arith) ∙ ap (name_at b) e

names_many : (b : List ℕ) (k at : ℕ) → length (names_at b at k) ≡ k
unfolding names_at
names_many b zero at = refl
names_many b (suc k) at = ap suc (names_many b k (at + 40))

-- ---- settings and state

settings_read : (b : List ℕ) → length b ≡ 123 → (settings_of b ≡ settings_at b) × (width_of b ≡ width_at b) × (key_of b ≡ key_at b)
unfolding settings_of width_of key_of
settings_read b l = rw (eq-eqb (length b) 123 l) (refl, refl, refl)

pub settings_are_laid_out : SettingsAreLaidOut
unfolding settings_at width_at key_at
settings_are_laid_out b a l =
    let e = settings_read b l in
    record {
      csp = ap (λ (x : Settings). x.csp) e.0;
      id = subst (λ (x : Settings). NameThere b 3 x.id) (sym e.0) (name_there b 3 (omega arith));
      serial = subst (λ (x : Settings). NameThere b 43 x.serial) (sym e.0) (name_there b 43 (omega arith));
      width = e.1 ∙ count_eight b 83 (omega arith);
      key = e.2;
    }

pub state_is_laid_out : StateIsLaidOut
unfolding state_of state_at
state_is_laid_out b a l =
    rw (eq-eqb (length b) 447 l) (record {
      csp = refl;
      id = name_there b 3 (omega arith);
      most = names_many b 8 43;
      serials = λ i h. subst (NameThere b (43 + 40 * i)) (sym (names_there b 8 43 i h)) (name_there b (43 + 40 * i) (omega arith));
      width = count_eight b 363 (omega arith);
      key = refl;
      counter = in_twos b a 403 (omega arith);
      last = count_four b 411 (omega arith);
      issued = count_four b 415 (omega arith);
      chain = refl;
      length = count_eight b 427 (omega arith);
      since = count_four b 435 (omega arith);
      place = count_eight b 439 (omega arith);
    })

-- ---- details

one_value : (v : ℕ) (y z : ℤ) → InTwos v y → InTwos v z → y ≡ z
one_value v y z p q = go (ltb v 9223372036854775808) refl
  where
    go : (t : Bool) → ltb v 9223372036854775808 ≡ t → y ≡ z
    go true e = let h = ltb-true v 9223372036854775808 e in p.low h ∙ sym (q.low h)
    go false e = let h = ltb-false v 9223372036854775808 e in p.high h ∙ sym (q.high h)

module _ (b : List ℕ) (a : AllBytes b) (at : ℕ) where
  number_there : at + 4 ≤ length b → {v : ℕ} → v ≡ four b at → count_at b at 4 ≡ v
  number_there h e = count_four b at h ∙ sym e

  amount_there : at + 8 ≤ length b → {z : ℤ} → InTwos (eight b at) z → counter_value 8 (take 8 (drop at b)) ≡ z
  amount_there h {z} w = one_value (eight b at) (counter_value 8 (take 8 (drop at b))) z (in_twos b a at h) w

pub details_are_laid_out : DetailsAreLaidOut
unfolding details_in order_in number_in amount_in
details_are_laid_out b c a l t =
    λ i. details_of (number_there b a 0 (omega arith) t.number i) (number_there b a 4 (omega arith) t.year i) (number_there b a 8 (omega arith) t.month i)
    (number_there b a 12 (omega arith) t.day i) (number_there b a 16 (omega arith) t.hour i) (number_there b a 20 (omega arith) t.minute i)
    (number_there b a 24 (omega arith) t.second i) (amount_there b a 32 (omega arith) t.standard i) (amount_there b a 40 (omega arith) t.reduced1 i)
    (amount_there b a 48 (omega arith) t.reduced2 i) (amount_there b a 56 (omega arith) t.zero i) (amount_there b a 64 (omega arith) t.special i)
    (number_there b a 28 (omega arith) t.kind i)

from_there : (k : ℕ) (b : List ℕ) → (length (details_from k b) ≡ k) × ((i : ℕ) → i < k → get_or (details_from k b) i no_details ≡ details_in (take 72 (drop (72 * i) b)))
unfolding details_from
from_there zero b = (refl, λ i h. absurd (omega arith))
from_there (suc k) b =
    let p = from_there k (drop 72 b) in
    (ap suc p.0, go p.1)
  where
    go : ((i : ℕ) → i < k → get_or (details_from k (drop 72 b)) i no_details ≡ details_in (take 72 (drop (72 * i) (drop 72 b)))) → (i : ℕ) → i < suc k
        → get_or (details_in (take 72 b) ∷ details_from k (drop 72 b)) i no_details ≡ details_in (take 72 (drop (72 * i) b))
    go f zero h = refl
    go f (suc i) h =
        let e : 72 + 72 * i ≡ 72 * suc i = omega arith in
        f i (omega arith) ∙ ap (λ (l : List ℕ). details_in (take 72 l)) (drop-drop (72 * i) 72 b ∙ ap (λ (n : ℕ). drop n b) e)

pub list_is_laid_out : ListIsLaidOut
unfolding list_in
list_is_laid_out b k l =
    let r : length b % 72 ≡ 0 = omega arith in
    let q : length b / 72 ≡ k = omega arith in
    rw (eq-eqb (length b % 72) 0 r, q) (from_there k b)

-- ---- what a state says

record UsedSo (ns : List Name) (k : ℕ) : Type 0 where
  most : k ≤ length ns
  before : (i : ℕ) → i < k → (get_or ns i no_name).len ≡ 0 → ⊥
  first : k < length ns → (get_or ns k no_name).len ≡ 0

used_so : (ns : List Name) → UsedSo ns (length (used ns))
unfolding used
used_so [] = record { most = omega arith; before = λ i h. absurd (omega arith); first = λ h. absurd (omega arith) }
used_so (n ∷ ns) = go (eqb n.len 0) refl (used_so ns)
  where
    later : UsedSo ns (length (used ns)) → (n.len ≡ 0 → ⊥) → (i : ℕ) → i < suc (length (used ns)) → (get_or (n ∷ ns) i no_name).len ≡ 0 → ⊥
    later u h zero l z = h z
    later u h (suc i) l z = u.before i (omega arith) z

    go : (t : Bool) → eqb n.len 0 ≡ t → UsedSo ns (length (used ns)) → UsedSo (n ∷ ns) (length (cond t [] (n ∷ used ns)))
    go true e u = record { most = omega arith; before = λ i h. absurd (omega arith); first = λ h. eqb-true n.len 0 e }
    go false e u = record { most = omega (arith, u.most); before = later u (eqb-false n.len 0 e); first = λ h. u.first (omega arith) }

serials_before : (b : List ℕ) (ns : List Name) → length ns ≡ 8 → ((i : ℕ) → i < 8 → NameThere b (43 + 40 * i) (get_or ns i no_name)) → SerialsBefore b (length (used ns))
serials_before b ns e t =
    let u = used_so ns in
    let p : (i : ℕ) → i < 8 → (get_or ns i no_name).len ≡ eight b (75 + 40 * i) = λ i h.
    let q : 43 + 40 * i + 32 ≡ 75 + 40 * i = omega arith in (t i h).len ∙ ap (λ (at : ℕ). eight b at) q in
    record {
      most = omega (arith, u.most);
      before = λ i h z. u.before i h (p i (omega (arith, u.most)) ∙ z);
      first = λ h. sym (p (length (used ns)) h) ∙ u.first (omega arith);
    }

says : (b : List ℕ) → AllBytes b → length b ≡ 447 → Says b
says b a l =
    let s = state_is_laid_out b a l in
    record { counter = s.counter; last = s.last; receipts = s.issued; journal = s.length; serials = serials_before b (state_of b).serials s.most s.serials }

none_used : length (used unopened.serials) ≡ 0
unfolding used unopened
none_used = refl

says_nothing : (b : List ℕ) → (length b ≡ 447 → ⊥) → SaysNothing b
unfolding unopened
says_nothing b h =
    let e = state_none b h in
    record {
      counter = ap (λ (x : State). x.counter) e;
      last = ap (λ (x : State). x.last) e;
      receipts = ap (λ (x : State). x.issued) e;
      journal = ap (λ (x : State). x.length) e;
      serials = ap (λ (x : State). length (used x.serials)) e ∙ none_used;
    }

pub state_is_read_in_c : StateIsReadInC
state_is_read_in_c = record { long = says; other = says_nothing }

-- ---- one of the serials

module _ (b : List ℕ) (which : ℕ) where
  found : AllBytes b → length b ≡ 447 → which < length (used (state_of b).serials) → NameThere b (43 + 40 * which) (serial_in (state_of b) which)
  found a l h =
      let s = state_is_laid_out b a l in
      let u = used_so (state_of b).serials in
      subst (NameThere b (43 + 40 * which)) (serial_some (state_of b) which refl no_name h) (s.serials which (omega (arith, u.most, s.most, h)))

  text_there : AllBytes b → length b ≡ 447 → which < length (used (state_of b).serials)
      → name_text (serial_in (state_of b) which) ≡ take (eight b (75 + 40 * which)) (take 32 (drop (43 + 40 * which) b))
  unfolding name_text
  text_there a l h =
      let t = found a l h in
      let q : 43 + 40 * which + 32 ≡ 75 + 40 * which = omega arith in
      let e : (serial_in (state_of b) which).len ≡ eight b (75 + 40 * which) = t.len ∙ ap (λ (at : ℕ). eight b at) q in
      λ i. take (e i) (t.bytes i)

  text_none : length (used (state_of b).serials) ≤ which → name_text (serial_in (state_of b) which) ≡ []
  unfolding name_text
  text_none h = ap name_text (sym (serial_none (state_of b) which refl h))

pub serial_is_read_in_c : SerialIsReadInC
serial_is_read_in_c = record { there = text_there; none = text_none }

-- ---- the settings with it

glued : (c i l s k w x : List ℕ) {X S W : List ℕ} → c ++ i ++ l ≡ X → s ++ k ≡ S → w ++ x ≡ W → c ++ i ++ l ++ s ++ k ++ w ++ x ≡ X ++ S ++ W
glued c i l s k w x {W = W} p q r =
    append_assoc (c ++ i ++ l ++ s ++ k) w x ∙ (λ j. append_assoc (c ++ i ++ l) s k j ++ r j) ∙ (λ j. p j ++ q j ++ W)

number_again : (b : List ℕ) → AllBytes b → (at : ℕ) → at + 8 ≤ length b → {v : ℕ} → v ≡ eight b at → bytes_of 8 v ≡ take 8 (drop at b)
number_again b a at h e = ap (bytes_of 8) (e ∙ sym (count_eight b at h)) ∙ count_bytes b a at 8 h

name_again : (b : List ℕ) → AllBytes b → (at : ℕ) → at + 40 ≤ length b → {n : Name} → NameThere b at n → n.bytes ++ bytes_of 8 n.len ≡ take 40 (drop at b)
name_again b a at h t = next_part (drop at b) 32 8 t.bytes (number_again b a (at + 32) (omega arith) t.len ∙ ap (take 8) (sym (drop-drop 32 at b)))

module _ (b : List ℕ) (which : ℕ) (out : List ℕ) (lo : length out ≡ 123) where
  left_is : settings_in_buffer (state_of b) which out ≡ settings_bytes (settings_in (state_of b) which) (state_of b).width (state_of b).key
  unfolding settings_in_buffer
  left_is = rw (eq-eqb (length out) 123 lo)

  module _ (a : AllBytes b) (l : length b ≡ 447) where
    left_with : (S : List ℕ) → (serial_in (state_of b) which).bytes ++ bytes_of 8 (serial_in (state_of b) which).len ≡ S
        → settings_in_buffer (state_of b) which out ≡ take 43 b ++ S ++ take 40 (drop 363 b)
    unfolding settings_bytes settings_in
    left_with S e =
        let s = state_is_laid_out b a l in
        let st = state_of b in
        let n = serial_in (state_of b) which in
        left_is
        ∙ glued st.csp st.id.bytes (bytes_of 8 st.id.len) n.bytes (bytes_of 8 n.len) (bytes_of 8 st.width) st.key (next_part b 35 8 (next_part b 3 32 s.csp s.id.bytes) (number_again b a 35 (omega arith) s.id.len)) e
        (next_part (drop 363 b) 8 32 (number_again b a 363 (omega arith) s.width) (s.key ∙ ap (take 32) (sym (drop-drop 8 363 b))))

    left_there : which < length (used (state_of b).serials) → settings_in_buffer (state_of b) which out ≡ take 43 b ++ take 40 (drop (43 + 40 * which) b) ++ take 40 (drop 363 b)
    left_there h =
        let s = state_is_laid_out b a l in
        let u = used_so (state_of b).serials in
        left_with _ (name_again b a (43 + 40 * which) (omega (arith, u.most, s.most, h, l)) (found b which a l h))

    left_none : length (used (state_of b).serials) ≤ which → settings_in_buffer (state_of b) which out ≡ take 43 b ++ replicate 40 0 ++ take 40 (drop 363 b)
    unfolding bytes_of digits_of
    left_none h = left_with _ (ap (λ (n : Name). n.bytes ++ bytes_of 8 n.len) (sym (serial_none (state_of b) which refl h)))

  left_other : (length b ≡ 447 → ⊥) → settings_in_buffer (state_of b) which out ≡ replicate 123 0
  unfolding settings_bytes settings_in unopened bytes_of digits_of
  left_other h =
      let e = state_none b h in
      let z : length (used (state_of b).serials) ≡ 0 = (says_nothing b h).serials in
      let n : no_name ≡ serial_in (state_of b) which = serial_none (state_of b) which refl (omega (arith, z)) in
      left_is ∙ (λ i. settings_bytes (record { csp = (e i).csp; id = (e i).id; serial = sym n i }) (e i).width (e i).key)

pub settings_in_are_read : SettingsInAreRead
settings_in_are_read =
    record {
      there = λ b which out a l lo h. left_there b which out lo a l h;
      none = λ b which out a l lo h. left_none b which out lo a l h;
      other = λ b which out h lo. left_other b which out lo h;
      done = λ out l. ask_yes 23 0 (eq-eqb (length out) 123 l);
      short = λ b which out h. let p = settings_in_none (state_of b) which out h in (sym p.0, sym p.1);
    }
