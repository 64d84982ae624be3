-- What the definitions say of slices of the right length, and of others.
use Rattle.std.proofs.Common.{ℕ, ◌≡◌, refl, sym, ◌∙◌, Bool, true, false, cond, List, arith, eq-eqb, ne_eqb, eqb-true, eqb, length, replicate}
use Rattle.std.specs.Prelude.{Result, Ok, Err, IsOk, MatchResult}
use Rattle.std.specs.Result.{result_unwrap_or}
use Rattle.std.specs.Array.{IsWholeChunk}
use Rattle.std.proofs.lemmas.List.{length-replicate}
use Rattle.primitives.specs.Bytes.{AllBytes}
use Rattle.primitives.specs.Counter.{width_good}
use Rattle.primitives.proofs.ByteLists.{bytes_replicate}
use Rattle.primitives.proofs.Twos.{width_low, width_true}
use Rattle.primitives.proofs.Rows.{true-is-not-false}
use Rattle.receipt.specs.Settings.{settings_good, SettingsLengths}
use Rattle.receipt.specs.declared.settings.Settings.{Settings}
use Rattle.receipt.proofs.Names.{good_settings}
use Rattle.receipt.proofs.Entries.{length_array}
use Rattle.journal.specs.State.{unopened, TypedRegister}
use Rattle.journal.specs.Opening.{opened}
use Rattle.journal.specs.Checking.{take_over}
use Rattle.journal.specs.declared.state.State.{State}
use Rattle.device.specs.Layout.{state_bytes, array_of, settings_of, width_of, key_of, state_of, kept}
use Rattle.device.specs.Calls.{settings_from, width_with, open_answer, take_over_answer}

-- ---- arrays and keys

-- the array of a slice, for every size
module _ (n : ℕ) (b : List ℕ) where
  pub array_none : (length b ≡ n → ⊥) → replicate n 0 ≡ array_of n b
  unfolding array_of
  array_none h = rw (ne_eqb (length b) n h)

  pub array_whole : length b ≡ n → array_of n b ≡ b
  unfolding array_of
  array_whole h = rw (eq-eqb (length b) n h)

  -- the array that a slice is made into, or zeros
  pub array_made : {E : Type 0} (r : Result (List ℕ) E) {s : List ℕ} → (length b ≡ n → IsOk r) × MatchResult r (λ y. IsWholeChunk b y n) (λ _. length b ≡ n → ⊥)
      → s ≡ result_unwrap_or r (replicate n 0) → s ≡ array_of n b
  array_made (Ok y) q e = e ∙ q.1.same ∙ sym (array_whole q.1.long)
  array_made (Err _) q e = e ∙ array_none q.1

  pub array_long : length (array_of n b) ≡ n
  unfolding array_of
  array_long = go (eqb (length b) n) refl
    where
      go : (t : Bool) → eqb (length b) n ≡ t → length (cond t b (replicate n 0)) ≡ n
      go true e = eqb-true (length b) n e
      go false e = length-replicate n 0

  pub array_bytes : AllBytes b → AllBytes (array_of n b)
  unfolding array_of
  array_bytes a = go (eqb (length b) n)
    where
      go : (t : Bool) → AllBytes (cond t b (replicate n 0))
      go true = a
      go false = bytes_replicate n (omega arith)

pub width_whole : (key : List ℕ) (n : ℕ) → length key ≡ 32 → width_with key n ≡ n
unfolding width_with
width_whole key n l = rw (eq-eqb (length key) 32 l)

-- a good width came with a key of 32 bytes
pub key_long : (key : List ℕ) (n : ℕ) → width_good (width_with key n) ≡ true → length key ≡ 32
unfolding width_with
key_long key n w = go (eqb (length key) 32) refl w
  where
    go : (t : Bool) → eqb (length key) 32 ≡ t → width_good (cond t n 0) ≡ true → length key ≡ 32
    go true e w = eqb-true (length key) 32 e
    go false e w = true-is-not-false (sym (width_low 0 (omega arith)) ∙ w)

-- ---- settings

pub from_typed : (csp id serial : List ℕ) → SettingsLengths (settings_from csp id serial)
unfolding settings_from
from_typed csp id serial = record { csp = array_long 3 csp; id = length_array id; serial = length_array serial }

-- what the types say of good settings with a good width and a key of 32 bytes
pub good_register : (s : Settings) (n : ℕ) (key : List ℕ) → SettingsLengths s → settings_good s ≡ true → width_good n ≡ true → length key ≡ 32 → AllBytes key
    → TypedRegister s n key
good_register s n key t good width l b =
    let g = good_settings s good in
    record {
      settings = t;
      id = omega (arith, g.id.most);
      serial = omega (arith, g.serial.most);
      width = omega (arith, (width_true n width).most);
      key_length = l;
      key_bytes = b;
    }

-- ---- states

pub state_none : (b : List ℕ) → (length b ≡ 447 → ⊥) → state_of b ≡ unopened
unfolding state_of
state_none b h = rw (ne_eqb (length b) 447 h)

pub kept_not : (b : List ℕ) (st : State) → (length b ≡ 447 → ⊥) → kept b st ≡ b
unfolding kept
kept_not b st h = rw (ne_eqb (length b) 447 h)

pub kept_all : (b : List ℕ) (st : State) → length b ≡ 447 → kept b st ≡ state_bytes st
unfolding kept
kept_all b st h = rw (eq-eqb (length b) 447 h)

-- ---- open and take over

module _ (settings : List ℕ) (shared : Bool) (room size : ℕ) where
  pub open_six : (size ≡ 447 → ⊥) → open_answer settings shared room size ≡ record { number = 6; state = unopened }
  unfolding open_answer
  open_six h = rw (ne_eqb size 447 h)

  pub open_answer_lem : size ≡ 447 → open_answer settings shared room size ≡ opened (settings_of settings) (key_of settings) shared (width_of settings) room
  unfolding open_answer
  open_answer_lem h = rw (eq-eqb size 447 h)

module _ (journal key : List ℕ) (n size : ℕ) where
  pub take_six : (size ≡ 447 → ⊥) → take_over_answer journal key n size ≡ record { number = 6; index = 0; state = unopened }
  unfolding take_over_answer
  take_six h = rw (ne_eqb size 447 h)

  pub take_answer : size ≡ 447 → take_over_answer journal key n size ≡ take_over journal (array_of 32 key) (width_with key n)
  unfolding take_over_answer
  take_answer h = rw (eq-eqb size 447 h)
