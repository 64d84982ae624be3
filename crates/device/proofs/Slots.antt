-- What the code's types say of an array of names and of a state, and the name at a place.
use Rattle.std.proofs.Common.{ℕ, zero, suc, ◌≤◌, ◌<◌, ◌≡◌, refl, sym, ◌∙◌, List, [], ◌∷◌, le_of_suc-le-suc, arith, length, get_or, drop-cons, rules, ◌-◌, ap, drop}
use mathlib.Core.List.{head-eq_of_cons-eq}
use mir.Val.{Val}
use denote.Array.{each}
use denote.Shadow.{shadow}
use denote.Struct.Declared.{row}
use borrow.Kind.Array.{e_struct}
use Rattle.receipt.specs.declared.settings.Name.{Name}
use Rattle.receipt.specs.contracts.settings.Name.{the_type}
use Rattle.receipt.proofs.settings.Name.TheLaws.{the_laws, the_copy}
use Rattle.journal.specs.State.{no_name, used, last_from, newest, TypedState}
use Rattle.journal.proofs.Serials.{used_prefix}
use lib.ListN.{get_or-append}
use Rattle.journal.specs.declared.state.State.{State}
use Rattle.journal.specs.contracts.state.State as state

-- each name has its 32 bytes
abbrev pub Long : List Name → Type 0
Long ns = (i : ℕ) → i < length ns → length (get_or ns i no_name).bytes ≡ 32

-- in an array, by value or in a field of a struct
pub array_long : (ns : List Name) (us : List Val) → shadow (each Name (e_struct the_type the_laws the_copy).ty.own_val ns us) → Long ns
array_long [] us p i h = absurd (omega arith)
array_long (n ∷ ns) [] p i h = absurd p
array_long (n ∷ ns) (u ∷ us) p zero h = search rules
array_long (n ∷ ns) (u ∷ us) p (suc i) h = array_long ns us p.1 i (le_of_suc-le-suc h)

-- the name at a place does not depend on the one that stands for none
pub name_any : (ns : List Name) (i : ℕ) (d e : Name) → i < length ns → get_or ns i d ≡ get_or ns i e
name_any ns i d e h = head-eq_of_cons-eq (sym (drop-cons ns i d h) ∙ drop-cons ns i e h)

pub name_none : (ns : List Name) (i : ℕ) (d : Name) → length ns ≤ i → get_or ns i d ≡ d
name_none [] i d h = refl
name_none (n ∷ ns) zero d h = absurd (omega arith)
name_none (n ∷ ns) (suc i) d h = name_none ns i d (le_of_suc-le-suc h)

-- the names that are used: the one at a place before they end, and the newest, which stands last
pub used_at : (slots : List Name) (i : ℕ) (d : Name) → i < length (used slots) → get_or (used slots) i d ≡ get_or slots i d
used_at slots i d h = sym (get_or-append (used slots) (drop (length (used slots)) slots) d i h) ∙ ap (λ (l : List Name). get_or l i d) (sym (used_prefix slots))

last_at : (n : Name) (us : List Name) (d : Name) → last_from n us ≡ get_or (n ∷ us) (length us) d
unfolding last_from
last_at n [] d = refl
last_at n (u ∷ us) d = last_at u us d

last_is : (us : List Name) (d : Name) → 0 < length us → last_from no_name us ≡ get_or us (length us - 1) d
unfolding last_from
last_is [] d h = absurd (omega arith)
last_is (u ∷ us) d h =
    let k : suc (length us) - 1 ≡ length us = omega arith in
    rw k (last_at u us d)

pub newest_at : (slots : List Name) (k : ℕ) (d : Name) → k ≡ length (used slots) → 0 < k → get_or slots (k - 1) d ≡ newest slots
unfolding newest
newest_at slots k d e h =
    ap (λ (n : ℕ). get_or slots (n - 1) d) e
    ∙ sym (last_is (used slots) d (omega (arith, e)) ∙ used_at slots (length (used slots) - 1) d (omega (arith, e)))

-- ---- states

-- the lengths of the arrays in a state
pub record Lengths (st : State) : Type 0 where
  pub csp : length st.csp ≡ 3
  pub id : length st.id.bytes ≡ 32
  pub eight : length st.serials ≡ 8
  pub serials : Long st.serials
  pub key : length st.key ≡ 32
  pub chain : length st.chain ≡ 8

pub typed_lengths : {st : State} → TypedState st → Lengths st
typed_lengths t =
    record {
      csp = t.csp;
      id = t.id.long;
      eight = t.eight;
      serials = λ i h. (t.serials i (omega (arith, t.eight))).long;
      key = t.key_length;
      chain = t.chain;
    }

-- what the types say of a state by value
pub state_long : (st : State) (vs : List Val) → shadow ((row state.the_type).own_val st vs) → Lengths st
state_long st vs p =
    record {
      csp = search rules;
      id = search rules;
      eight = p.1.1.1.1.0.1.0.1;
      serials = array_long st.serials p.1.1.1.1.0.0 p.1.1.1.1.0.1.1;
      key = search rules;
      chain = search rules;
    }
