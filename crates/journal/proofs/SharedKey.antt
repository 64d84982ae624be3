-- What the mark of an Open for a shared key asks and promises.
use Rattle.std.proofs.lemmas.Bool.{not-true, not-false}
use Rattle.std.proofs.Common.{ℕ, ◌≡◌, refl, sym, ap, ◌∙◌, subst, Bool, true, false, not, arith, leb, length}
use Rattle.primitives.specs.Place.{overwrite}
use Rattle.primitives.specs.Questions.{ask, ifZero}
use Rattle.primitives.specs.Counter.{width_good}
use Rattle.primitives.proofs.Rows.{true-is-not-false, ask_yes, ask_no}
use Rattle.receipt.specs.Settings.{csp_good, id_good, serial_good, ends_in_digit, id_allowed, settings_number_for}
use Rattle.receipt.specs.declared.settings.Name.{Name}
use Rattle.receipt.specs.declared.settings.Settings.{Settings}
use Rattle.receipt.proofs.Entries.{settings_all}
use Rattle.receipt.proofs.HashInputs.{one_id_one_hash_input}
use Rattle.receipt.proofs.Names.{id_own, id_shared, unshared_asks_one_to_four}
use Rattle.journal.specs.Head.{head, head_length}
use Rattle.journal.specs.State.{unopened}
use Rattle.journal.specs.Step.{fresh}
use Rattle.journal.specs.Opening.{open_number, opened, open_buffer}
use Rattle.journal.specs.Checking.{accepted, take_over}
use Rattle.journal.specs.Calls.{Register, journal_of, calls}
use Rattle.journal.specs.SharedKey.{SharedKeyNeverRepeats, JournalsNeverRepeat, SharedDigit, SharedDigitGets32, SharedIsNotStored, open_number_before, register_before, UnsharedAsBefore, EarlierJournalsStayAccepted}
use Rattle.journal.proofs.OpenCalls.{open_zero}
use Rattle.journal.proofs.Dropping.{number_small}
use Rattle.journal.proofs.Registers.{opening_is}
use Rattle.journal.proofs.WrittenIsAccepted.{written_is_accepted}

-- ---- the IDs that a marked Open takes

no_digit : (s : Settings) (n room : ℕ) → open_number s true n room ≡ 0 → ends_in_digit s.id ≡ false
no_digit s n room z = not-true (ends_in_digit s.id) (sym (id_shared s.id) ∙ (open_zero s true n room z).3)

pub shared_key_never_repeats : SharedKeyNeverRepeats
shared_key_never_repeats s t n m room space ts us z y a b h k e =
    one_id_one_hash_input s.id t.id ts.lengths.id us.lengths.id (settings_all s (open_zero s true n room z).0).id
    (settings_all t (open_zero t true m space y).0).id (no_digit s n room z) (no_digit t m space y) a b h k e

pub journals_never_repeat : JournalsNeverRepeat
journals_never_repeat j k key other n m v w d h before later e p first rest f q i =
    one_id_one_hash_input v.owner.id w.owner.id v.good.typed_id.long w.good.typed_id.long v.good.id w.good.id d h
    e.fields.details.number f.fields.details.number (number_small v before e later p) (number_small w first f rest q) i

-- ---- 32 in the row of questions

-- the row gives 32 only at its own question
at_32 : (csp id allowed serial width room : Bool) → ask csp 1 (ask id 2 (ask allowed 32 (ask serial 3 (ask width 4 (ask room 5 0))))) ≡ 32
    → (csp ≡ true) × (id ≡ true) × (allowed ≡ false)
unfolding ask
at_32 false id allowed serial width room e = absurd (omega (arith, e))
at_32 true false allowed serial width room e = absurd (omega (arith, e))
at_32 true true false serial width room e = (refl, refl, refl)
at_32 true true true false width room e = absurd (omega (arith, e))
at_32 true true true true false room e = absurd (omega (arith, e))
at_32 true true true true true false e = absurd (omega (arith, e))
at_32 true true true true true true e = absurd (omega (arith, e))

-- a row that does not give 32 is the row without its question
not_32 : (csp id allowed : Bool) (rest : ℕ) → (ask csp 1 (ask id 2 (ask allowed 32 rest)) ≡ 32 → ⊥)
    → ask csp 1 (ask id 2 (ask allowed 32 rest)) ≡ ask csp 1 (ask id 2 (ask true 32 rest))
unfolding ask
not_32 false id allowed rest h = refl
not_32 true false allowed rest h = refl
not_32 true true false rest h = absurd (h refl)
not_32 true true true rest h = refl

not_allowed : (shared : Bool) (id : Name) → id_allowed shared id ≡ false → (shared ≡ true) × (ends_in_digit id ≡ true)
not_allowed true id e = (refl, not-false (ends_in_digit id) (sym (id_shared id) ∙ e))
not_allowed false id e = true-is-not-false (sym e ∙ id_own id)

digit_refused : (shared : Bool) (id : Name) → shared ≡ true → ends_in_digit id ≡ true → id_allowed shared id ≡ false
digit_refused shared id m d = ap (λ (b : Bool). id_allowed b id) m ∙ id_shared id ∙ ap not d

pub shared_digit_gets_32 : SharedDigitGets32
unfolding open_number settings_number_for
shared_digit_gets_32 s shared n room = (only, always)
  where
    only : open_number s shared n room ≡ 32 → SharedDigit s shared
    only e =
        let p = at_32 (csp_good s.csp) (id_good s.id) (id_allowed shared s.id) (serial_good s.serial) (width_good n) (leb (head_length s) room) e in
        let k = not_allowed shared s.id p.2 in
        record { csp = p.0; id = p.1; sharing = k.0; ends = k.1 }

    always : SharedDigit s shared → open_number s shared n room ≡ 32
    always m = ask_yes 1 _ m.csp ∙ ask_yes 2 _ m.id ∙ ask_no 32 _ (digit_refused shared s.id m.sharing m.ends)

-- ---- the rest is the unmarked Open

same_number : (s : Settings) (shared : Bool) (n room : ℕ) → (open_number s shared n room ≡ 32 → ⊥) → open_number s shared n room ≡ open_number s false n room
unfolding open_number settings_number_for
same_number s shared n room h =
    let rest = ask (serial_good s.serial) 3 (ask (width_good n) 4 (ask (leb (head_length s) room) 5 0)) in
    not_32 (csp_good s.csp) (id_good s.id) (id_allowed shared s.id) rest h
    ∙ ap (λ (b : Bool). ask (csp_good s.csp) 1 (ask (id_good s.id) 2 (ask b 32 rest))) (sym (id_own s.id))

pub shared_is_not_stored : SharedIsNotStored
unfolding opened open_buffer
shared_is_not_stored s key shared n buf h =
    let e = same_number s shared n (length buf) h in
    ((λ i. record { number = e i; state = ifZero (e i) (fresh s n key) unopened }), ap (λ (k : ℕ). ifZero k (overwrite buf 0 (head s 0)) buf) e)

-- ---- Open from before

before_is : (s : Settings) (n room : ℕ) → open_number s false n room ≡ open_number_before s n room
unfolding open_number open_number_before
before_is s n room = unshared_asks_one_to_four s n (ask (leb (head_length s) room) 5 0)

pub unshared_as_before : UnsharedAsBefore
unfolding opened open_buffer
unshared_as_before =
    record {
      answer = λ s key n room. λ i. record { number = before_is s n room i; state = ifZero (before_is s n room i) (fresh s n key) unopened };
      buffer = λ s n buf. ap (λ (k : ℕ). ifZero k (overwrite buf 0 (head s 0)) buf) (before_is s n (length buf));
    }

pub earlier_journals_stay_accepted : EarlierJournalsStayAccepted
unfolding register_before
earlier_journals_stay_accepted s key n buf ts kb z cs tcs =
    let y : open_number s false n (length buf) ≡ 0 = before_is s n (length buf) ∙ z in
    let o = open_zero s false n (length buf) y in
    subst (λ (g : Register). take_over (journal_of (calls g cs)) key n ≡ accepted (calls g cs).state) (opening_is s n key ts o.0 o.1 buf false y)
    (written_is_accepted s key false n buf ts kb y cs tcs).taken
