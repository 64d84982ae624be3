-- A register's state in bytes is one to go on from in the journal that further calls from C leave.
use Rattle.std.proofs.Common.{ℕ, ◌≤◌, ◌<◌, ◌≡◌, refl, sym, ap, ◌∙◌, subst, List, [], ◌∷◌, ◌++◌, map, arith, length, take, length-take}
use Rattle.primitives.specs.Bytes.{AllBytes}
use Rattle.journal.specs.State.{TypedState}
use Rattle.journal.specs.declared.state.TakenOver.{TakenOver}
use Rattle.journal.specs.Checking.{accepted}
use Rattle.journal.specs.Parts.{checks_after, total}
use Rattle.journal.specs.Valid.{Valid}
use Rattle.journal.specs.Calls.{Call, Register, journal_of, calls}
use Rattle.journal.specs.declared.state.State.{State}
use Rattle.journal.proofs.Accepting.{valid_work}
use Rattle.journal.proofs.GrownJournals.{work_bytes, register_goes_on}
use Rattle.journal.proofs.PartSteps.{accepted_number, accepted_state}
use Rattle.journal.proofs.WrittenIsAccepted.{written_is_accepted}
use Rattle.device.specs.Layout.{state_bytes, settings_of, width_of, key_of}
use Rattle.device.specs.Calls.{Slices, opened_slices}
use Rattle.device.specs.Demand as demand
use Rattle.device.specs.Demand.{CallFromC, TypedCallsFromC, call_in, slices_after_all, journal_in, register_in}
use Rattle.device.specs.PartLaws.{checks_from_bytes, RegisterGoesOnInC}
use Rattle.device.proofs.Below.{accepted_is, journal_is}
use Rattle.device.proofs.Spelling.{state_is_read}
use Rattle.device.proofs.CallsFromC.{calls_typed, slices_of, open_accepted, opened_same, same_calls, opened_typed}
use Rattle.device.proofs.PartsInC.{same_start, same_checks}

calls_append : (cs ds : List CallFromC) → TypedCallsFromC cs → TypedCallsFromC ds → TypedCallsFromC (cs ++ ds)
calls_append [] ds demand.none u = u
calls_append (c ∷ cs) ds (demand.more t ts) u = demand.more t (calls_append cs ds ts u)

made_append : (cs ds : List CallFromC) → map call_in (cs ++ ds) ≡ map call_in cs ++ map call_in ds
made_append [] ds = refl
made_append (c ∷ cs) ds = ap (λ (l : List Call). call_in c ∷ l) (made_append cs ds)

valid_bytes : {j key : List ℕ} {n : ℕ} → Valid j key n → AllBytes j
valid_bytes {key = key} {n} v = subst AllBytes (sym v.bytes) (work_bytes key n v.owner v.pairs (valid_work v))

-- the journal of a register, in the bytes of its slices
module _ (r : Register) (t : TypedState r.state) where
  held : journal_in (slices_of r) ≡ journal_of r
  unfolding journal_in slices_of
  held = ap (λ (x : State). take x.length r.buf) (state_is_read r.state t) ∙ sym (journal_is r)

  small : length (journal_of r) < 18446744073709551616
  small = omega (arith, ap length (journal_is r), length-take r.state.length r.buf, t.in_journal)

  state_held : (slices_of r).state ≡ state_bytes r.state
  unfolding slices_of
  state_held = refl

-- checks that lead from one state to another
checked_on : (j : List ℕ) → AllBytes j → length j < 18446744073709551616 → (st x : State) → TypedState st → (counts : List ℕ) → checks_after (accepted st) j counts ≡ accepted x
    → checks_from_bytes (state_bytes st) j counts ≡ record { number = 0; index = 0; state = state_bytes x }
checked_on j b l st x t counts e =
    let s = same_checks j b l counts (record { number = 0; index = 0; state = state_bytes st }) (accepted st) (same_start st t) in
    let n = s.number ∙ ap (λ (y : TakenOver). y.number) e ∙ accepted_number x in
    let i = s.index ∙ ap (λ (y : TakenOver). y.index) (e ∙ accepted_is x) in
    let q = s.bytes ∙ ap (λ (y : TakenOver). state_bytes y.state) e ∙ ap state_bytes (accepted_state x) in
    λ k. record { number = n k; index = i k; state = q k }

pub register_goes_on_in_c : RegisterGoesOnInC
register_goes_on_in_c b shared g a l z cs ds tcs tds counts h =
    let r = register_in b shared g.journal in
    let t = opened_typed b shared g a z in
    let o = open_accepted b shared g z in
    let tas = calls_append cs ds tcs tds in
    let f = opened_same b shared g o.0 in
    let m = same_calls (settings_of b) shared (width_of b) (key_of b) g.journal t.0 t.1 t.2 l o.1 cs tcs in
    let n = same_calls (settings_of b) shared (width_of b) (key_of b) g.journal t.0 t.1 t.2 l o.1 (cs ++ ds) tas in
    let x = calls r (map call_in (cs ++ ds)) in
    let w = written_is_accepted (settings_of b) (key_of b) shared (width_of b) g.journal t.0 t.2 o.1 (map call_in (cs ++ ds)) (calls_typed (cs ++ ds) tas) in
    let before : slices_after_all (opened_slices b shared g) cs ≡ slices_of (calls r (map call_in cs)) = ap (λ (y : Slices). slices_after_all y cs) f ∙ m.slices in
    let later : slices_after_all (opened_slices b shared g) (cs ++ ds) ≡ slices_of x = ap (λ (y : Slices). slices_after_all y (cs ++ ds)) f ∙ n.slices in
    let j : journal_in (slices_after_all (opened_slices b shared g) (cs ++ ds)) ≡ journal_of x = ap journal_in later ∙ held x n.typed in
    let e = made_append cs ds in
    let k : length (journal_of (calls r (map call_in cs ++ map call_in ds))) ≤ total counts =
    subst (λ (ys : List Call). length (journal_of (calls r ys)) ≤ total counts) e (subst (λ (y : List ℕ). length y ≤ total counts) j h) in
    let on = register_goes_on (settings_of b) (key_of b) shared (width_of b) g.journal t.0 t.2 o.1 (map call_in cs) (map call_in ds) (calls_typed cs tcs) (calls_typed ds tds) counts k in
    let on' : checks_after (accepted (calls r (map call_in cs)).state) (journal_of x) counts ≡ accepted x.state =
    subst (λ (ys : List Call). checks_after (accepted (calls r (map call_in cs)).state) (journal_of (calls r ys)) counts ≡ accepted (calls r ys).state) (sym e) on in
    let p = checked_on (journal_of x) (valid_bytes w.valid) (small x n.typed) (calls r (map call_in cs)).state x.state m.typed counts on' in
    let s : (slices_after_all (opened_slices b shared g) cs).state ≡ state_bytes (calls r (map call_in cs)).state = ap (λ (y : Slices). y.state) before ∙ state_held (calls r (map call_in cs)) m.typed in
    let u : (slices_after_all (opened_slices b shared g) (cs ++ ds)).state ≡ state_bytes x.state = ap (λ (y : Slices). y.state) later ∙ state_held x n.typed in
    (λ i. checks_from_bytes (s i) (j i) counts) ∙ p ∙ (λ i. record { number = 0; index = 0; state = sym u i })
