-- Demand 3, forth: after any list of calls the journal is accepted with the register's state.
use Rattle.std.proofs.Common.{ℕ, ◌≡◌, sym, ap, ◌∙◌, List, [], length}
use Rattle.journal.specs.Checking.{accepted, take_over}
use Rattle.journal.specs.Receipts.{receipts_in, sum}
use Rattle.journal.specs.Valid.{Owner, Pair, entries_in, journal_text, Valid}
use Rattle.journal.specs.Calls.{Register, journal_of, opening, calls, periods_in}
use Rattle.journal.specs.Demands.{AcceptedIsValid, WrittenIsAccepted}
use Rattle.journal.specs.declared.state.State.{State}
use Rattle.journal.proofs.Accepting.{takes, work_valid, owner_in, valid_accepted, accepted_valid}
use Rattle.journal.proofs.OneReading.{one_reading}
use Rattle.journal.proofs.OpenCalls.{open_zero}
use Rattle.journal.proofs.Pairs.{empty_pair}
use Rattle.journal.proofs.Registers.{Holds, pairs_from, holds_calls, receipts_same, sections_same, counter_sum, opening_holds}

pub accepted_is_valid : AcceptedIsValid
accepted_is_valid j key n b = (accepted_valid j key n b, valid_accepted j key n)

pub journal_held : (k : List ℕ) (n : ℕ) (o : Owner) (g : Register) (ps : List Pair) → Holds k n o g ps → journal_of g ≡ journal_text o n ps
unfolding journal_of
journal_held k n o g ps h = h.bytes

pub held_taken : (k : List ℕ) (n : ℕ) (o : Owner) (g : Register) (ps : List Pair) → Holds k n o g ps → take_over (journal_of g) k n ≡ accepted g.state
held_taken k n o g ps h = ap (λ (j : List ℕ). take_over j k n) (journal_held k n o g ps h) ∙ (takes o k n ps h.work ∙ ap accepted (sym h.state))

pub written_is_accepted : WrittenIsAccepted
unfolding work_valid
written_is_accepted s key shared n buf ts kb z cs tcs =
    let a = open_zero s shared n (length buf) z in
    let o = owner_in s in
    let g = opening s key shared n buf in
    let ps = pairs_from g (empty_pair s.serial) cs in
    let h = holds_calls key n o kb cs g [] (empty_pair s.serial) tcs (opening_holds s n key ts a.0 a.1 buf shared z) in
    let j = journal_of (calls g cs) in
    let v : Valid j key n = work_valid key n o ps j h.work (journal_held key n o (calls g cs) ps h) in
    record {
      taken = held_taken key n o (calls g cs) ps h;
      valid = v;
      receipts = λ w. ap (λ (l : List Pair). receipts_in (entries_in l)) (one_reading j key n w v).1 ∙ receipts_same cs g s.serial;
      periods = λ w. ap periods_in (one_reading j key n w v).1 ∙ sections_same cs g s.serial;
      counter = ap (λ (x : State). x.counter) h.state ∙ (counter_sum key n o ps h.work ∙ ap sum (receipts_same cs g s.serial));
    }
