-- The state of a valid journal.
use Rattle.std.proofs.Common.{ℕ, ◌+◌, ◌-◌, ◌<◌, ◌≡◌, refl, sym, ap, ◌∙◌, subst, List, [], ◌∷◌, ◌++◌, arith, length, length-append}
use Rattle.primitives.specs.Number.{bytes_of}
use Rattle.primitives.proofs.Numbers.{length_bytes_of}
use Rattle.receipt.specs.declared.entry.Entry.{Entry}
use Rattle.journal.specs.State.{in_eight}
use Rattle.journal.specs.Checking.{accepted}
use Rattle.journal.specs.Receipts.{receipts_in, sum}
use Rattle.journal.specs.Valid.{Owner, Pair, settings_for, texts, journal_text, all_placed, entries_in, last_of, serials_of, last_pair, open_pair, state_after}
use Rattle.journal.specs.Demands.{before_count, StateOfJournal}
use Rattle.journal.proofs.Placing.{Core, start_core, run_after}
use Rattle.journal.proofs.Passing.{core_of, run_pairs}
use Rattle.journal.proofs.Accepting.{Work, blank, valid_work, valid_taken}
use Rattle.journal.proofs.Pairs.{journal_open, open_of}
use Rattle.journal.proofs.Registers.{entries_all, length_entries, run_zeroed}
use Rattle.journal.proofs.FarPairs.{core_start}

-- every list of pairs but the empty one has a last pair
pub record Last (ps : List Pair) : Type 0 where
  pub before : List Pair
  pub last : Pair
  pub is : ps ≡ before ++ (last ∷ [])

pub last_of_lem : (p : Pair) (ps : List Pair) → Last (p ∷ ps)
last_of_lem p [] = record { before = []; last = p; is = refl }
last_of_lem p (q ∷ qs) = let l = last_of_lem q qs in record { before = p ∷ l.before; last = l.last; is = ap (λ (x : List Pair). p ∷ x) l.is }

open_last : (p : Pair) (ps : List Pair) (q : Pair) → last_pair p (ps ++ (q ∷ [])) ≡ q
unfolding last_pair
open_last p [] q = refl
open_last p (x ∷ ps) q = open_last x ps q

-- the state of a journal that ends with the pair p
state_last : (k : List ℕ) (n : ℕ) (o : Owner) (ps : List Pair) (p : Pair) → Work k n o (ps ++ (p ∷ [])) → run_pairs (blank o k n) (ps ++ (p ∷ [])) ≡ state_after o k n (ps ++ (p ∷ []))
unfolding state_after
state_last k n o ps p w =
    let qs = ps ++ (p ∷ []) in
    let q = open_of k n o ps p w in
    let b = q.at.base in
    let st = run_pairs (blank o k n) qs in
    let c : core_of st ≡ _ = b.core ∙ (run_after n (start_core o) (all_placed o qs) ∙ core_start n o (all_placed o qs)) in
    let es = entries_all o qs in
    let z : st.serials ≡ in_eight (serials_of qs) = run_zeroed k n o ps p w ∙ ap in_eight b.serials in
    let ol : open_pair qs ≡ p = open_last _ ps p in
    let t = texts (settings_for o p.serial) n p.entries in
    let bs = bytes_of 4 (length p.entries) in
    let fr = before_count o n ps p.serial in
    let place : st.place ≡ length (journal_text o n qs) - (4 + length t) =
    sym q.place ∙ omega (arith, ap length (journal_open o n ps p), length-append fr (bs ++ t), length-append bs t, length_bytes_of 4 (length p.entries)) in
    let le : length (all_placed o qs) ≡ length (entries_in qs) = sym (length_entries (all_placed o qs)) ∙ ap length es in
    λ i. record {
      csp = b.csp i;
      id = b.id i;
      serials = z i;
      width = b.width i;
      key = b.key i;
      counter = (ap (λ (x : Core). x.counter) c ∙ ap (λ (l : List Entry). sum (receipts_in l)) es) i;
      last = (ap (λ (x : Core). x.last) c ∙ ap (last_of 0) es) i;
      issued = (ap (λ (x : Core). x.issued) c ∙ le) i;
      chain = ap (λ (x : Core). x.chain) c i;
      length = q.size i;
      since = (q.since ∙ ap (λ (x : Pair). length x.entries) (sym ol)) i;
      place = (place ∙ ap (λ (x : Pair). length (journal_text o n qs) - (4 + length (texts (settings_for o x.serial) n x.entries))) (sym ol)) i;
    }

pub state_is : (k : List ℕ) (n : ℕ) (o : Owner) (ps : List Pair) → Work k n o ps → run_pairs (blank o k n) ps ≡ state_after o k n ps
state_is k n o ps w = go ps w w.some
  where
    go : (ps : List Pair) → Work k n o ps → 0 < length ps → run_pairs (blank o k n) ps ≡ state_after o k n ps
    go [] w h = absurd (omega arith)
    go (p ∷ ps) w h =
        let l = last_of_lem p ps in
        subst (λ (qs : List Pair). run_pairs (blank o k n) qs ≡ state_after o k n qs) (sym l.is) (state_last k n o l.before l.last (subst (Work k n o) l.is w))

pub state_of_journal : StateOfJournal
state_of_journal j key n v = valid_taken v ∙ ap accepted (state_is key n v.owner v.pairs (valid_work v))
