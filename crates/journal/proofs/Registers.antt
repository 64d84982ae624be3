-- A register after calls: its state, its journal and its buffer.
use Rattle.std.proofs.Common.{ℕ, zero, suc, ◌+◌, ◌≤◌, ◌<◌, ◌≡◌, refl, sym, ap, ◌∙◌, subst, Bool, true, List, [], ◌∷◌, ◌++◌, append_assoc, append-nil, arith, length, take, length-append, take-add}
use lib.IntN.{+ℤ_idl}
use Rattle.primitives.specs.Place.{overwrite}
use Rattle.primitives.specs.Bytes.{AllBytes}
use Rattle.primitives.specs.Number.{bytes_of}
use Rattle.primitives.specs.Counter.{width_good}
use Rattle.primitives.specs.Questions.{ifZero}
use Rattle.primitives.proofs.Numbers.{length_bytes_of}
use Rattle.primitives.proofs.Over.{length_over, before_over, read_over}
use Rattle.primitives.proofs.Rewrites.{take_after, over_middle}
use Rattle.primitives.proofs.Rows.{ifZero-yes, ifZero-no}
use Rattle.receipt.specs.Amount.{amount_limit}
use Rattle.receipt.specs.Settings.{name_text, settings_good, TypedSettings}
use Rattle.receipt.specs.Compact.{compact}
use Rattle.receipt.specs.declared.settings.Name.{Name}
use Rattle.receipt.specs.declared.settings.Settings.{Settings}
use Rattle.receipt.specs.declared.details.Details.{Details}
use Rattle.receipt.specs.declared.entry.Entry.{Entry}
use Rattle.journal.specs.Head.{head, entry_text, pair_start}
use Rattle.journal.specs.State.{unopened, added, is_in, TypedName}
use Rattle.journal.specs.Step.{fresh, fields_of, next, renewed}
use Rattle.journal.specs.Opening.{open_number, opened, open_buffer}
use Rattle.journal.specs.Issuing.{entry_of, text_of, issue_number_within, issued_within, with_entry, issue_buffer_within}
use Rattle.journal.specs.Changing.{change_number, changed, change_buffer}
use Rattle.journal.specs.Receipts.{Receipt, receipt_of, receipts_in, sum}
use Rattle.journal.specs.Valid.{Owner, Pair, settings_for, texts, pair_texts, owner_text, journal_text, Placed, placed_under, all_placed, entries_of, entries_in, serials_of}
use Rattle.journal.specs.Calls.{Order, TypedOrder, failed_order, Call, issue, issue_list, change, TypedList, nothing, also, issues, lists, changes, TypedCalls, none, more, Register, opening, number_of, call, call_within, calls, calls_within, receipt_of_call, receipts_of_list, receipts_of, Period, periods_from, periods_in}
use Rattle.journal.specs.Demands.{before_count}
use Rattle.journal.specs.Lists.{single_call}
use Rattle.journal.specs.declared.state.State.{State}
use Rattle.journal.proofs.OpenCalls.{open_zero}
use Rattle.journal.proofs.Sections.{length_start}
use Rattle.journal.proofs.Lists.{single_number, single_number_lem, list_none, list_yes, list_no, receipts_nothing, receipts_yes, receipts_no}
use Rattle.journal.proofs.Heads.{length_head}
use Rattle.journal.proofs.Check.{RightAt, text_in, step, step_length}
use Rattle.journal.proofs.Answers.{Eight, chain-eight, Answered, issue-zero, right-call, change-zero}
use Rattle.journal.proofs.Serials.{Zeroed, added_zeroed}
use Rattle.journal.proofs.Placing.{Core, start_core, step_core, run_core, core_after, run_after, AllRight, right_append, names_split}
use Rattle.journal.proofs.Placing as placing
use Rattle.journal.proofs.Passing.{right_there, text_is, under, run, run_pairs, kept, renewed_length}
use Rattle.journal.proofs.Accepting.{Work, blank, blank_base, fresh_is, head_pair, owner_in, good_owner}
use Rattle.journal.proofs.Pairs.{texts_snoc, wider, empty_pair, run_last, last_begun, run_wider, run_empty, all_wider, all_empty_lem, names_wider, names_empty, ran, journal_open, journal_empty, Open, open_of}

-- ---- the buffer after an Issue: the entry after the journal, and the count of the open section, which stands after p, rewritten

module _ (p t e buf : List ℕ) (k place len : ℕ) (at : length p ≡ place) (size : len ≡ length (p ++ (bytes_of 4 k ++ t))) (room : len + length e ≤ length buf)
    (was : take len buf ≡ p ++ (bytes_of 4 k ++ t)) where
  long : length (overwrite buf len e) ≡ length buf
  long = length_over buf len e room

  len_is : len ≡ place + 4 + length t
  len_is = omega (arith, size, length-append p (bytes_of 4 k ++ t), length-append (bytes_of 4 k) t, length_bytes_of 4 k, at)

  -- what stands before the end of the entry
  appended : take (len + length e) (overwrite buf len e) ≡ p ++ (bytes_of 4 k ++ (t ++ e))
  appended =
      take-add len (length e) (overwrite buf len e)
      ∙ (λ i. before_over buf len e (omega arith) i ++ read_over buf len e room i)
      ∙ ap (λ (l : List ℕ). l ++ e) was
      ∙ simp append_assoc

  pub written_bytes : take (len + length e) (overwrite (overwrite buf len e) place (bytes_of 4 (k + 1))) ≡ p ++ (bytes_of 4 (k + 1) ++ (t ++ e))
  written_bytes =
      let l = length_bytes_of 4 (k + 1) in
      let m : length (bytes_of 4 k) ≡ length (bytes_of 4 (k + 1)) = length_bytes_of 4 k ∙ sym l in
      let n = len_is in
      take_after (overwrite buf len e) place (bytes_of 4 (k + 1)) (len + length e) (omega arith) (omega (arith, long))
      ∙ (λ i. overwrite (appended i) (sym at i) (bytes_of 4 (k + 1)))
      ∙ over_middle p (bytes_of 4 k) (t ++ e) (bytes_of 4 (k + 1)) m

  pub written_length : length (overwrite (overwrite buf len e) place (bytes_of 4 (k + 1))) ≡ length buf
  written_length = length_over (overwrite buf len e) place (bytes_of 4 (k + 1)) (omega (arith, length_bytes_of 4 (k + 1), long, len_is)) ∙ long

-- ---- one call

-- a refused call changes nothing, under any limit of an amount
pub refused_within : (limit : ℕ) (g : Register) (c : Order) → (issue_number_within limit g.state c.details c.signature (length g.buf) ≡ 0 → ⊥)
    → call_within limit g (issue c) ≡ g
unfolding call_within issued_within issue_buffer_within
refused_within limit g c h =
    let text = text_of g.state c.details c.signature in
    let m = issue_number_within limit g.state c.details c.signature (length g.buf) in
    let e₁ : ifZero m (next g.state c.details text) g.state ≡ g.state = ifZero-no m (next g.state c.details text) g.state h in
    let e₂ : ifZero m (with_entry g.state text g.buf) g.buf ≡ g.buf = ifZero-no m (with_entry g.state text g.buf) g.buf h in
    λ i. record { state = e₁ i; buf = e₂ i }

refused_change : (g : Register) (s : Name) → (change_number g.state s (length g.buf) ≡ 0 → ⊥) → call g (change s) ≡ g
unfolding call_within changed change_buffer
refused_change g s h =
    let m = change_number g.state s (length g.buf) in
    let e₁ : ifZero m (renewed g.state s) g.state ≡ g.state = ifZero-no m (renewed g.state s) g.state h in
    let e₂ : ifZero m (overwrite g.buf g.state.length (pair_start s 0)) g.buf ≡ g.buf = ifZero-no m (overwrite g.buf g.state.length (pair_start s 0)) g.buf h in
    λ i. record { state = e₁ i; buf = e₂ i }

-- A refused Issue or Change leaves the register as it was. A list with a number need not: a part of it may be issued.
pub issue_kept : (g : Register) (c : Order) → (number_of g (issue c) ≡ 0 → ⊥) → call g (issue c) ≡ g
unfolding number_of
issue_kept g c h = refused_within amount_limit g c h

pub change_kept : (g : Register) (s : Name) → (number_of g (change s) ≡ 0 → ⊥) → call g (change s) ≡ g
unfolding number_of
change_kept g s h = refused_change g s h

-- the entry of an Issue
unfoldable pub entry_in : Register → Order → Entry
entry_in g c = entry_of g.state c.details c.signature

module _ (g : Register) (c : Order) (z : number_of g (issue c) ≡ 0) where
  pub call_answered : Answered g.state c.details c.signature (length g.buf)
  unfolding number_of
  call_answered = issue-zero g.state c.details c.signature (length g.buf) z

  pub call_state : (call g (issue c)).state ≡ step g.state (entry_in g c)
  unfolding call_within number_of issued_within entry_in text_of entry_of fields_of
  call_state = ifZero-yes _ _ z

  pub call_buf : (call g (issue c)).buf ≡ with_entry g.state (text_in g.state (entry_in g c)) g.buf
  unfolding call_within number_of issue_buffer_within entry_in text_of
  call_buf = ifZero-yes _ _ z

module _ (g : Register) (s : Name) (z : change_number g.state s (length g.buf) ≡ 0) where
  pub change_state : (call g (change s)).state ≡ renewed g.state s
  unfolding call_within changed
  change_state = ifZero-yes _ _ z

  pub change_buf : (call g (change s)).buf ≡ overwrite g.buf g.state.length (pair_start s 0)
  unfolding call_within change_buffer
  change_buf = ifZero-yes _ _ z

-- ---- the register after calls

-- since it was opened, the register has taken up these pairs
pub record Holds (k : List ℕ) (n : ℕ) (o : Owner) (g : Register) (ps : List Pair) : Type 0 where
  pub state : g.state ≡ run_pairs (blank o k n) ps
  pub work : Work k n o ps
  pub bytes : take g.state.length g.buf ≡ journal_text o n ps
  pub room : g.state.length ≤ length g.buf

pub holds_open : {k : List ℕ} {n : ℕ} {o : Owner} {g : Register} (ps : List Pair) (p : Pair) → Holds k n o g (ps ++ (p ∷ [])) → Open k n o ps p g.state
holds_open {k} {n} {o} ps p h = subst (Open k n o ps p) (sym h.state) (open_of k n o ps p h.work)

run_eight : (n : ℕ) (c : Core) (xs : List Placed) → Eight c.chain → Eight (run_core n c xs).chain
unfolding run_core step_core
run_eight n c [] h = h
run_eight n c (x ∷ xs) h = run_eight n (step_core n c x) xs (chain-eight (compact x.settings n x.entry))

start_eight : (o : Owner) → Eight (start_core o).chain
unfolding start_core
start_eight o = chain-eight (name_text o.id)

pub open_eight : {k : List ℕ} {n : ℕ} {o : Owner} {ps : List Pair} {p : Pair} {st : State} → Open k n o ps p st → Eight st.chain
open_eight {k} {n} {o} {ps} {p} q =
    subst (λ (c : Core). Eight c.chain) (sym q.at.base.core) (run_eight n (start_core o) (all_placed o (ps ++ (p ∷ []))) (start_eight o))

pub some_snoc : (ps : List Pair) (p : Pair) → 0 < length (ps ++ (p ∷ []))
some_snoc ps p = omega (arith, length-append ps (p ∷ []))

-- an Issue whose entry is right
module _ (k : List ℕ) (n : ℕ) (o : Owner) (g : Register) (ps : List Pair) (p : Pair) (h : Holds k n o g (ps ++ (p ∷ []))) where
  module _ (c : Order) (z : number_of g (issue c) ≡ 0) where
    st : State
    st = g.state

    e : Entry
    e = entry_in g c

    text : List ℕ
    text = entry_text (compact (settings_for o p.serial) n e)

    opened_pair : Open k n o ps p g.state
    opened_pair = holds_open ps p h

    text_as : entry_text (text_in g.state (entry_in g c)) ≡ text
    unfolding text e
    text_as = ap entry_text (text_is opened_pair.at (entry_in g c))

    room_is : g.state.length + length text ≤ length g.buf
    unfolding text e entry_in text_of
    room_is = subst (λ (l : List ℕ). g.state.length + length l ≤ length g.buf) text_as (call_answered g c z).fits

    buf_is : (call g (issue c)).buf ≡ overwrite (overwrite g.buf g.state.length text) g.state.place (bytes_of 4 (length p.entries + 1))
    unfolding with_entry
    buf_is = call_buf g c z ∙ (λ i. overwrite (overwrite g.buf g.state.length (text_as i)) g.state.place (bytes_of 4 (opened_pair.since i + 1)))

    length_is : (call g (issue c)).state.length ≡ g.state.length + length text
    length_is = ap (λ (x : State). x.length) (call_state g c z) ∙ (step_length g.state (entry_in g c) ∙ ap (λ (l : List ℕ). g.state.length + length l) text_as)

    was : take g.state.length g.buf ≡ before_count o n ps p.serial ++ (bytes_of 4 (length p.entries) ++ texts (settings_for o p.serial) n p.entries)
    was = h.bytes ∙ journal_open o n ps p

    size_is : g.state.length ≡ length (before_count o n ps p.serial ++ (bytes_of 4 (length p.entries) ++ texts (settings_for o p.serial) n p.entries))
    size_is = opened_pair.size ∙ ap length (journal_open o n ps p)

    pub issue_length : length (call g (issue c)).buf ≡ length g.buf
    issue_length =
        ap length buf_is
        ∙ written_length (before_count o n ps p.serial) (texts (settings_for o p.serial) n p.entries) text g.buf (length p.entries) g.state.place g.state.length
        opened_pair.place size_is room_is was

    bytes_is : take (call g (issue c)).state.length (call g (issue c)).buf ≡ journal_text o n (ps ++ (wider p (entry_in g c) ∷ []))
    unfolding text e
    bytes_is =
        let b = before_count o n ps p.serial in
        let t = texts (settings_for o p.serial) n p.entries in
        let lk : length (p.entries ++ (entry_in g c ∷ [])) ≡ length p.entries + 1 = length-append p.entries (entry_in g c ∷ []) in
        (λ i. take (length_is i) (buf_is i))
        ∙ (written_bytes b t text g.buf (length p.entries) g.state.place g.state.length opened_pair.place size_is room_is was
        ∙ ((λ i. b ++ (bytes_of 4 (sym lk i) ++ sym (texts_snoc (settings_for o p.serial) n p.entries (entry_in g c)) i)) ∙ sym (journal_open o n ps (wider p (entry_in g c)))))

    few_is : length p.entries + 1 < 4294967296 → Work k n o (ps ++ (p ∷ [])) → RightAt g.state (entry_in g c) → Work k n o (ps ++ (wider p (entry_in g c) ∷ []))
    few_is few w ok =
        record {
          width = w.width;
          good = w.good;
          some = some_snoc ps (wider p (entry_in g c));
          right = subst (AllRight k n (start_core o)) (sym (all_wider o ps p (entry_in g c)))
              (right_append k n (start_core o) (all_placed o (ps ++ (p ∷ []))) (under o p.serial (entry_in g c) ∷ []) w.right
              (placing.more (right_there opened_pair.at (entry_in g c) ok) placing.none));
          names = names_wider [] ps p (entry_in g c) few w.names;
        }

    pub issue_holds : RightAt g.state (entry_in g c) → Holds k n o (call g (issue c)) (ps ++ (wider p (entry_in g c) ∷ []))
    issue_holds ok =
        let a = call_answered g c z in
        let few : length p.entries + 1 < 4294967296 = omega (arith, a.sound.issued, a.sound.since, opened_pair.since, ok.above, ok.typed.fields.number) in
        record {
          state = call_state g c z ∙ (ap (λ (x : State). step x (entry_in g c)) h.state ∙ sym (run_wider (blank o k n) ps p (entry_in g c)));
          work = few_is few h.work ok;
          bytes = bytes_is;
          room = subst (λ (m : ℕ). m ≤ length (call g (issue c)).buf) (sym length_is) (subst (λ (m : ℕ). g.state.length + length text ≤ m) (sym issue_length) room_is);
        }

    pub issue_right : AllBytes k → TypedOrder c → RightAt g.state (entry_in g c)
    unfolding entry_in
    issue_right kb tc =
        right-call g.state c (length g.buf) (subst AllBytes (sym opened_pair.at.base.key) kb) (open_eight opened_pair) tc (call_answered g c z)

  -- a Change
  module _ (s : Name) (z : change_number g.state s (length g.buf) ≡ 0) (ts : TypedName s) where
    pub change_holds : Holds k n o (call g (change s)) ((ps ++ (p ∷ [])) ++ (empty_pair s ∷ [])) × (length (call g (change s)).buf ≡ length g.buf)
    change_holds =
        let a = change-zero g.state s (length g.buf) z in
        let q = holds_open ps p h in
        let qs = ps ++ (p ∷ []) in
        let ls = length_start s ts.long a.good 0 in
        let room : g.state.length + length (pair_start s 0) ≤ length g.buf = omega (arith, ls, a.fits) in
        let cs = change_state g s z in
        let cb = change_buf g s z in
        let cl : (call g (change s)).state.length ≡ g.state.length + length (pair_start s 0) = ap (λ (x : State). x.length) cs ∙ (renewed_length g.state s ∙ omega (arith, ls)) in
        let wl = length_over g.buf g.state.length (pair_start s 0) room in
        let new = ap (is_in s) (sym q.at.base.serials) ∙ a.new in
        let few : length (serials_of qs) < 8 = subst (λ (l : List Name). length l < 8) q.at.base.serials a.few in (
          record {
            state = cs ∙ (ap (λ (x : State). renewed x s) h.state ∙ sym (run_empty (blank o k n) qs s));
            work =
                record {
                  width = h.work.width;
                  good = h.work.good;
                  some = some_snoc qs (empty_pair s);
                  right = subst (AllRight k n (start_core o)) (sym (all_empty_lem o qs s)) h.work.right;
                  names = names_empty [] qs s ts a.good new few h.work.names;
                };
            bytes =
                (λ i. take (cl i) (cb i))
                ∙ (take-add g.state.length (length (pair_start s 0)) (overwrite g.buf g.state.length (pair_start s 0))
                ∙ ((λ i. before_over g.buf g.state.length (pair_start s 0) (omega arith) i ++ read_over g.buf g.state.length (pair_start s 0) room i)
                ∙ (ap (λ (l : List ℕ). l ++ pair_start s 0) h.bytes ∙ sym (journal_empty o n qs s))));
            room = rw (cl, cb, wl) room;
          },
          ap length cb ∙ wl,
        )

-- ---- a list of receipts

-- the open pair after a list: it takes an entry for each receipt, up to the first that is refused
unfoldable pub widened : Register → Pair → List Details → Pair
widened g p [] = p
widened g p (d ∷ ds) = ifZero (single_number amount_limit g d) (widened (call g (single_call d)) (wider p (entry_in g (failed_order d))) ds) p

pub holds_list : (k : List ℕ) (n : ℕ) (o : Owner) → AllBytes k → (ds : List Details) (g : Register) (ps : List Pair) (p : Pair) → TypedList ds → Holds k n o g (ps ++ (p ∷ []))
    → Holds k n o (call g (issue_list ds)) (ps ++ (widened g p ds ∷ [])) × (length (call g (issue_list ds)).buf ≡ length g.buf)
unfolding widened ifZero
holds_list k n o kb [] g ps p nothing h =
    let e = sym (list_none amount_limit g) in
    (subst (λ (x : Register). Holds k n o x (ps ++ (p ∷ []))) e h, ap (λ (x : Register). length x.buf) (sym e))
holds_list k n o kb (d ∷ ds) g ps p (also t ts) h = go (single_number amount_limit g d) refl (holds_list k n o kb ds (call g (single_call d)) ps (wider p (entry_in g (failed_order d))) ts)
  where
    go : (m : ℕ) → single_number amount_limit g d ≡ m
        → (Holds k n o (call g (single_call d)) (ps ++ (wider p (entry_in g (failed_order d)) ∷ []))
        → Holds k n o (call (call g (single_call d)) (issue_list ds)) (ps ++ (widened (call g (single_call d)) (wider p (entry_in g (failed_order d))) ds ∷ []))
        × (length (call (call g (single_call d)) (issue_list ds)).buf ≡ length (call g (single_call d)).buf))
        → Holds k n o (call g (issue_list (d ∷ ds))) (ps ++ (ifZero (single_number amount_limit g d) (widened (call g (single_call d)) (wider p (entry_in g (failed_order d))) ds) p ∷ []))
        × (length (call g (issue_list (d ∷ ds))).buf ≡ length g.buf)
    go zero e f =
        let z = single_number_lem g d ∙ e in
        let q = f (issue_holds k n o g ps p h (failed_order d) z (issue_right k n o g ps p h (failed_order d) z kb t)) in
        let y = sym (list_yes amount_limit g d ds e) in (
          rw e (subst (λ (x : Register). Holds k n o x (ps ++ (widened (call g (single_call d)) (wider p (entry_in g (failed_order d))) ds ∷ []))) y q.0),
          ap (λ (x : Register). length x.buf) (sym y) ∙ (q.1 ∙ issue_length k n o g ps p h (failed_order d) z),
        )
    go (suc m) e f =
        let y = sym (list_no amount_limit g d ds (λ q. omega (arith, e, q))) in
        (rw e (subst (λ (x : Register). Holds k n o x (ps ++ (p ∷ []))) y h), ap (λ (x : Register). length x.buf) (sym y))

-- ---- a list of calls

-- the pairs that the calls make which are not refused: the open one takes entries, or it is closed by a new serial
unfoldable pub pairs_from : Register → Pair → List Call → List Pair
pairs_from g p [] = p ∷ []
pairs_from g p (issue c ∷ cs) = ifZero (number_of g (issue c)) (pairs_from (call g (issue c)) (wider p (entry_in g c)) cs) (pairs_from (call g (issue c)) p cs)
pairs_from g p (issue_list ds ∷ cs) = pairs_from (call g (issue_list ds)) (widened g p ds) cs
pairs_from g p (change s ∷ cs) = ifZero (number_of g (change s)) (p ∷ pairs_from (call g (change s)) (empty_pair s) cs) (pairs_from (call g (change s)) p cs)

change_is : (g : Register) (s : Name) → number_of g (change s) ≡ 0 → change_number g.state s (length g.buf) ≡ 0
unfolding number_of
change_is g s z = z

pub holds_calls : (k : List ℕ) (n : ℕ) (o : Owner) → AllBytes k → (cs : List Call) (g : Register) (ps : List Pair) (p : Pair) → TypedCalls cs → Holds k n o g (ps ++ (p ∷ []))
    → Holds k n o (calls g cs) (ps ++ pairs_from g p cs)
unfolding calls_within pairs_from ifZero
holds_calls k n o kb [] g ps p none h = h
holds_calls k n o kb (issue c ∷ cs) g ps p (more (issues tc) tcs) h =
    go (number_of g (issue c)) refl (holds_calls k n o kb cs (call g (issue c)) ps p tcs) (holds_calls k n o kb cs (call g (issue c)) ps (wider p (entry_in g c)) tcs)
  where
    go : (m : ℕ) → number_of g (issue c) ≡ m → (Holds k n o (call g (issue c)) (ps ++ (p ∷ [])) → Holds k n o (calls (call g (issue c)) cs) (ps ++ pairs_from (call g (issue c)) p cs))
        → (Holds k n o (call g (issue c)) (ps ++ (wider p (entry_in g c) ∷ [])) → Holds k n o (calls (call g (issue c)) cs) (ps ++ pairs_from (call g (issue c)) (wider p (entry_in g c)) cs))
        → Holds k n o (calls (call g (issue c)) cs)
        (ps ++ ifZero (number_of g (issue c)) (pairs_from (call g (issue c)) (wider p (entry_in g c)) cs) (pairs_from (call g (issue c)) p cs))
    go zero e f₁ f₂ = rw e (f₂ (issue_holds k n o g ps p h c e (issue_right k n o g ps p h c e kb tc)))
    go (suc m) e f₁ f₂ = rw e (f₁ (subst (λ (x : Register). Holds k n o x (ps ++ (p ∷ []))) (sym (issue_kept g c (λ q. omega (arith, e, q)))) h))
holds_calls k n o kb (issue_list ds ∷ cs) g ps p (more (lists ts) tcs) h =
    holds_calls k n o kb cs (call g (issue_list ds)) ps (widened g p ds) tcs (holds_list k n o kb ds g ps p ts h).0
holds_calls k n o kb (change s ∷ cs) g ps p (more (changes ts) tcs) h =
    go (number_of g (change s)) refl (holds_calls k n o kb cs (call g (change s)) ps p tcs) (holds_calls k n o kb cs (call g (change s)) (ps ++ (p ∷ [])) (empty_pair s) tcs)
  where
    go : (m : ℕ) → number_of g (change s) ≡ m → (Holds k n o (call g (change s)) (ps ++ (p ∷ [])) → Holds k n o (calls (call g (change s)) cs) (ps ++ pairs_from (call g (change s)) p cs))
        → (Holds k n o (call g (change s)) ((ps ++ (p ∷ [])) ++ (empty_pair s ∷ [])) → Holds k n o (calls (call g (change s)) cs) ((ps ++ (p ∷ [])) ++ pairs_from (call g (change s)) (empty_pair s) cs))
        → Holds k n o (calls (call g (change s)) cs)
        (ps ++ ifZero (number_of g (change s)) (p ∷ pairs_from (call g (change s)) (empty_pair s) cs) (pairs_from (call g (change s)) p cs))
    go zero e f₁ f₂ =
        rw e (subst (Holds k n o (calls (call g (change s)) cs)) (append_assoc ps (p ∷ []) (pairs_from (call g (change s)) (empty_pair s) cs)) (f₂ (change_holds k n o g ps p h s (change_is g s e) ts).0))
    go (suc m) e f₁ f₂ = rw e (f₁ (subst (λ (x : Register). Holds k n o x (ps ++ (p ∷ []))) (sym (change_kept g s (λ q. omega (arith, e, q)))) h))

-- ---- their receipts

receipt_same : (g : Register) (c : Order) → receipt_of (entry_in g c) ≡ receipt_of_call c
unfolding receipt_of receipt_of_call entry_in entry_of fields_of
receipt_same g c = refl

pub receipts_append : (es fs : List Entry) → receipts_in (es ++ fs) ≡ receipts_in es ++ receipts_in fs
unfolding receipts_in
receipts_append [] fs = refl
receipts_append (e ∷ es) fs = ap (λ (l : List Receipt). receipt_of e ∷ l) (receipts_append es fs)

section_of : Pair → Period
section_of p = record { serial = p.serial; receipts = receipts_in p.entries }

section_wider : (g : Register) (c : Order) (p : Pair)
    → section_of (wider p (entry_in g c)) ≡ record { serial = p.serial; receipts = receipts_in p.entries ++ (receipt_of_call c ∷ []) }
unfolding section_of receipts_in
section_wider g c p =
    λ i. record { serial = p.serial; receipts = (receipts_append p.entries (entry_in g c ∷ []) ∙ ap (λ (r : Receipt). receipts_in p.entries ++ (r ∷ [])) (receipt_same g c)) i }

-- the entries of a list are its receipts
entries_widened : (ds : List Details) (g : Register) (p : Pair) → receipts_in (widened g p ds).entries ≡ receipts_in p.entries ++ receipts_of_list g ds
unfolding widened ifZero receipts_in
entries_widened [] g p = sym (ap (λ (l : List Receipt). receipts_in p.entries ++ l) (receipts_nothing g) ∙ append-nil (receipts_in p.entries))
entries_widened (d ∷ ds) g p = go (single_number amount_limit g d) refl (entries_widened ds (call g (single_call d)) (wider p (entry_in g (failed_order d))))
  where
    one : receipts_in (p.entries ++ (entry_in g (failed_order d) ∷ [])) ≡ receipts_in p.entries ++ (receipt_of_call (failed_order d) ∷ [])
    one =
        receipts_append p.entries (entry_in g (failed_order d) ∷ [])
        ∙ ap (λ (r : Receipt). receipts_in p.entries ++ (r ∷ [])) (receipt_same g (failed_order d))

    go : (m : ℕ) → single_number amount_limit g d ≡ m
        → receipts_in (widened (call g (single_call d)) (wider p (entry_in g (failed_order d))) ds).entries
        ≡ receipts_in (p.entries ++ (entry_in g (failed_order d) ∷ [])) ++ receipts_of_list (call g (single_call d)) ds
        → receipts_in (ifZero (single_number amount_limit g d) (widened (call g (single_call d)) (wider p (entry_in g (failed_order d))) ds) p).entries
        ≡ receipts_in p.entries ++ receipts_of_list g (d ∷ ds)
    go zero e f =
        ap (λ (k : ℕ). receipts_in (ifZero k (widened (call g (single_call d)) (wider p (entry_in g (failed_order d))) ds) p).entries) e
        ∙ f
        ∙ ap (λ (l : List Receipt). l ++ receipts_of_list (call g (single_call d)) ds) one
        ∙ append_assoc (receipts_in p.entries) (receipt_of_call (failed_order d) ∷ []) (receipts_of_list (call g (single_call d)) ds)
        ∙ ap (λ (l : List Receipt). receipts_in p.entries ++ l) (sym (receipts_yes g d ds e))
    go (suc m) e f =
        ap (λ (k : ℕ). receipts_in (ifZero k (widened (call g (single_call d)) (wider p (entry_in g (failed_order d))) ds) p).entries) e
        ∙ sym (ap (λ (l : List Receipt). receipts_in p.entries ++ l) (receipts_no g d ds (λ q. omega (arith, e, q))) ∙ append-nil (receipts_in p.entries))

serial_widened : (ds : List Details) (g : Register) (p : Pair) → (widened g p ds).serial ≡ p.serial
unfolding widened ifZero
serial_widened [] g p = refl
serial_widened (d ∷ ds) g p = go (single_number amount_limit g d) (serial_widened ds (call g (single_call d)) (wider p (entry_in g (failed_order d))))
  where
    go : (m : ℕ) → (widened (call g (single_call d)) (wider p (entry_in g (failed_order d))) ds).serial ≡ p.serial
        → (ifZero m (widened (call g (single_call d)) (wider p (entry_in g (failed_order d))) ds) p).serial ≡ p.serial
    go zero f = f
    go (suc m) f = refl

section_widened : (ds : List Details) (g : Register) (p : Pair)
    → section_of (widened g p ds) ≡ record { serial = p.serial; receipts = receipts_in p.entries ++ receipts_of_list g ds }
unfolding section_of
section_widened ds g p = λ i. record { serial = serial_widened ds g p i; receipts = entries_widened ds g p i }

sections_from : (cs : List Call) (g : Register) (p : Pair) → periods_in (pairs_from g p cs) ≡ periods_from g (section_of p) cs
unfolding periods_in periods_from pairs_from ifZero section_of receipts_in
sections_from [] g p = refl
sections_from (issue c ∷ cs) g p = go (number_of g (issue c)) (sections_from cs (call g (issue c)) p) (sections_from cs (call g (issue c)) (wider p (entry_in g c)))
  where
    go : (m : ℕ) → periods_in (pairs_from (call g (issue c)) p cs) ≡ periods_from (call g (issue c)) (section_of p) cs
        → periods_in (pairs_from (call g (issue c)) (wider p (entry_in g c)) cs) ≡ periods_from (call g (issue c)) (section_of (wider p (entry_in g c))) cs
        → periods_in (ifZero m (pairs_from (call g (issue c)) (wider p (entry_in g c)) cs) (pairs_from (call g (issue c)) p cs))
        ≡ ifZero m (periods_from (call g (issue c)) (record { serial = p.serial; receipts = receipts_in p.entries ++ (receipt_of_call c ∷ []) }) cs) (periods_from (call g (issue c)) (section_of p) cs)
    go zero e f = f ∙ ap (λ (x : Period). periods_from (call g (issue c)) x cs) (section_wider g c p)
    go (suc m) e f = e
sections_from (issue_list ds ∷ cs) g p =
    sections_from cs (call g (issue_list ds)) (widened g p ds) ∙ ap (λ (x : Period). periods_from (call g (issue_list ds)) x cs) (section_widened ds g p)
sections_from (change s ∷ cs) g p = go (number_of g (change s)) (sections_from cs (call g (change s)) p) (sections_from cs (call g (change s)) (empty_pair s))
  where
    go : (m : ℕ) → periods_in (pairs_from (call g (change s)) p cs) ≡ periods_from (call g (change s)) (section_of p) cs
        → periods_in (pairs_from (call g (change s)) (empty_pair s) cs) ≡ periods_from (call g (change s)) (record { serial = s; receipts = [] }) cs
        → periods_in (ifZero m (p ∷ pairs_from (call g (change s)) (empty_pair s) cs) (pairs_from (call g (change s)) p cs))
        ≡ ifZero m (section_of p ∷ periods_from (call g (change s)) (record { serial = s; receipts = [] }) cs) (periods_from (call g (change s)) (section_of p) cs)
    go zero e f = ap (λ (l : List Period). section_of p ∷ l) f
    go (suc m) e f = e

pub sections_same : (cs : List Call) (g : Register) (s : Name) → periods_in (pairs_from g (empty_pair s) cs) ≡ periods_from g (record { serial = s; receipts = [] }) cs
unfolding section_of receipts_in
sections_same cs g s = sections_from cs g (empty_pair s)

receipts_from : (cs : List Call) (g : Register) (p : Pair) → receipts_in (entries_in (pairs_from g p cs)) ≡ receipts_in p.entries ++ receipts_of g cs
unfolding receipts_of pairs_from ifZero entries_in receipts_in
receipts_from [] g p = receipts_append p.entries []
receipts_from (issue c ∷ cs) g p = go (number_of g (issue c)) (receipts_from cs (call g (issue c)) p) (receipts_from cs (call g (issue c)) (wider p (entry_in g c)))
  where
    one : receipts_in (p.entries ++ (entry_in g c ∷ [])) ≡ receipts_in p.entries ++ (receipt_of_call c ∷ [])
    one = receipts_append p.entries (entry_in g c ∷ []) ∙ ap (λ (r : Receipt). receipts_in p.entries ++ (r ∷ [])) (receipt_same g c)

    go : (m : ℕ) → receipts_in (entries_in (pairs_from (call g (issue c)) p cs)) ≡ receipts_in p.entries ++ receipts_of (call g (issue c)) cs
        → receipts_in (entries_in (pairs_from (call g (issue c)) (wider p (entry_in g c)) cs)) ≡ receipts_in (p.entries ++ (entry_in g c ∷ [])) ++ receipts_of (call g (issue c)) cs
        → receipts_in (entries_in (ifZero m (pairs_from (call g (issue c)) (wider p (entry_in g c)) cs) (pairs_from (call g (issue c)) p cs)))
        ≡ receipts_in p.entries ++ ifZero m (receipt_of_call c ∷ receipts_of (call g (issue c)) cs) (receipts_of (call g (issue c)) cs)
    go zero e f =
        f ∙ (ap (λ (l : List Receipt). l ++ receipts_of (call g (issue c)) cs) one ∙ append_assoc (receipts_in p.entries) (receipt_of_call c ∷ []) (receipts_of (call g (issue c)) cs))
    go (suc m) e f = e
receipts_from (issue_list ds ∷ cs) g p =
    receipts_from cs (call g (issue_list ds)) (widened g p ds)
    ∙ ap (λ (l : List Receipt). l ++ receipts_of (call g (issue_list ds)) cs) (entries_widened ds g p)
    ∙ append_assoc (receipts_in p.entries) (receipts_of_list g ds) (receipts_of (call g (issue_list ds)) cs)
receipts_from (change s ∷ cs) g p = go (number_of g (change s)) (receipts_from cs (call g (change s)) p) (receipts_from cs (call g (change s)) (empty_pair s))
  where
    go : (m : ℕ) → receipts_in (entries_in (pairs_from (call g (change s)) p cs)) ≡ receipts_in p.entries ++ receipts_of (call g (change s)) cs
        → receipts_in (entries_in (pairs_from (call g (change s)) (empty_pair s) cs)) ≡ receipts_of (call g (change s)) cs
        → receipts_in (entries_in (ifZero m (p ∷ pairs_from (call g (change s)) (empty_pair s) cs) (pairs_from (call g (change s)) p cs))) ≡ receipts_in p.entries ++ receipts_of (call g (change s)) cs
    go zero e f =
        receipts_append p.entries (entries_in (pairs_from (call g (change s)) (empty_pair s) cs)) ∙ ap (λ (l : List Receipt). receipts_in p.entries ++ l) f
    go (suc m) e f = e

pub receipts_same : (cs : List Call) (g : Register) (s : Name) → receipts_in (entries_in (pairs_from g (empty_pair s) cs)) ≡ receipts_of g cs
unfolding receipts_in
receipts_same cs g s = receipts_from cs g (empty_pair s)

-- ---- the serials of a register that holds pairs

serials_of_lem : (st : State) (s : Name) → (renewed st s).serials ≡ added st.serials s
unfolding renewed
serials_of_lem st s = refl

pub run_zeroed : (k : List ℕ) (n : ℕ) (o : Owner) (ps : List Pair) (p : Pair) → Work k n o (ps ++ (p ∷ [])) → Zeroed (run_pairs (blank o k n) (ps ++ (p ∷ []))).serials
run_zeroed k n o ps p w =
    let ns = names_split [] ps (p ∷ []) w.names in
    let st = run_pairs (blank o k n) ps in
    let e : (run_pairs (blank o k n) (ps ++ (p ∷ []))).serials ≡ added st.serials p.serial =
    ap (λ (x : State). x.serials) (run_last (blank o k n) ps p) ∙ ((kept p.entries (renewed st p.serial)).serials ∙ serials_of_lem st p.serial) in
    subst Zeroed (sym e) (added_zeroed st.serials p.serial (last_begun _ p ns.1).good)

-- ---- the counter is the sum

pub entries_placed : (s : Settings) (es : List Entry) (xs : List Placed) → entries_of (placed_under s es ++ xs) ≡ es ++ entries_of xs
unfolding entries_of placed_under
entries_placed s [] xs = refl
entries_placed s (e ∷ es) xs = ap (λ (l : List Entry). e ∷ l) (entries_placed s es xs)

pub length_entries : (xs : List Placed) → length (entries_of xs) ≡ length xs
unfolding entries_of
length_entries [] = refl
length_entries (x ∷ xs) = ap suc (length_entries xs)

pub entries_all : (o : Owner) (ps : List Pair) → entries_of (all_placed o ps) ≡ entries_in ps
unfolding entries_of all_placed entries_in
entries_all o [] = refl
entries_all o (p ∷ ps) =
    entries_placed (settings_for o p.serial) p.entries (all_placed o ps) ∙ ap (λ (l : List Entry). p.entries ++ l) (entries_all o ps)

start_sum : (n : ℕ) (o : Owner) (xs : List Placed) → (core_after n (start_core o) xs).counter ≡ sum (receipts_in (entries_of xs))
unfolding core_after start_core
start_sum n o xs = +ℤ_idl (sum (receipts_in (entries_of xs)))

pub counter_sum : (k : List ℕ) (n : ℕ) (o : Owner) (ps : List Pair) → Work k n o ps → (run_pairs (blank o k n) ps).counter ≡ sum (receipts_in (entries_in ps))
counter_sum k n o ps w =
    let r = ran ps (blank o k n) o k n (start_core o) [] (blank_base o k n w.good) w.right w.names in
    ap (λ (c : Core). c.counter) (r.base.core ∙ run_after n (start_core o) (all_placed o ps))
    ∙ (start_sum n o (all_placed o ps) ∙ ap (λ (l : List Entry). sum (receipts_in l)) (entries_all o ps))

-- ---- the register that was just opened

pub fresh_holds : (o : Owner) (k : List ℕ) (n : ℕ) (s : Name) → fresh (settings_for o s) n k ≡ run_pairs (blank o k n) (empty_pair s ∷ [])
unfolding run_pairs run
fresh_holds o k n s = fresh_is o k n s

head_journal : (o : Owner) (n : ℕ) (s : Name) → head (settings_for o s) 0 ≡ journal_text o n (empty_pair s ∷ [])
unfolding journal_text pair_texts
head_journal o n s = head_pair o s 0 ∙ sym (journal_empty o n [] s ∙ ap (λ (l : List ℕ). l ++ pair_start s 0) (append-nil (owner_text o)))

pub empty_work : (k : List ℕ) (n : ℕ) (s : Settings) → TypedSettings s → settings_good s ≡ true → width_good n ≡ true → Work k n (owner_in s) (empty_pair s.serial ∷ [])
unfolding all_placed placed_under serials_of is_in
empty_work k n s ts good w =
    let g = good_owner s ts good in
    record { width = w; good = g.0; some = omega arith; right = placing.none; names = names_empty [] [] s.serial g.1 g.2 refl (omega arith) placing.none }

module _ (s : Settings) (n : ℕ) (key : List ℕ) (ts : TypedSettings s) (good : settings_good s ≡ true) (width : width_good n ≡ true) (buf : List ℕ) (shared : Bool)
    (z : open_number s shared n (length buf) ≡ 0) where
  pub opening_is : opening s key shared n buf ≡ record { state = fresh s n key; buf = overwrite buf 0 (head s 0) }
  unfolding opening opened open_buffer
  opening_is = λ i. record { state = ifZero-yes (fresh s n key) unopened z i; buf = ifZero-yes (overwrite buf 0 (head s 0)) buf z i }

  fits_buffer : 0 + length (head s 0) ≤ length buf
  fits_buffer = let o = open_zero s shared n (length buf) z in omega (arith, length_head s ts.lengths good 0, o.2)

  pub opening_length : length (opening s key shared n buf).buf ≡ length buf
  opening_length = ap (λ (g : Register). length g.buf) opening_is ∙ length_over buf 0 (head s 0) fits_buffer

  fresh_place : (fresh s n key).length ≡ length (head s 0)
  unfolding fresh
  fresh_place = sym (length_head s ts.lengths good 0)

  first_holds : Holds key n (owner_in s) (record { state = fresh s n key; buf = overwrite buf 0 (head s 0) }) (empty_pair s.serial ∷ [])
  first_holds =
      record {
        state = fresh_holds (owner_in s) key n s.serial;
        work = empty_work key n s ts good width;
        bytes = ap (λ (m : ℕ). take m (overwrite buf 0 (head s 0))) fresh_place ∙ (read_over buf 0 (head s 0) fits_buffer ∙ head_journal (owner_in s) n s.serial);
        room = omega (arith, fresh_place, fits_buffer, length_over buf 0 (head s 0) fits_buffer);
      }

  pub opening_holds : Holds key n (owner_in s) (opening s key shared n buf) (empty_pair s.serial ∷ [])
  opening_holds = subst (λ (g : Register). Holds key n (owner_in s) g (empty_pair s.serial ∷ [])) (sym opening_is) first_holds
