-- Demand 3, back: the receipts of an accepted journal, issued again with a Change for each later pair, write the same journal.
use Rattle.std.proofs.Common.{ℕ, suc, ◌+◌, ◌^◌, ◌≤◌, ◌<◌, ◌≡◌, refl, sym, ap, ◌∙◌, subst, Bool, true, false, cond, ◌||◌, List, [], ◌∷◌, ◌++◌, append_assoc, append-nil, arith, eq-eqb, ne_eqb, le-leb, eqb, lit<, pos, length, replicate, get_or, length-append, take_all, length-take-le}
use native.Mathlib.Nat.{pow-le-pow_right}
use Rattle.primitives.specs.Bytes.{AllBytes}
use Rattle.primitives.specs.Number.{bytes_of}
use Rattle.primitives.specs.Counter.{width_good, counter_fits, half}
use Rattle.primitives.specs.Aes.{key_schedule}
use Rattle.primitives.proofs.ByteLists.{bytes_nil}
use Rattle.primitives.proofs.Cipher.{schedule_bytes}
use Rattle.primitives.proofs.Numbers.{length_bytes_of}
use Rattle.primitives.proofs.Rows.{ask_yes}
use Rattle.primitives.proofs.Twos.{width_true, half_twice, below_fits, fits_wide}
use Rattle.receipt.specs.Settings.{csp_good, id_good, settings_good}
use Rattle.receipt.specs.Details.{standard, After}
use Rattle.receipt.specs.Payload.{counter_good}
use Rattle.receipt.specs.Chain.{encrypted_counter, decrypted_counter}
use Rattle.receipt.specs.Compact.{compact, signature_zero, TypedEntry}
use Rattle.receipt.specs.declared.details.Kind.{Kind}
use Rattle.receipt.specs.declared.settings.Name.{Name}
use Rattle.receipt.specs.declared.settings.Settings.{Settings}
use Rattle.receipt.specs.declared.entry.Signature.{Signature}
use Rattle.receipt.specs.declared.entry.Entry.{Entry}
use Rattle.receipt.proofs.Entries.{Admitted, admitted, standard_is, counter_after_lem, counter_none, failed_bytes, encrypt_back}
use Rattle.receipt.proofs.Names.{settings_yes, id_own}
use Rattle.journal.specs.Head.{head_length, entry_text}
use Rattle.journal.specs.State.{no_name, used, in_eight, is_in, all_good, settings_now}
use Rattle.journal.specs.declared.state.TakenOver.{TakenOver}
use Rattle.journal.specs.Step.{new_counter, fields_of}
use Rattle.journal.specs.Opening.{open_number}
use Rattle.journal.specs.Issuing.{signature_sized, given_signature, entry_of, text_of, issue_number}
use Rattle.journal.specs.Changing.{change_number}
use Rattle.journal.specs.Checking.{accepted, take_over}
use Rattle.journal.specs.Valid.{Owner, Pair, settings_for, texts, pair_texts, owner_text, journal_text, Placed, placed_under, all_placed, serials_of, GoodOwner, head_of}
use Rattle.journal.specs.Calls.{Order, TypedOrder, Call, issue, change, issues, changes, TypedCalls, none, more, Register, opening, number_of, call, calls, calls_within, numbers_of, order_of, issues_of, later_calls, calls_of}
use Rattle.journal.specs.Demands.{before_count, AcceptedIsWritten}
use Rattle.journal.specs.declared.state.State.{State}
use Rattle.journal.proofs.Check.{RightAt, text_in, step, first_yes, right_new, step_length}
use Rattle.journal.proofs.Serials.{serials_good_lem}
use Rattle.journal.proofs.Answers.{Sound, Detailed, issue-yes, change-yes}
use Rattle.journal.proofs.Placing.{Core, start_core, step_core, run_core, core_after, run_append, run_after, RightFor, AllRight, right_split, Begun, Names, serials_append, length_serials}
use Rattle.journal.proofs.Placing as placing
use Rattle.journal.proofs.Passing.{right_here, text_is, under, run_pairs, renewed_length, typed_for, good_for}
use Rattle.journal.proofs.Accepting.{Work, blank, valid_work, valid_taken}
use Rattle.journal.proofs.Pairs.{wider, empty_pair, all_wider, all_empty_lem, last_placed, journal_longer, journal_open, pairs_longer, pair_long, no_pairs, length_owner, Open, open_of}
use Rattle.journal.proofs.Registers.{Holds, holds_open, entry_in, call_state, change_state, issue_holds, issue_length, change_holds, counter_sum, opening_holds, opening_length, run_zeroed}

-- ---- the signature of an entry, as a slice

slice_of : Signature → List ℕ
slice_of g = cond g.failed [] g.bytes

module _ (g : Signature) (l : length g.bytes ≡ 64) where
  slice_sized : signature_sized (slice_of g) ≡ true
  unfolding signature_sized slice_of
  slice_sized = go g.failed
    where
      go : (t : Bool) → eqb (length (cond t [] g.bytes)) 64 || eqb (length (cond t [] g.bytes)) 0 ≡ true
      go true = refl
      go false = rw (eq-eqb (length g.bytes) 64 l)

  slice_given : signature_zero g ≡ true → given_signature (slice_of g) ≡ g
  unfolding given_signature slice_of
  slice_given z = go g.failed refl
    where
      go : (t : Bool) → g.failed ≡ t
          → cond (eqb (length (cond t [] g.bytes)) 0) (record { failed = true; bytes = replicate 64 0 }) (record { failed = false; bytes = cond t [] g.bytes }) ≡ g
      go true e = λ i. record { failed = sym e i; bytes = sym (failed_bytes g l e z) i }
      go false e = rw (ne_eqb (length g.bytes) 0 (λ q. omega arith)) (λ i. record { failed = sym e i; bytes = g.bytes })

  slice_bytes : AllBytes g.bytes → AllBytes (slice_of g)
  unfolding slice_of
  slice_bytes b = go g.failed
    where
      go : (t : Bool) → AllBytes (cond t [] g.bytes)
      go true = bytes_nil
      go false = b

-- ---- the entry of its call is the entry

module _ (st : State) (e : Entry) (h : RightAt st e) (kb : AllBytes st.key) where
  same_counter : (fields_of st e.fields.details).counter ≡ e.fields.counter
  unfolding fields_of
  same_counter = go (standard e.fields.details.kind) refl
    where
      a : Admitted (settings_now st) st.width e
      a = admitted (settings_now st) st.width e h.spelled

      go : (t : Bool) → standard e.fields.details.kind ≡ t
          → cond t (encrypted_counter (key_schedule st.key) st.id e.fields.details.number st.width (new_counter st e.fields.details).counter) (replicate 8 0) ≡ e.fields.counter
      go true q =
          let k = standard_is e.fields.details.kind q in
          let c : (new_counter st e.fields.details).counter ≡ decrypted_counter (key_schedule st.key) st.id e.fields.details.number st.width e.fields.counter =
          ap (λ (x : After). x.counter) (right_new st e h) ∙ sym (h.counter.decrypted k) in
          let z = counter_after_lem st.width e.fields.counter h.typed.fields.counter (subst (λ (x : Kind). counter_good st.width x e.fields.counter ≡ true) k a.counter) in
          ap (encrypted_counter (key_schedule st.key) st.id e.fields.details.number st.width) c
          ∙ encrypt_back (key_schedule st.key) st.id e.fields.details.number st.width e.fields.counter (schedule_bytes kb) a.width h.typed.fields.counter h.typed.fields.counter_bytes z
      go false q = sym (counter_none st.width e.fields.details.kind e.fields.counter q h.typed.fields.counter a.counter)

  same_entry : entry_of st (order_of e).details (order_of e).signature ≡ e
  unfolding entry_of fields_of order_of slice_of
  same_entry =
      let a = admitted (settings_now st) st.width e h.spelled in
      λ i. record {
        fields = record { details = e.fields.details; counter = same_counter i; chain = sym h.chained i };
        signature = slice_given e.signature h.typed.signature a.signature i;
      }

  same_in : (buf : List ℕ) → entry_in (record { state = st; buf = buf }) (order_of e) ≡ e
  unfolding entry_in
  same_in buf = same_entry

  text_same : text_of st (order_of e).details (order_of e).signature ≡ text_in st e
  unfolding text_of
  text_same = ap (compact (settings_now st) st.width) same_entry

  details_same : Detailed st (order_of e).details
  unfolding order_of
  details_same =
      let a = admitted (settings_now st) st.width e h.spelled in
      record {
        above = h.above;
        date = a.date;
        amounts = a.amounts;
        first = first_yes st e.fields.details h.first;
        counter = ap (λ (x : After). x.fits) (right_new st e h);
      }

  sized_same : signature_sized (order_of e).signature ≡ true
  unfolding order_of slice_of
  sized_same = slice_sized e.signature h.typed.signature

  -- its call is not refused
  not_refused : (room : ℕ) → Sound st → st.length + length (entry_text (text_in st e)) ≤ room → issue_number st (order_of e).details (order_of e).signature room ≡ 0
  not_refused room s fits =
      issue-yes st (order_of e).details (order_of e).signature room (record {
        sound = s;
        within = omega arith;
        details = details_same;
        signature = sized_same;
        fits = subst (λ (t : List ℕ). st.length + length (entry_text t) ≤ room) (sym text_same) fits;
      })

pub order_typed : (e : Entry) → TypedEntry e → TypedOrder (order_of e)
unfolding order_of slice_of
order_typed e t = record { number = t.fields.number; amounts = t.fields.amounts; bytes = slice_bytes e.signature t.signature t.signature_bytes }

-- ---- a register that holds pairs is sound

record Bounds (n : ℕ) (c : Core) : Type 0 where
  issued : c.issued ≤ c.last
  counter : counter_fits n c.counter ≡ true

bounds : (k : List ℕ) (n : ℕ) (c : Core) (xs : List Placed) → AllRight k n c xs → Bounds n c → Bounds n (run_core n c xs)
unfolding run_core step_core
bounds k n c [] placing.none b = b
bounds k n c (x ∷ xs) (placing.more h hs) b =
    bounds k n (step_core n c x) xs hs (record { issued = omega (arith, b.issued, h.above); counter = h.counter.fits })

zero_fits : (n : ℕ) → width_good n ≡ true → counter_fits n (pos 0) ≡ true
zero_fits n w =
    let p : 0 < n = omega (arith, (width_true n w).least) in
    fits_wide n (pos 0) w ∙ below_fits n (pos 0) (half_some n p)
  where
    power : (k : ℕ) → 0 < 256 ^ k
    power k = let h : 0 ≤ k = omega arith in omega (arith, pow-le-pow_right {n = 256} (lit< tt) h)

    half_some : (k : ℕ) → 0 < k → 0 < half k
    half_some k p = omega (arith, half_twice k p, power k)

start_bounds : (n : ℕ) (o : Owner) → width_good n ≡ true → Bounds n (start_core o)
unfolding start_core
start_bounds n o w = record { issued = omega arith; counter = zero_fits n w }

length_placed : (s : Settings) (es : List Entry) → length (placed_under s es) ≡ length es
unfolding placed_under
length_placed s [] = refl
length_placed s (e ∷ es) = ap suc (length_placed s es)

after_issued : (n : ℕ) (o : Owner) (xs : List Placed) → (core_after n (start_core o) xs).issued ≡ length xs
unfolding core_after start_core
after_issued n o xs = omega arith

pub run_issued : (n : ℕ) (o : Owner) (xs : List Placed) → (run_core n (start_core o) xs).issued ≡ length xs
run_issued n o xs = ap (λ (c : Core). c.issued) (run_after n (start_core o) xs) ∙ after_issued n o xs

last_length : (o : Owner) (ps : List Pair) (p : Pair) → length p.entries ≤ length (all_placed o (ps ++ (p ∷ [])))
last_length o ps p =
    omega (
      arith,
      ap length (last_placed o ps p),
      length-append (all_placed o ps) (placed_under (settings_for o p.serial) p.entries),
      length_placed (settings_for o p.serial) p.entries,
    )

pub names_good : (us : List Name) (ps : List Pair) → Names us ps → all_good (serials_of ps) ≡ true
unfolding serials_of all_good
names_good us [] placing.none = refl
names_good us (p ∷ ps) (placing.more b n) = rw b.good (names_good (us ++ (p.serial ∷ [])) ps n)

first_serial : (o : Owner) (ps : List Pair) → 0 < length ps → record { csp = o.csp; id = o.id; serial = get_or (in_eight (serials_of ps)) 0 no_name } ≡ head_of o ps
unfolding in_eight serials_of head_of
first_serial o [] h = absurd (omega arith)
first_serial o (p ∷ ps) h = refl

head_fits : (o : Owner) (n : ℕ) (ps : List Pair) → GoodOwner o → 0 < length ps → Names [] ps → head_length (head_of o ps) ≤ length (journal_text o n ps)
unfolding head_of head_length journal_text
head_fits o n [] g h ns = absurd (omega arith)
head_fits o n (p ∷ ps) g h (placing.more b ns) =
    omega (arith, length-append (owner_text o) (pair_texts o n (p ∷ ps)), length_owner o g, pairs_longer o n p ps, pair_long o n p b.typed b.good)

pub run_sound : (k : List ℕ) (n : ℕ) (o : Owner) (ps : List Pair) (p : Pair) → Work k n o (ps ++ (p ∷ [])) → Sound (run_pairs (blank o k n) (ps ++ (p ∷ [])))
run_sound k n o ps p w =
    let qs = ps ++ (p ∷ []) in
    let st = run_pairs (blank o k n) qs in
    let q = open_of k n o ps p w in
    let b = bounds k n (start_core o) (all_placed o qs) w.right (start_bounds n o w.width) in
    let base = q.at.base in
    let c = base.core in
    let ic : st.issued ≡ length (all_placed o qs) = ap (λ (x : Core). x.issued) c ∙ run_issued n o (all_placed o qs) in
    let zs = run_zeroed k n o ps p w in
    let u = base.serials in
    let lu : length (used st.serials) ≡ length qs = ap length u ∙ length_serials qs in
    let f : record { csp = st.csp; id = st.id; serial = get_or st.serials 0 no_name } ≡ head_of o qs =
    (λ i. record { csp = base.csp i; id = base.id i; serial = get_or ((zs ∙ ap in_eight u) i) 0 no_name }) ∙ first_serial o qs w.some in
    let t = texts (settings_for o p.serial) n p.entries in
    let kb = bytes_of 4 (length p.entries) in
    record {
      csp = ap csp_good base.csp ∙ w.good.csp;
      id = ap id_good base.id ∙ w.good.id;
      serials = serials_good_lem st.serials zs (omega (arith, lu, w.some)) (ap all_good u ∙ names_good [] qs w.names);
      width = ap width_good base.width ∙ w.width;
      counter = (λ i. counter_fits (base.width i) (c i).counter) ∙ b.counter;
      issued = subst (λ (x : Core). x.issued ≤ x.last) (sym c) b.issued;
      since = omega (arith, q.since, ic, last_length o ps p);
      place =
          omega (
            arith,
            q.place,
            q.size,
            ap length (journal_open o n ps p),
            length-append (before_count o n ps p.serial) (kb ++ t),
            length-append kb t,
            length_bytes_of 4 (length p.entries),
          );
      head = subst (λ (x : Settings). head_length x ≤ st.length) (sym f) (omega (arith, q.size, head_fits o n qs w.good w.some w.names));
    }

pub holds_sound : (k : List ℕ) (n : ℕ) (o : Owner) (g : Register) (ps : List Pair) (p : Pair) → Holds k n o g (ps ++ (p ∷ [])) → Sound g.state
holds_sound k n o g ps p h = subst Sound (sym h.state) (run_sound k n o ps p h.work)

-- ---- calls of which none is refused

pub record Redone (k : List ℕ) (n : ℕ) (o : Owner) (g : Register) (cs : List Call) (ps : List Pair) : Type 0 where
  pub holds : Holds k n o (calls g cs) ps
  pub zeros : numbers_of g cs ≡ replicate (length cs) 0
  pub long : length (calls g cs).buf ≡ length g.buf

redone_none : (k : List ℕ) (n : ℕ) (o : Owner) (g : Register) (ps : List Pair) → Holds k n o g ps → Redone k n o g [] ps
unfolding calls_within numbers_of
redone_none k n o g ps h = record { holds = h; zeros = refl; long = refl }

redone_more : (k : List ℕ) (n : ℕ) (o : Owner) (g : Register) (c : Call) (cs : List Call) (ps : List Pair) → number_of g c ≡ 0 → length (call g c).buf ≡ length g.buf
    → Redone k n o (call g c) cs ps → Redone k n o g (c ∷ cs) ps
unfolding calls_within numbers_of
redone_more k n o g c cs ps z l r = record { holds = r.holds; zeros = λ i. z i ∷ r.zeros i; long = r.long ∙ l }

pub calls_append : (xs ys : List Call) (g : Register) → calls g (xs ++ ys) ≡ calls (calls g xs) ys
unfolding calls_within
calls_append [] ys g = refl
calls_append (x ∷ xs) ys g = calls_append xs ys (call g x)

numbers_append : (xs ys : List Call) (g : Register) → numbers_of g (xs ++ ys) ≡ numbers_of g xs ++ numbers_of (calls g xs) ys
unfolding calls_within numbers_of
numbers_append [] ys g = refl
numbers_append (x ∷ xs) ys g = ap (λ (l : List ℕ). number_of g x ∷ l) (numbers_append xs ys (call g x))

zeros_append : (xs ys : List Call) → ◌≡◌ {A = List ℕ} (replicate (length xs) 0 ++ replicate (length ys) 0) (replicate (length (xs ++ ys)) 0)
zeros_append [] ys = refl
zeros_append (x ∷ xs) ys = ap (λ (l : List ℕ). 0 ∷ l) (zeros_append xs ys)

redone_append : (k : List ℕ) (n : ℕ) (o : Owner) (xs ys : List Call) (g : Register) (ps qs : List Pair) → Redone k n o g xs ps → Redone k n o (calls g xs) ys qs
    → Redone k n o g (xs ++ ys) qs
redone_append k n o xs ys g ps qs r s =
    let e = calls_append xs ys g in
    record {
      holds = subst (λ (y : Register). Holds k n o y qs) (sym e) s.holds;
      zeros = numbers_append xs ys g ∙ ((λ i. r.zeros i ++ s.zeros i) ∙ zeros_append xs ys);
      long = ap (λ (y : Register). length y.buf) e ∙ (s.long ∙ r.long);
    }

-- ---- entries and pairs again

abbrev core_of_pairs : ℕ → Owner → List Pair → Core
core_of_pairs n o ps = run_core n (start_core o) (all_placed o ps)

core_wider : (n : ℕ) (o : Owner) (ps : List Pair) (p : Pair) (e : Entry)
    → core_of_pairs n o (ps ++ (wider p e ∷ [])) ≡ step_core n (core_of_pairs n o (ps ++ (p ∷ []))) (under o p.serial e)
unfolding run_core
core_wider n o ps p e =
    ap (run_core n (start_core o)) (all_wider o ps p e) ∙ run_append n (start_core o) (all_placed o (ps ++ (p ∷ []))) (under o p.serial e ∷ [])

core_snoc : (n : ℕ) (o : Owner) (ps : List Pair) (q : Pair)
    → core_of_pairs n o (ps ++ (q ∷ [])) ≡ run_core n (core_of_pairs n o ps) (placed_under (settings_for o q.serial) q.entries)
core_snoc n o ps q = ap (run_core n (start_core o)) (last_placed o ps q) ∙ run_append n (start_core o) (all_placed o ps) (placed_under (settings_for o q.serial) q.entries)

number_issue : (g : Register) (c : Order) → issue_number g.state c.details c.signature (length g.buf) ≡ 0 → number_of g (issue c) ≡ 0
unfolding number_of
number_issue g c z = z

number_change : (g : Register) (s : Name) → change_number g.state s (length g.buf) ≡ 0 → number_of g (change s) ≡ 0
unfolding number_of
number_change g s z = z

-- one more entry of the open pair
module _ (k : List ℕ) (n : ℕ) (o : Owner) (kb : AllBytes k) (g : Register) (ps : List Pair) (p : Pair) (h : Holds k n o g (ps ++ (p ∷ []))) (e : Entry)
    (r : RightFor k n (core_of_pairs n o (ps ++ (p ∷ []))) (under o p.serial e))
    (room : g.state.length + length (entry_text (compact (settings_for o p.serial) n e)) ≤ length g.buf) where
  opened_at : Open k n o ps p g.state
  opened_at = holds_open ps p h

  right_at : RightAt g.state e
  right_at = right_here opened_at.at e r

  key_bytes_lem : AllBytes g.state.key
  key_bytes_lem = subst AllBytes (sym opened_at.at.base.key) kb

  length_text : length (entry_text (text_in g.state e)) ≡ length (entry_text (compact (settings_for o p.serial) n e))
  length_text = ap (λ (t : List ℕ). length (entry_text t)) (text_is opened_at.at e)

  pub one_zero : number_of g (issue (order_of e)) ≡ 0
  one_zero = number_issue g (order_of e) (not_refused g.state e right_at key_bytes_lem (length g.buf) (holds_sound k n o g ps p h) (omega (arith, length_text)))

  one_entry : entry_in g (order_of e) ≡ e
  one_entry = same_in g.state e right_at key_bytes_lem g.buf

  pub one_holds : Holds k n o (call g (issue (order_of e))) (ps ++ (wider p e ∷ []))
  one_holds =
      subst (λ (x : Entry). Holds k n o (call g (issue (order_of e))) (ps ++ (wider p x ∷ []))) one_entry
      (issue_holds k n o g ps p h (order_of e) one_zero (subst (RightAt g.state) (sym one_entry) right_at))

  pub one_long : length (call g (issue (order_of e))).buf ≡ length g.buf
  one_long = issue_length k n o g ps p h (order_of e) one_zero

  pub one_length : (call g (issue (order_of e))).state.length ≡ g.state.length + length (entry_text (compact (settings_for o p.serial) n e))
  one_length =
      ap (λ (x : State). x.length) (call_state g (order_of e) one_zero ∙ ap (step g.state) one_entry)
      ∙ (step_length g.state e ∙ omega (arith, length_text))

again_entries : (k : List ℕ) (n : ℕ) (o : Owner) → AllBytes k → (es : List Entry) (g : Register) (ps : List Pair) (p : Pair) → Holds k n o g (ps ++ (p ∷ []))
    → AllRight k n (core_of_pairs n o (ps ++ (p ∷ []))) (placed_under (settings_for o p.serial) es) → g.state.length + length (texts (settings_for o p.serial) n es) ≤ length g.buf
    → Redone k n o g (issues_of es) (ps ++ (record { serial = p.serial; entries = p.entries ++ es } ∷ []))
unfolding issues_of placed_under texts
again_entries k n o kb [] g ps p h r l =
    redone_none k n o g (ps ++ (record { serial = p.serial; entries = p.entries ++ [] } ∷ []))
    (subst (λ (es : List Entry). Holds k n o g (ps ++ (record { serial = p.serial; entries = es } ∷ []))) (sym (append-nil p.entries)) h)
again_entries k n o kb (e ∷ es) g ps p h (placing.more x xs) l =
    let s = p.serial in
    let t = entry_text (compact (settings_for o s) n e) in
    let la = length-append t (texts (settings_for o s) n es) in
    let room : g.state.length + length t ≤ length g.buf = omega (arith, la, l) in
    let c = issue (order_of e) in
    let r = again_entries k n o kb es (call g c) ps (wider p e) (one_holds k n o kb g ps p h e x room)
    (subst (λ (d : Core). AllRight k n d (placed_under (settings_for o s) es)) (sym (core_wider n o ps p e)) xs)
    (omega (arith, la, l, one_long k n o kb g ps p h e x room, one_length k n o kb g ps p h e x room)) in
    redone_more k n o g c (issues_of es) (ps ++ (record { serial = s; entries = p.entries ++ (e ∷ es) } ∷ [])) (one_zero k n o kb g ps p h e x room) (one_long k n o kb g ps p h e x room)
    (subst (λ (ys : List Entry). Redone k n o (call g c) (issues_of es) (ps ++ (record { serial = s; entries = ys } ∷ []))) (append_assoc p.entries (e ∷ []) es) r)

holds_length : (k : List ℕ) (n : ℕ) (o : Owner) (g : Register) (ps : List Pair) (p : Pair) → Holds k n o g (ps ++ (p ∷ [])) → g.state.length ≡ length (journal_text o n (ps ++ (p ∷ [])))
holds_length k n o g ps p h = (holds_open ps p h).size

-- one more pair, with its entries
again_pairs : (k : List ℕ) (n : ℕ) (o : Owner) → AllBytes k → (qs : List Pair) (g : Register) (ps : List Pair) (p : Pair) → Holds k n o g (ps ++ (p ∷ []))
    → AllRight k n (core_of_pairs n o (ps ++ (p ∷ []))) (all_placed o qs) → Names (serials_of (ps ++ (p ∷ []))) qs → g.state.length + length (pair_texts o n qs) ≤ length g.buf
    → Redone k n o g (later_calls qs) (ps ++ (p ∷ qs))
unfolding later_calls all_placed serials_of
again_pairs k n o kb [] g ps p h r ns l = redone_none k n o g (ps ++ (p ∷ [])) h
again_pairs k n o kb (q ∷ qs) g ps p h r (placing.more b ns) l =
    let st = g.state in
    let s = q.serial in
    let xs = ps ++ (p ∷ []) in
    let u = (holds_open ps p h).at.base.serials in
    let pl = pairs_longer o n q qs in
    let ql = pair_long o n q b.typed b.good in
    let z = change-yes st s (length g.buf) (record {
      sound = holds_sound k n o g ps p h;
      within = h.room;
      good = b.good;
      new = ap (is_in s) u ∙ b.new;
      few = subst (λ (us : List Name). length us < 8) (sym u) b.room;
      fits = omega (arith, pl, ql, l);
    }) in
    let w = change_holds k n o g ps p h s z b.typed in
    let g₁ = call g (change s) in
    let l₁ : g₁.state.length ≡ st.length + 8 + s.len = ap (λ (y : State). y.length) (change_state g s z) ∙ renewed_length st s in
    let rs = right_split k n (core_of_pairs n o xs) (placed_under (settings_for o s) q.entries) (all_placed o qs) r in
    let e₁ : core_of_pairs n o xs ≡ core_of_pairs n o (xs ++ (empty_pair s ∷ [])) = ap (run_core n (start_core o)) (sym (all_empty_lem o xs s)) in
    let a : Redone k n o g₁ (issues_of q.entries) (xs ++ (q ∷ [])) =
    again_entries k n o kb q.entries g₁ xs (empty_pair s) w.0 (subst (λ (d : Core). AllRight k n d (placed_under (settings_for o s) q.entries)) e₁ rs.0) (omega (arith, l₁, pl, ql, l, w.1)) in
    let g₂ = calls g₁ (issues_of q.entries) in
    let l₂ = holds_length k n o g₂ xs q a.holds in
    let c : Redone k n o g₂ (later_calls qs) (xs ++ (q ∷ qs)) =
    again_pairs k n o kb qs g₂ xs q a.holds (subst (λ (d : Core). AllRight k n d (all_placed o qs)) (sym (core_snoc n o xs q)) rs.1)
    (subst (λ (us : List Name). Names us qs) (sym (serials_append xs (q ∷ []))) ns)
    (omega (arith, l₂, journal_longer o n xs (q ∷ []), pairs_longer o n q [], no_pairs o n, holds_length k n o g ps p h, pl, l, a.long, w.1)) in
    redone_more k n o g (change s) (issues_of q.entries ++ later_calls qs) (ps ++ (p ∷ (q ∷ qs))) (number_change g s z) w.1
    (subst (Redone k n o g₁ (issues_of q.entries ++ later_calls qs)) (append_assoc ps (p ∷ []) (q ∷ qs))
    (redone_append k n o (issues_of q.entries) (later_calls qs) g₁ (xs ++ (q ∷ [])) (xs ++ (q ∷ qs)) a c))

-- ---- what the code's types say of the calls

issues_typed : (k : List ℕ) (n : ℕ) (c : Core) (s : Settings) (es : List Entry) (more-calls : List Call) → AllRight k n c (placed_under s es) → TypedCalls more-calls → TypedCalls (issues_of es ++ more-calls)
unfolding issues_of placed_under
issues_typed k n c s [] cs placing.none t = t
issues_typed k n c s (e ∷ es) cs (placing.more h hs) t = more (issues (order_typed e h.typed)) (issues_typed k n (step_core n c (record { settings = s; entry = e })) s es cs hs t)

later_typed : (k : List ℕ) (n : ℕ) (o : Owner) (c : Core) (us : List Name) (ps : List Pair) → AllRight k n c (all_placed o ps) → Names us ps → TypedCalls (later_calls ps)
unfolding later_calls all_placed
later_typed k n o c us [] h ns = none
later_typed k n o c us (p ∷ ps) h (placing.more b ns) =
    let s = settings_for o p.serial in
    let hs = right_split k n c (placed_under s p.entries) (all_placed o ps) h in
    more (changes b.typed) (issues_typed k n c s p.entries (later_calls ps) hs.0 (later_typed k n o (run_core n c (placed_under s p.entries)) (us ++ (p.serial ∷ [])) ps hs.1 ns))

-- ---- the journal

open_yes : (s : Settings) (n room : ℕ) → settings_good s ≡ true → width_good n ≡ true → head_length s ≤ room → open_number s false n room ≡ 0
unfolding open_number
open_yes s n room g w h = settings_yes s false n _ g (id_own s.id) w ∙ ask_yes 5 0 (le-leb (head_length s) room h)

-- what writing pairs again leaves
record Rewritten (k : List ℕ) (n : ℕ) (o : Owner) (ps : List Pair) (buf : List ℕ) : Type 0 where
  not_refused_open : open_number (head_of o ps) false n (length buf) ≡ 0
  typed_calls : TypedCalls (calls_of ps)
  redone : Redone k n o (opening (head_of o ps) k false n buf) (calls_of ps) ps
  first_long : length (opening (head_of o ps) k false n buf).buf ≡ length buf

empty_core : (n : ℕ) (o : Owner) (s : Name) → start_core o ≡ core_of_pairs n o (empty_pair s ∷ [])
unfolding run_core all_placed placed_under
empty_core n o s = refl

first_core : (n : ℕ) (o : Owner) (p : Pair) → run_core n (start_core o) (placed_under (settings_for o p.serial) p.entries) ≡ core_of_pairs n o (p ∷ [])
unfolding all_placed
first_core n o p = ap (run_core n (start_core o)) (sym (append-nil (placed_under (settings_for o p.serial) p.entries)))

no_texts : (s : Settings) (n : ℕ) → length (texts s n []) ≡ 0
unfolding texts
no_texts s n = refl

rewrite_first : (k : List ℕ) (n : ℕ) (o : Owner) → AllBytes k → (p : Pair) (ps : List Pair) (buf : List ℕ) → width_good n ≡ true → GoodOwner o → Begun [] p → Names (p.serial ∷ []) ps
    → AllRight k n (start_core o) (all_placed o (p ∷ ps)) → length buf ≡ length (journal_text o n (p ∷ ps)) → head_length (head_of o (p ∷ ps)) ≤ length (journal_text o n (p ∷ ps))
    → Rewritten k n o (p ∷ ps) buf
unfolding head_of calls_of all_placed serials_of
rewrite_first k n o kb p ps buf width g b ns r l f =
    let s = p.serial in
    let sf = settings_for o s in
    let good = good_for o s g b.good in
    let typed = typed_for o s g b.typed in
    let z = open_yes sf n (length buf) good width (omega (arith, l, f)) in
    let g₀ = opening sf k false n buf in
    let h : Holds k n o g₀ (empty_pair s ∷ []) = opening_holds sf n k typed good width buf false z in
    let ol = opening_length sf n k typed good width buf false z in
    let rs = right_split k n (start_core o) (placed_under sf p.entries) (all_placed o ps) r in
    let j₀ = journal_longer o n [] (p ∷ ps) in
    let j₁ = journal_longer o n [] (p ∷ []) in
    let j₂ = journal_longer o n [] (empty_pair s ∷ []) in
    let np = no_pairs o n in
    let pl = pairs_longer o n p ps in
    let p₁ = pairs_longer o n p [] in
    let p₂ = pairs_longer o n (empty_pair s) [] in
    let ql = pair_long o n p b.typed b.good in
    let el = pair_long o n (empty_pair s) b.typed b.good in
    let a : Redone k n o g₀ (issues_of p.entries) (p ∷ []) =
    again_entries k n o kb p.entries g₀ [] (empty_pair s) h (subst (λ (d : Core). AllRight k n d (placed_under sf p.entries)) (empty_core n o s) rs.0)
    (omega (arith, holds_length k n o g₀ [] (empty_pair s) h, j₀, j₂, np, pl, p₂, ql, el, no_texts sf n, l, ol)) in
    let g₁ = calls g₀ (issues_of p.entries) in
    let c : Redone k n o g₁ (later_calls ps) (p ∷ ps) =
    again_pairs k n o kb ps g₁ [] p a.holds (subst (λ (d : Core). AllRight k n d (all_placed o ps)) (first_core n o p) rs.1) ns
    (omega (arith, holds_length k n o g₁ [] p a.holds, j₀, j₁, np, pl, p₁, l, ol, a.long)) in
    record {
      not_refused_open = z;
      typed_calls =
          issues_typed k n (start_core o) sf p.entries (later_calls ps) rs.0 (later_typed k n o (run_core n (start_core o) (placed_under sf p.entries)) (s ∷ []) ps rs.1 ns);
      redone = redone_append k n o (issues_of p.entries) (later_calls ps) g₀ (p ∷ []) (p ∷ ps) a c;
      first_long = ol;
    }

rewritten : (k : List ℕ) (n : ℕ) (o : Owner) → AllBytes k → (ps : List Pair) (buf : List ℕ) → Work k n o ps → length buf ≡ length (journal_text o n ps) → Rewritten k n o ps buf
rewritten k n o kb ps buf w l = go ps w.some w.names w.right l (head_fits o n ps w.good w.some w.names)
  where
    go : (ps : List Pair) → 0 < length ps → Names [] ps → AllRight k n (start_core o) (all_placed o ps) → length buf ≡ length (journal_text o n ps)
        → head_length (head_of o ps) ≤ length (journal_text o n ps) → Rewritten k n o ps buf
    go [] i ns r l f = absurd (omega arith)
    go (p ∷ ps) i (placing.more b ns) r l f = rewrite_first k n o kb p ps buf w.width w.good b ns r l f

accepted_state : (st : State) → (accepted st).state ≡ st
unfolding accepted
accepted_state st = refl

size_of : (k : List ℕ) (n : ℕ) (o : Owner) (g : Register) (ps : List Pair) → Holds k n o g ps → g.state.length ≡ length (journal_text o n ps)
size_of k n o g ps h = sym (length-take-le g.state.length g.buf h.room) ∙ ap length h.bytes

pub accepted_is_written : AcceptedIsWritten
accepted_is_written j k n kb v buf l =
    let o = v.owner in
    let ps = v.pairs in
    let w = valid_work v in
    let r = rewritten k n o kb ps buf w (l ∙ ap length v.bytes) in
    let g = calls (opening (head_of o ps) k false n buf) (calls_of ps) in
    let h = r.redone.holds in
    let t : (take_over j k n).state ≡ run_pairs (blank o k n) ps = ap (λ (x : TakenOver). x.state) (valid_taken v) ∙ accepted_state (run_pairs (blank o k n) ps) in
    let long : length g.buf ≡ length j = r.redone.long ∙ (r.first_long ∙ l) in
    let sz : g.state.length ≡ length j = size_of k n o g ps h ∙ ap length (sym v.bytes) in
    record {
      opened = r.not_refused_open;
      typed = r.typed_calls;
      none = r.redone.zeros;
      journal = sym (take_all g.state.length g.buf (omega arith)) ∙ (h.bytes ∙ sym v.bytes);
      state = h.state ∙ sym t;
      counter = ap (λ (x : State). x.counter) t ∙ counter_sum k n o ps w;
    }
