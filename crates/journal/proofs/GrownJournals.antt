-- A register's journal after further calls: the open pair takes entries and other pairs follow it, so that a check goes on from the state before them.
use Rattle.std.proofs.Common.{ℕ, zero, suc, ◌≤◌, ◌≡◌, sym, ap, ◌∙◌, subst, List, [], ◌∷◌, ◌++◌, append_assoc, append-nil, arith, length, length-append}
use Rattle.primitives.specs.Bytes.{AllBytes}
use Rattle.primitives.specs.Questions.{ifZero}
use Rattle.primitives.specs.declared.base64.Alphabet.TheVariants.{UrlSafe}
use Rattle.primitives.proofs.ByteLists.{bytes_nil, bytes_cons, bytes_append, bytes_take}
use Rattle.primitives.proofs.Numbers.{bytes_bytes_of}
use Rattle.primitives.proofs.Base64Laws.{encoding_bytes}
use Rattle.receipt.specs.Amount.{amount_limit}
use Rattle.receipt.specs.Settings.{name_text}
use Rattle.receipt.specs.Texts.{dot}
use Rattle.receipt.specs.Form.{Parts, signed_form}
use Rattle.receipt.specs.Compact.{compact}
use Rattle.receipt.specs.declared.settings.Name.{Name}
use Rattle.receipt.specs.declared.settings.Settings.{Settings}
use Rattle.receipt.specs.declared.details.Details.{Details}
use Rattle.receipt.specs.declared.entry.Entry.{Entry}
use Rattle.journal.specs.Head.{section, entry_text, pair_start}
use Rattle.journal.specs.State.{TypedName}
use Rattle.journal.specs.Checking.{accepted, take_over}
use Rattle.journal.specs.Parts.{checks_after, total}
use Rattle.journal.specs.Valid.{Owner, Pair, settings_for, texts, pair_text, pair_texts, owner_text, journal_text, serials_of, GoodOwner, state_after}
use Rattle.journal.specs.Calls.{Call, issue, issue_list, change, TypedCalls, failed_order, Register, journal_of, opening, number_of, call, calls}
use Rattle.journal.specs.Lists.{single_call}
use Rattle.journal.specs.PartLaws.{SameAnswer, RegisterGoesOn}
use Rattle.journal.specs.declared.state.State.{State}
use Rattle.journal.proofs.Placing.{Begun, Names, names_split}
use Rattle.journal.proofs.Placing as placing
use Rattle.journal.proofs.Passing.{pair_split}
use Rattle.journal.proofs.Accepting.{Work, owner_in}
use Rattle.journal.proofs.AcceptedIsWritten.{calls_append}
use Rattle.journal.proofs.OpenCalls.{open_zero}
use Rattle.journal.proofs.Pairs.{texts_append, pairs_append, wider, empty_pair}
use Rattle.journal.proofs.Lists.{single_number}
use Rattle.journal.proofs.Registers.{Holds, entry_in, widened, pairs_from, holds_calls, opening_holds}
use Rattle.journal.proofs.FarPairs.{Far, so_far_of}
use Rattle.journal.proofs.JournalStates.{last_of_lem, state_is}
use Rattle.journal.proofs.WrittenIsAccepted.{journal_held, held_taken}
use Rattle.journal.proofs.PartPlaces.{same_accepted, grown_journal_goes_on}

-- ---- pairs that grow

-- a pair with further entries
abbrev longer : Pair → List Entry → Pair
longer p es = record { serial = p.serial; entries = p.entries ++ es }

-- these pairs begin with p and further entries
record Grows (p : Pair) (qs : List Pair) : Type 0 where
  further : List Entry
  later : List Pair
  is : qs ≡ longer p further ∷ later

same_longer : (p : Pair) → p ≡ longer p []
same_longer p = λ i. record { serial = p.serial; entries = sym (append-nil p.entries) i }

longer_twice : (p : Pair) (es fs : List Entry) → longer (longer p es) fs ≡ longer p (es ++ fs)
longer_twice p es fs = λ i. record { serial = p.serial; entries = append_assoc p.entries es fs i }

grows_first : (p : Pair) (qs : List Pair) → Grows p (p ∷ qs)
grows_first p qs = record { further = []; later = qs; is = ap (λ (x : Pair). x ∷ qs) (same_longer p) }

-- a pair that was longer already
grows_longer : (p : Pair) (es : List Entry) {qs : List Pair} → Grows (longer p es) qs → Grows p qs
grows_longer p es g =
    record { further = es ++ g.further; later = g.later; is = g.is ∙ ap (λ (x : Pair). x ∷ g.later) (longer_twice p es g.further) }

-- ---- by calls

-- a list of receipts makes the open pair longer
grows_widened : (ds : List Details) (g : Register) (p : Pair) {qs : List Pair} → Grows (widened g p ds) qs → Grows p qs
unfolding widened ifZero
grows_widened [] g p x = x
grows_widened (d ∷ ds) g p {qs} x = go (single_number amount_limit g d) (grows_widened ds (call g (single_call d)) (wider p (entry_in g (failed_order d)))) x
  where
    go : (m : ℕ) → (Grows (widened (call g (single_call d)) (wider p (entry_in g (failed_order d))) ds) qs → Grows (wider p (entry_in g (failed_order d))) qs)
        → Grows (ifZero m (widened (call g (single_call d)) (wider p (entry_in g (failed_order d))) ds) p) qs → Grows p qs
    go zero f y = grows_longer p (entry_in g (failed_order d) ∷ []) (f y)
    go (suc m) f y = y

pairs_grow : (cs : List Call) (g : Register) (p : Pair) → Grows p (pairs_from g p cs)
unfolding pairs_from ifZero
pairs_grow [] g p = grows_first p []
pairs_grow (issue c ∷ cs) g p = go (number_of g (issue c)) (pairs_grow cs (call g (issue c)) p) (pairs_grow cs (call g (issue c)) (wider p (entry_in g c)))
  where
    go : (m : ℕ) → Grows p (pairs_from (call g (issue c)) p cs) → Grows (wider p (entry_in g c)) (pairs_from (call g (issue c)) (wider p (entry_in g c)) cs)
        → Grows p (ifZero m (pairs_from (call g (issue c)) (wider p (entry_in g c)) cs) (pairs_from (call g (issue c)) p cs))
    go zero x y = grows_longer p (entry_in g c ∷ []) y
    go (suc m) x y = x
pairs_grow (issue_list ds ∷ cs) g p = grows_widened ds g p (pairs_grow cs (call g (issue_list ds)) (widened g p ds))
pairs_grow (change s ∷ cs) g p = go (number_of g (change s)) (pairs_grow cs (call g (change s)) p)
  where
    go : (m : ℕ) → Grows p (pairs_from (call g (change s)) p cs)
        → Grows p (ifZero m (p ∷ pairs_from (call g (change s)) (empty_pair s) cs) (pairs_from (call g (change s)) p cs))
    go zero x = grows_first p (pairs_from (call g (change s)) (empty_pair s) cs)
    go (suc m) x = x

-- ---- a journal is bytes

form_bytes : (p : Parts) → AllBytes (signed_form p)
unfolding signed_form
form_bytes p =
    let d : AllBytes (dot ∷ []) = bytes_cons (omega arith) bytes_nil in
    bytes_append (bytes_append (bytes_append (bytes_append (encoding_bytes UrlSafe _) d) (encoding_bytes UrlSafe p.payload)) d) (encoding_bytes UrlSafe p.signature)

entry_bytes : (s : Settings) (n : ℕ) (e : Entry) → AllBytes (entry_text (compact s n e))
unfolding entry_text compact
entry_bytes s n e = bytes_append (bytes_bytes_of 2 _) (form_bytes _)

texts_bytes : (s : Settings) (n : ℕ) (es : List Entry) → AllBytes (texts s n es)
unfolding texts
texts_bytes s n [] = bytes_nil
texts_bytes s n (e ∷ es) = bytes_append (entry_bytes s n e) (texts_bytes s n es)

section_bytes : {t : List ℕ} → AllBytes t → AllBytes (section t)
unfolding section
section_bytes {t} b = bytes_append (bytes_bytes_of 4 (length t)) b

name_section : (s : Name) → TypedName s → AllBytes (section (name_text s))
unfolding name_text
name_section s t = section_bytes (bytes_take s.len t.bytes)

pair_bytes : (o : Owner) (n : ℕ) (p : Pair) → TypedName p.serial → AllBytes (pair_text o n p)
unfolding pair_text pair_start
pair_bytes o n p t =
    bytes_append (bytes_append (name_section p.serial t) (bytes_bytes_of 4 (length p.entries))) (texts_bytes (settings_for o p.serial) n p.entries)

pairs_bytes : (o : Owner) (n : ℕ) (us : List Name) (ps : List Pair) → Names us ps → AllBytes (pair_texts o n ps)
unfolding pair_texts
pairs_bytes o n us [] placing.none = bytes_nil
pairs_bytes o n us (p ∷ ps) (placing.more b ns) = bytes_append (pair_bytes o n p b.typed) (pairs_bytes o n (us ++ (p.serial ∷ [])) ps ns)

owner_bytes : (o : Owner) → GoodOwner o → AllBytes (owner_text o)
unfolding owner_text
owner_bytes o g = bytes_append (section_bytes g.csp_bytes) (name_section o.id g.typed_id)

pub work_bytes : (k : List ℕ) (n : ℕ) (o : Owner) (ps : List Pair) → Work k n o ps → AllBytes (journal_text o n ps)
unfolding journal_text
work_bytes k n o ps w = bytes_append (owner_bytes o w.good) (pairs_bytes o n [] ps w.names)

-- ---- the pairs of before, within the journal that has grown

first_begun : (us : List Name) (p : Pair) (ps : List Pair) → Names us (p ∷ ps) → Begun us p
first_begun us p ps (placing.more b ns) = b

module _ (o : Owner) (n : ℕ) (ps : List Pair) (p : Pair) (es : List Entry) (later : List Pair) where
  -- what follows the entries of before
  abbrev rest : List ℕ
  rest = texts (settings_for o p.serial) n es ++ pair_texts o n later

  first_text : pair_texts o n (longer p es ∷ later) ≡ pair_start p.serial (length (p.entries ++ es)) ++ (texts (settings_for o p.serial) n p.entries ++ rest)
  unfolding pair_texts
  first_text =
      let t = pair_texts o n later in
      let a = texts (settings_for o p.serial) n p.entries in
      let b = texts (settings_for o p.serial) n es in
      pair_split o n (longer p es) t
      ∙ ap (λ (l : List ℕ). pair_start p.serial (length (p.entries ++ es)) ++ l)
      (ap (λ (l : List ℕ). l ++ t) (texts_append (settings_for o p.serial) n p.entries es) ∙ append_assoc a b t)

  grown_text : journal_text o n (ps ++ (longer p es ∷ later))
      ≡ owner_text o ++ (pair_texts o n ps ++ (pair_start p.serial (length (p.entries ++ es)) ++ (texts (settings_for o p.serial) n p.entries ++ rest)))
  unfolding journal_text
  grown_text =
      ap (λ (l : List ℕ). owner_text o ++ l) (pairs_append o n ps (longer p es ∷ later) ∙ ap (λ (l : List ℕ). pair_texts o n ps ++ l) first_text)

  far_grown : {j k : List ℕ} → Work k n o (ps ++ (p ∷ [])) → Work k n o (ps ++ (longer p es ∷ later)) → j ≡ journal_text o n (ps ++ (longer p es ∷ later))
      → Far j k n o ps p (length (p.entries ++ es)) rest
  far_grown w v e =
      record {
        work = w;
        few = (first_begun (serials_of ps) (longer p es) later (names_split [] ps (longer p es ∷ later) v.names).1).few;
        within = omega (arith, length-append p.entries es);
        bytes = e ∙ grown_text;
      }

-- ---- a register goes on

module _ (k : List ℕ) (n : ℕ) (o : Owner) (g x : Register) (ps : List Pair) (p : Pair) (h : Holds k n o g (ps ++ (p ∷ []))) where
  -- to a register that holds the same pairs and more
  same_on : (qs : List Pair) → Grows p qs → Holds k n o x (ps ++ qs) → (counts : List ℕ) → length (journal_of x) ≤ total counts
      → SameAnswer (checks_after (accepted (state_after o k n (ps ++ (p ∷ [])))) (journal_of x) counts) (take_over (journal_of x) k n)
  same_on qs gr hx counts l =
      let rs = ps ++ (longer p gr.further ∷ gr.later) in
      let e : ps ++ qs ≡ rs = ap (λ (y : List Pair). ps ++ y) gr.is in
      let i : Holds k n o x rs = subst (Holds k n o x) e hx in
      let j : journal_of x ≡ journal_text o n rs = journal_held k n o x rs i in
      let f = far_grown o n ps p gr.further gr.later h.work i.work j in
      grown_journal_goes_on (journal_of x) k n o ps p (length (p.entries ++ gr.further)) (rest o n ps p gr.further gr.later)
      (subst AllBytes (sym j) (work_bytes k n o rs i.work)) (so_far_of f) counts l

  goes_on : (qs : List Pair) → Grows p qs → Holds k n o x (ps ++ qs) → (counts : List ℕ) → length (journal_of x) ≤ total counts
      → checks_after (accepted g.state) (journal_of x) counts ≡ accepted x.state
  goes_on qs gr hx counts l =
      let a : g.state ≡ state_after o k n (ps ++ (p ∷ [])) = h.state ∙ state_is k n o (ps ++ (p ∷ [])) h.work in
      let b = held_taken k n o x (ps ++ qs) hx in
      let s = subst (λ (t : State). SameAnswer (checks_after (accepted t) (journal_of x) counts) (take_over (journal_of x) k n)) (sym a) (same_on qs gr hx counts l) in
      same_accepted (checks_after (accepted g.state) (journal_of x) counts) x.state
      (subst (SameAnswer (checks_after (accepted g.state) (journal_of x) counts)) b s)

-- a register that holds pairs, after further calls
pub holds_on : (k : List ℕ) (n : ℕ) (o : Owner) → AllBytes k → (g : Register) (ps : List Pair) (p : Pair) → Holds k n o g (ps ++ (p ∷ [])) → (ds : List Call) → TypedCalls ds
    → (counts : List ℕ) → length (journal_of (calls g ds)) ≤ total counts → checks_after (accepted g.state) (journal_of (calls g ds)) counts ≡ accepted (calls g ds).state
holds_on k n o kb g ps p h ds tds counts l =
    goes_on k n o g (calls g ds) ps p h (pairs_from g p ds) (pairs_grow ds g p) (holds_calls k n o kb ds g ps p tds h) counts l

pub register_goes_on : RegisterGoesOn
register_goes_on s key shared n buf ts kb z cs ds tcs tds counts l =
    let a = open_zero s shared n (length buf) z in
    let o = owner_in s in
    let g = opening s key shared n buf in
    let p = empty_pair s.serial in
    let h = holds_calls key n o kb cs g [] p tcs (opening_holds s n key ts a.0 a.1 buf shared z) in
    let gr = pairs_grow cs g p in
    let x = last_of_lem (longer p gr.further) gr.later in
    let i : Holds key n o (calls g cs) (x.before ++ (x.last ∷ [])) = subst (Holds key n o (calls g cs)) (gr.is ∙ x.is) h in
    let e : calls (calls g cs) ds ≡ calls g (cs ++ ds) = sym (calls_append cs ds g) in
    let m : length (journal_of (calls (calls g cs) ds)) ≤ total counts = subst (λ (r : Register). length (journal_of r) ≤ total counts) (sym e) l in
    subst (λ (r : Register). checks_after (accepted (calls g cs).state) (journal_of r) counts ≡ accepted r.state) e
    (holds_on key n o kb (calls g cs) x.before x.last i ds tds counts m)
