-- Demand 3 of the C library: what the journal proves of its registers holds of the bytes of a C program, both ways.
use Rattle.std.proofs.Common.{ℕ, ◌<◌, ◌≡◌, refl, sym, ap, ◌∙◌, subst, Bool, true, false, List, [], ◌∷◌, ◌++◌, map, arith, eqb-true, eqb, ℤ, length, take, replicate}
use Rattle.std.proofs.lemmas.Bool.{eqb-false}
use Rattle.std.proofs.lemmas.List.{length-map}
use Rattle.primitives.specs.Bytes.{AllBytes}
use Rattle.primitives.specs.Counter.{width_good}
use Rattle.primitives.specs.Questions.{ask}
use Rattle.primitives.proofs.Rows.{ask_yes, ifZero-yes}
use Rattle.receipt.specs.Settings.{name_text, serial_good, settings_good, TypedSettings}
use Rattle.receipt.specs.Compact.{spellable, TypedEntry}
use Rattle.receipt.specs.declared.settings.Name.{Name}
use Rattle.receipt.specs.declared.settings.Settings.{Settings}
use Rattle.receipt.specs.declared.settings.Letters.TheVariants.{Id, Serial}
use Rattle.receipt.specs.declared.entry.Entry.{Entry}
use Rattle.receipt.proofs.Names.{good_name, letters_bytes, text_short, name_of_lem, id_own, settings_yes}
use Rattle.receipt.proofs.Entries.{settings_all, admitted}
use Rattle.journal.specs.State.{TypedName, TypedRegister, TypedState, Opened}
use Rattle.journal.specs.declared.state.TakenOver.{TakenOver}
use Rattle.journal.specs.Opening.{open_number}
use Rattle.journal.specs.Checking.{accepted, take_over}
use Rattle.journal.specs.Receipts.{Receipt, receipts_in}
use Rattle.journal.specs.Valid.{Owner, Pair, settings_for, Placed, placed_under, all_placed, entries_in, state_after, Valid, head_of}
use Rattle.journal.specs.Calls.{Call, issue, change, Register, journal_of, opening, calls, numbers_of, receipts_of, Period, periods_from, periods_in, order_of, issues_of, later_calls, calls_of}
use Rattle.journal.specs.Demands.{Written, Again}
use Rattle.journal.specs.declared.state.State.{State}
use Rattle.journal.proofs.Placing.{Core, step_core, RightFor, AllRight, right_split, Names}
use Rattle.journal.proofs.Placing as placing
use Rattle.journal.proofs.Passing.{typed_for, good_for}
use Rattle.journal.proofs.Accepting.{Work, valid_work}
use Rattle.journal.proofs.JournalStates.{state_of_journal}
use Rattle.journal.proofs.AcceptedIsWritten.{order_typed, accepted_is_written}
use Rattle.journal.proofs.WrittenIsAccepted.{accepted_is_valid, written_is_accepted}
use Rattle.device.specs.Layout.{settings_bytes, state_bytes, array_of, settings_of, width_of, key_of, state_of}
use Rattle.device.specs.Details.{date_of, details_with, of_kind, details_of, kind_number}
use Rattle.device.specs.Calls.{settings_from, width_with, settings_answer, settings_buffer, Slices, opened_number, opened_slices, order_in, take_over_answer}
use Rattle.device.specs.Demand as demand
use Rattle.device.specs.Demand.{CallFromC, changing, TypedCallFromC, TypedCallsFromC, call_in, slices_after_all, numbers_from_c, receipts_from_c, periods_from_c, journal_in, AcceptedIsValidInC, StateOfJournalInC, register_in, WrittenInC, WrittenIsAcceptedInC, settings_again, issue_call_of, later_from_c, calls_from_c, AgainInC, AcceptedIsWrittenInC, WritingAndCheckingAgreeInC}
use Rattle.device.proofs.Below.{date_words, opened_number_lem, journal_is, accepted_is, order_details, issues_none, issues_more, later_none, later_more, pairs_none, pairs_more, placed_more, all_more, head_is}
use Rattle.device.proofs.Sizes.{array_whole, width_whole, key_long, good_register, open_answer_lem, kept_all, take_six, take_answer}
use Rattle.device.proofs.Spelling.{settings_are_read, state_is_read}
use Rattle.device.proofs.DetailLaws.{amount_fits, five, kind_same, kind_word}
use Rattle.device.proofs.CallsFromC.{calls_typed, slices_of, open_accepted, opened_same, Same, same_calls, opened_typed}

-- ---- what is accepted

take_over_same : (j key : List ℕ) (n : ℕ) → length key ≡ 32 → take_over_answer j key n 447 ≡ take_over j key n
take_over_same j key n l = take_answer j key n 447 refl ∙ (λ i. take_over j (array_whole 32 key l i) (width_whole key n l i))

pub accepted_is_valid_in_c : AcceptedIsValidInC
accepted_is_valid_in_c j key n size b = (yes, no)
  where
    yes : (take_over_answer j key n size).number ≡ 0 → (size ≡ 447) × (length key ≡ 32) × Valid j key n
    yes z = go (eqb size 447) refl
      where
        go : (t : Bool) → eqb size 447 ≡ t → (size ≡ 447) × (length key ≡ 32) × Valid j key n
        go true e =
            let h = eqb-true size 447 e in
            let a : (take_over j (array_of 32 key) (width_with key n)).number ≡ 0 = sym (ap (λ (x : TakenOver). x.number) (take_answer j key n size h)) ∙ z in
            let v = (accepted_is_valid j (array_of 32 key) (width_with key n) b).0 a in
            let l = key_long key n v.width in
            (h, l, subst (λ (k : List ℕ). Valid j k n) (array_whole 32 key l) (subst (Valid j (array_of 32 key)) (width_whole key n l) v))
        go false e =
            let q : ◌≡◌ {A = ℕ} 0 6 = sym z ∙ ap (λ (x : TakenOver). x.number) (take_six j key n size (eqb-false size 447 e)) in
            absurd (omega arith)

    no : size ≡ 447 → length key ≡ 32 → Valid j key n → (take_over_answer j key n size).number ≡ 0
    no h l v =
        ap (λ (k : ℕ). (take_over_answer j key n k).number) h ∙ ap (λ (x : TakenOver). x.number) (take_over_same j key n l)
        ∙ (accepted_is_valid j key n b).1 v

pub state_of_journal_in_c : StateOfJournalInC
state_of_journal_in_c j key n l v out lo =
    let st = state_after v.owner key n v.pairs in
    let e : take_over_answer j key n (length out) ≡ record { number = 0; index = 0; state = st } =
    ap (take_over_answer j key n) lo ∙ take_over_same j key n l ∙ state_of_journal j key n v ∙ accepted_is st in
    (e, kept_all out (take_over_answer j key n (length out)).state lo ∙ ap (λ (x : TakenOver). state_bytes x.state) e)

-- ---- what is written is accepted

-- what the journal proves, of the bytes of the register
module _ (b : List ℕ) (g : Register) (x : Period) (cs : List Call) (l : length (key_of b) ≡ 32) (t : TypedState (calls g cs).state)
    (w : Written (key_of b) (width_of b) g x cs) where
  same_journal : journal_in (slices_of (calls g cs)) ≡ journal_of (calls g cs)
  unfolding slices_of journal_in
  same_journal = ap (λ (x : State). take x.length (calls g cs).buf) (state_is_read (calls g cs).state t) ∙ sym (journal_is (calls g cs))

  written_same : WrittenInC b (slices_of (calls g cs)) (receipts_of g cs) (periods_from g x cs)
  unfolding slices_of
  written_same =
      let q = state_is_read (calls g cs).state t in
      record {
        taken =
            ap (λ (j : List ℕ). take_over_answer j (key_of b) (width_of b) 447) same_journal ∙ take_over_same (journal_of (calls g cs)) (key_of b) (width_of b) l
            ∙ w.taken
            ∙ ap accepted (sym q)
            ∙ accepted_is (state_of (state_bytes (calls g cs).state));
        state = λ out m. kept_all out (state_of (state_bytes (calls g cs).state)) m ∙ ap state_bytes q;
        valid = subst (λ (j : List ℕ). Valid j (key_of b) (width_of b)) (sym same_journal) w.valid;
        receipts =
            subst (λ (j : List ℕ). (v : Valid j (key_of b) (width_of b)) → receipts_in (entries_in v.pairs) ≡ receipts_of g cs) (sym same_journal) w.receipts;
        periods =
            subst (λ (j : List ℕ). (v : Valid j (key_of b) (width_of b)) → periods_in v.pairs ≡ periods_from g x cs) (sym same_journal) w.periods;
        counter = ap (λ (x : State). x.counter) q ∙ w.counter;
      }

pub written_is_accepted_in_c : WrittenIsAcceptedInC
written_is_accepted_in_c b shared g a l z cs tcs =
    let r = register_in b shared g.journal in
    let t = opened_typed b shared g a z in
    let o = open_accepted b shared g z in
    let x : Period = record { serial = (settings_of b).serial; receipts = [] } in
    let m = same_calls (settings_of b) shared (width_of b) (key_of b) g.journal t.0 t.1 t.2 l o.1 cs tcs in
    let w = written_is_accepted (settings_of b) (key_of b) shared (width_of b) g.journal t.0 t.2 o.1 (map call_in cs) (calls_typed cs tcs) in
    let f = opened_same b shared g o.0 in
    let e : slices_after_all (opened_slices b shared g) cs ≡ slices_of (calls r (map call_in cs)) = ap (λ (y : Slices). slices_after_all y cs) f ∙ m.slices in
    let q : receipts_from_c (opened_slices b shared g) cs ≡ receipts_of r (map call_in cs) = ap (λ (y : Slices). receipts_from_c y cs) f ∙ m.receipts in
    let p : periods_from_c (opened_slices b shared g) x cs ≡ periods_from r x (map call_in cs) = ap (λ (y : Slices). periods_from_c y x cs) f ∙ m.periods x in (
      subst (λ (y : Slices). WrittenInC b y (receipts_from_c (opened_slices b shared g) cs) (periods_from_c (opened_slices b shared g) x cs)) (sym e)
          (subst (λ (y : List Receipt). WrittenInC b (slices_of (calls r (map call_in cs))) y (periods_from_c (opened_slices b shared g) x cs)) (sym q)
          (subst (λ (y : List Period). WrittenInC b (slices_of (calls r (map call_in cs))) (receipts_of r (map call_in cs)) y) (sym p)
          (written_same b r x (map call_in cs) t.1 m.typed w))),
      ap (λ (y : Slices). numbers_from_c y cs) f ∙ m.numbers,
    )

-- ---- the calls of entries and pairs

call_same : (e : Entry) → length e.fields.details.amounts ≡ 5 → call_in (issue_call_of e) ≡ issue (order_of e)
unfolding call_in issue_call_of order_in details_of date_of details_with
call_same e l =
    let d = e.fields.details in
    let p = ap (λ (zs : List ℤ). of_kind d.number d.date zs (kind_number d.kind)) (five d.amounts l) ∙ kind_same d.number d.date d.amounts d.kind in
    λ i. issue (record { details = (p ∙ sym (order_details e)) i; signature = (order_of e).signature })

call_allowed : (s : Settings) (n : ℕ) (e : Entry) → TypedEntry e → spellable s n e ≡ true → TypedCallFromC (issue_call_of e)
unfolding issue_call_of
call_allowed s n e t h =
    let d = e.fields.details in
    let a = admitted s n e h in
    let w = date_words d.date a.date in
    let l = t.fields.amounts in
    demand.issues (record {
      number = t.fields.number;
      year = w.year;
      month = w.month;
      day = w.day;
      hour = w.hour;
      minute = w.minute;
      second = w.second;
      standard = amount_fits d.amounts 0 a.amounts (omega arith);
      reduced1 = amount_fits d.amounts 1 a.amounts (omega arith);
      reduced2 = amount_fits d.amounts 2 a.amounts (omega arith);
      zero = amount_fits d.amounts 3 a.amounts (omega arith);
      special = amount_fits d.amounts 4 a.amounts (omega arith);
      kind = kind_word d.kind;
      signature = (order_typed e t).bytes;
    })

change_allowed : (s : Name) → TypedName s → serial_good s ≡ true → TypedCallFromC (changing (name_text s)) × (call_in (changing (name_text s)) ≡ change s)
unfolding call_in
change_allowed s t good = (
  demand.changes (letters_bytes Serial (name_text s) (good_name Serial s good).letters) (omega (arith, text_short s t.long)),
  ap change (name_of_lem Serial s t.long good),
)

-- C's calls are such as its types allow, and they make the journal's calls
abbrev Makes : List CallFromC → List Call → Type 0
Makes cs ds = TypedCallsFromC cs × (map call_in cs ≡ ds)

first_right : (k : List ℕ) (n : ℕ) (c : Core) (x : Placed) (xs : List Placed) → AllRight k n c (x ∷ xs) → RightFor k n c x × AllRight k n (step_core n c x) xs
first_right k n c x xs (placing.more h hs) = (h, hs)

entries_made : (k : List ℕ) (n : ℕ) (c : Core) (s : Settings) (es : List Entry) (cs : List CallFromC) (ds : List Call) → AllRight k n c (placed_under s es) → Makes cs ds
    → Makes (map issue_call_of es ++ cs) (issues_of es ++ ds)
entries_made k n c s [] cs ds r m = (m.0, m.1 ∙ ap (λ (l : List Call). l ++ ds) (sym issues_none))
entries_made k n c s (e ∷ es) cs ds r m =
    let h = first_right k n c _ (placed_under s es) (subst (AllRight k n c) (placed_more s e es) r) in
    let p = entries_made k n (step_core n c (record { settings = s; entry = e })) s es cs ds h.1 m in (
      demand.more (call_allowed s n e h.0.typed h.0.spelled) p.0,
      (λ i. call_same e h.0.typed.fields.amounts i ∷ p.1 i) ∙ ap (λ (l : List Call). l ++ ds) (sym (issues_more e es)),
    )

-- a pair, and then those after it
pair_made : (k : List ℕ) (n : ℕ) (o : Owner) (c : Core) (p : Pair) (ps : List Pair) → AllRight k n c (all_placed o (p ∷ ps))
    → ((d : Core) → AllRight k n d (all_placed o ps) → Makes (later_from_c ps) (later_calls ps))
    → Makes (map issue_call_of p.entries ++ later_from_c ps) (issues_of p.entries ++ later_calls ps)
pair_made k n o c p ps r f =
    let s = settings_for o p.serial in
    let h = right_split k n c (placed_under s p.entries) (all_placed o ps) (subst (AllRight k n c) (all_more o p ps) r) in
    entries_made k n c s p.entries (later_from_c ps) (later_calls ps) h.0 (f _ h.1)

later_made : (k : List ℕ) (n : ℕ) (o : Owner) (c : Core) (us : List Name) (ps : List Pair) → AllRight k n c (all_placed o ps) → Names us ps
    → Makes (later_from_c ps) (later_calls ps)
unfolding later_from_c
later_made k n o c us [] r ns = (demand.none, sym later_none)
later_made k n o c us (p ∷ ps) r (placing.more b ns) =
    let e = pair_made k n o c p ps r (λ d h. later_made k n o d (us ++ (p.serial ∷ [])) ps h ns) in
    let d = change_allowed p.serial b.typed b.good in
    (demand.more d.0 e.0, (λ i. d.1 i ∷ e.1 i) ∙ sym (later_more p ps))

pairs_made : (k : List ℕ) (n : ℕ) (o : Owner) (c : Core) (us : List Name) (ps : List Pair) → AllRight k n c (all_placed o ps) → Names us ps
    → Makes (calls_from_c ps) (calls_of ps)
unfolding calls_from_c
pairs_made k n o c us [] r ns = (demand.none, sym pairs_none)
pairs_made k n o c us (p ∷ ps) r (placing.more b ns) =
    let e = pair_made k n o c p ps r (λ d h. later_made k n o d (us ++ (p.serial ∷ [])) ps h ns) in
    (e.0, e.1 ∙ sym (pairs_more p ps))

-- the settings of the head
head_good_lem : (k : List ℕ) (n : ℕ) (o : Owner) (ps : List Pair) → Work k n o ps → TypedSettings (head_of o ps) × (settings_good (head_of o ps) ≡ true)
head_good_lem k n o ps w = go ps w.some w.names
  where
    go : (ps : List Pair) → 0 < length ps → Names [] ps → TypedSettings (head_of o ps) × (settings_good (head_of o ps) ≡ true)
    go [] h ns = absurd (omega arith)
    go (p ∷ ps) h (placing.more b ns) =
        subst (λ (s : Settings). TypedSettings s × (settings_good s ≡ true)) (sym (head_is o p ps))
        (typed_for o p.serial w.good b.typed, good_for o p.serial w.good b.good)

-- ---- what is accepted is written

settings_same : (s : Settings) → TypedSettings s → settings_good s ≡ true → settings_again s ≡ s
unfolding settings_from
settings_same s t good =
    let a = settings_all s good in
    let p = array_whole 3 s.csp t.lengths.csp in
    λ i. record { csp = p i; id = name_of_lem Id s.id t.lengths.id a.id i; serial = name_of_lem Serial s.serial t.lengths.serial a.serial i }

answer_zero : (s : Settings) (n : ℕ) → settings_good s ≡ true → width_good n ≡ true → settings_answer s n 123 ≡ 0
unfolding settings_answer
answer_zero s n good width = settings_yes s false n (ask (eqb 123 123) 23 0) good (id_own s.id) width ∙ ask_yes 23 0 refl

module _ {j key : List ℕ} {n : ℕ} (v : Valid j key n) where
  s : Settings
  s = head_of v.owner v.pairs

  s_typed : TypedSettings s
  unfolding s
  s_typed = (head_good_lem key n v.owner v.pairs (valid_work v)).0

  s_good : settings_good s ≡ true
  unfolding s
  s_good = (head_good_lem key n v.owner v.pairs (valid_work v)).1

  cs : List CallFromC
  cs = calls_from_c v.pairs

  made : Makes cs (calls_of v.pairs)
  unfolding cs
  made = let w = valid_work v in pairs_made key n v.owner _ [] v.pairs w.right w.names

  module _ (kb : AllBytes key) (lk : length key ≡ 32) where
    again_typed : TypedRegister s n key
    again_typed = good_register s n key s_typed.lengths s_good v.width lk kb

    again_number : (out : List ℕ) → length out ≡ 123 → settings_answer (settings_again s) (width_with key n) (length out) ≡ 0
    again_number out l =
        let p = settings_same s s_typed s_good in
        (λ i. settings_answer (p i) (width_whole key n lk i) (l i)) ∙ answer_zero s n s_good v.width

    again_bytes : (out : List ℕ) → length out ≡ 123 → settings_buffer (settings_again s) key n out ≡ settings_bytes s n key
    unfolding settings_buffer
    again_bytes out l =
        ifZero-yes (settings_bytes (settings_again s) n key) out (again_number out l)
        ∙ ap (λ (x : Settings). settings_bytes x n key) (settings_same s s_typed s_good)

    module _ (g : Slices) (lj : length j < 18446744073709551616) (lg : length g.journal ≡ length j) (ls : length g.state ≡ 447) where
      b : List ℕ
      b = settings_bytes s n key

      start : Register
      start = opening s key false n g.journal

      -- what the journal proves
      again : Again j key n s v.pairs g.journal
      unfolding s
      again = accepted_is_written j key n kb v g.journal lg

      read : (settings_of b ≡ s) × (width_of b ≡ n) × (key_of b ≡ key)
      unfolding b
      read = settings_are_read s n key again_typed

      again_opened : opened_number b false g ≡ 0
      unfolding opened_number
      again_opened =
          ap (λ (x : Opened). x.number) (open_answer_lem b false (length g.journal) (length g.state) ls)
          ∙ opened_number_lem (settings_of b) (key_of b) false (width_of b) (length g.journal)
          ∙ (λ i. open_number (read.0 i) false (read.1 i) (length g.journal)) ∙ again.opened

      again_start : opened_slices b false g ≡ slices_of start
      unfolding start
      again_start = opened_same b false g ls ∙ (λ i. slices_of (opening (read.0 i) (read.2 i) false (read.1 i) g.journal))

      same : Same start cs
      unfolding start
      same = same_calls s false n key g.journal s_typed lk kb (omega (arith, lg, lj)) again.opened cs made.0

      again_left : slices_after_all (opened_slices b false g) cs ≡ slices_of (calls start (calls_of v.pairs))
      again_left = ap (λ (x : Slices). slices_after_all x cs) again_start ∙ same.slices ∙ ap (λ (x : List Call). slices_of (calls start x)) made.1

      how_many : length (calls_of v.pairs) ≡ length cs
      how_many = sym (ap length made.1) ∙ length-map cs call_in

      written_again : AgainInC j key n v.pairs (opened_slices b false g)
      unfolding slices_of cs start
      written_again =
          let st = (calls start (calls_of v.pairs)).state in
          let t : TypedState st = subst (λ (x : List Call). TypedState (calls start x).state) made.1 same.typed in
          record {
            typed = made.0;
            none =
                ap (λ (x : Slices). numbers_from_c x cs) again_start ∙ same.numbers ∙ ap (numbers_of start) made.1 ∙ again.none
                ∙ ap (λ (m : ℕ). replicate m 0) how_many;
            journal = ap (λ (x : Slices). x.journal) again_left ∙ again.journal;
            state = λ out l.
                ap (λ (x : Slices). x.state) again_left ∙ ap state_bytes again.state
                ∙ sym (kept_all out (take_over_answer j key n 447).state l ∙ ap (λ (x : TakenOver). state_bytes x.state) (take_over_same j key n lk));
            counter =
                ap (λ (x : Slices). (state_of x.state).counter) again_left ∙ ap (λ (x : State). x.counter) (state_is_read st t ∙ again.state)
                ∙ again.counter;
          }

pub accepted_is_written_in_c : AcceptedIsWrittenInC
unfolding b s
accepted_is_written_in_c j key n lj kb lk v out lo g lg ls =
    let e = again_bytes v kb lk out lo in
    let p = subst (λ (x : List ℕ). (opened_number x false g ≡ 0) × AgainInC j key n v.pairs (opened_slices x false g)) (sym e)
    (again_opened v kb lk g lj lg ls, written_again v kb lk g lj lg ls) in
    (again_number v kb lk out lo, p.0, p.1)

pub writing_and_checking_agree_in_c : WritingAndCheckingAgreeInC
writing_and_checking_agree_in_c =
    record { accepted = accepted_is_valid_in_c; state = state_of_journal_in_c; forth = written_is_accepted_in_c; back = accepted_is_written_in_c }
