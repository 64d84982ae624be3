-- What must hold of a check in parts, as statements; the proofs are in proofs/.
use Rattle.std.specs.Prelude.{ℕ, suc, ◌+◌, ◌≤◌, ◌<◌, ◌≡◌, Bool, true, false, cond, List, [], ◌∷◌, ◌++◌, length, drop, replicate}
use Rattle.primitives.specs.Bytes.{AllBytes}
use Rattle.primitives.specs.Counter.{width_good}
use Rattle.primitives.specs.Number.{count_at}
use Rattle.primitives.specs.Aes.{key_schedule}
use Rattle.receipt.specs.Settings.{TypedSettings}
use Rattle.receipt.specs.declared.settings.Settings.{Settings}
use Rattle.journal.specs.Head.{start_there}
use Rattle.journal.specs.State.{count_place_now}
use Rattle.journal.specs.declared.state.TakenOver.{TakenOver}
use Rattle.journal.specs.Step.{fresh}
use Rattle.journal.specs.Opening.{open_number, opened}
use Rattle.journal.specs.Checking.{full, refused, accepted, check_head, take_over, step_checked}
use Rattle.journal.specs.Parts.{ready, handed_back, check_steps, checks_after, check_in_parts, total}
use Rattle.journal.specs.Valid.{Owner, Pair, entries_in, state_after, Valid}
use Rattle.journal.specs.FirstNo.{Headed, SoFar}
use Rattle.journal.specs.Calls.{Call, TypedCalls, journal_of, opening, calls}
use Rattle.journal.specs.declared.state.State.{State}

-- ---- the whole journal

-- "the state, or the number and index"
pub record SameAnswer (a b : TakenOver) : Type 0 where
  pub number : a.number ≡ b.number
  pub index : a.index ≡ b.index
  pub state : b.number ≡ 0 → a.state ≡ b.state

-- "For every list of step counts, zeros among them, whose sum is at least the journal's length in bytes, the first call and these checks, all on the same
-- journal and each from the state before it, up to the first refusal, give the state, or the number and index, that Take over gives."
abbrev pub StepsAreTakeOver : Type 0
StepsAreTakeOver =
    (j key : List ℕ) (n : ℕ) → AllBytes j → (counts : List ℕ) → length j ≤ total counts → SameAnswer (check_in_parts j key n counts) (take_over j key n)

-- a refusal is Take over's, however few the steps
abbrev pub RefusalIsTakeOvers : Type 0
RefusalIsTakeOvers =
    (j key : List ℕ) (n : ℕ) → AllBytes j → (counts : List ℕ) → ((check_in_parts j key n counts).number ≡ 0 → ⊥)
    → SameAnswer (check_in_parts j key n counts) (take_over j key n)

-- the end is seen sooner: a check of one step or more that is not refused and leaves the journal length as it was says that the journal is accepted
abbrev pub EndIsSeen : Type 0
EndIsSeen =
    (j key : List ℕ) (n : ℕ) → AllBytes j → (counts : List ℕ) (st : State) → check_in_parts j key n counts ≡ accepted st → (m : ℕ)
    → (check_steps st j (suc m)).number ≡ 0 → (check_steps st j (suc m)).state.length ≡ st.length → take_over j key n ≡ accepted st

-- ---- the first call

-- "A first call reads the head alone and answers 4, 14 or the fresh state."
pub record HeadAlone (j key : List ℕ) (n : ℕ) : Type 0 where
  pub width : (width_good n ≡ true → ⊥) → check_head j key n ≡ refused 4 0
  pub none : width_good n ≡ true → ((s : Settings) (k : ℕ) (more : List ℕ) → Headed j s k more → ⊥) → check_head j key n ≡ refused 14 0
  -- whatever the count and the bytes after the head
  pub good : width_good n ≡ true → (s : Settings) (k : ℕ) (more : List ℕ) → Headed j s k more → check_head j key n ≡ accepted (fresh s n key)

abbrev pub HeadIsReadAlone : Type 0
HeadIsReadAlone = (j key : List ℕ) (n : ℕ) → AllBytes j → HeadAlone j key n

-- the fresh state is that of an Open that is not refused, marked for a shared key or not
abbrev pub FreshIsOpened : Type 0
FreshIsOpened =
    (j key : List ℕ) (n : ℕ) → AllBytes j → (s : Settings) (k : ℕ) (more : List ℕ) → Headed j s k more → (shared : Bool) (room : ℕ)
    → open_number s shared n room ≡ 0 → check_head j key n ≡ accepted (opened s key shared n room).state

-- ---- a check

-- "A step is an entry or a certificate change": where every answer was yes up to the entries of a pair, as many steps as there are entries and changes up
-- to there give the state of those pairs, whatever follows
abbrev pub StateAfterSteps : Type 0
StateAfterSteps =
    (j key : List ℕ) (n : ℕ) (o : Owner) (ps : List Pair) (p : Pair) (k : ℕ) (rest : List ℕ) → AllBytes j → SoFar j key n o ps p k rest → (counts : List ℕ)
    → total counts ≡ length (entries_in (ps ++ (p ∷ []))) + length ps → check_in_parts j key n counts ≡ accepted (state_after o key n (ps ++ (p ∷ [])))

-- every answer was yes up to a place that so many steps reach, or to the end of the journal, and this is the state there
pub record GoodSoFar (j key : List ℕ) (n count : ℕ) (st : State) : Type 0 where
  pub owner : Owner
  pub pairs : List Pair
  pub last : Pair
  -- the journal's count in the last pair, and what follows its entries
  pub counted : ℕ
  pub rest : List ℕ
  pub so_far_lem : SoFar j key n owner pairs last counted rest
  pub state : st ≡ state_after owner key n (pairs ++ (last ∷ []))
  pub taken : length (entries_in (pairs ++ (last ∷ []))) + length pairs ≤ count
  pub ended : length (entries_in (pairs ++ (last ∷ []))) + length pairs < count → (rest ≡ []) × (counted ≡ length last.entries)

-- and no other state comes of checks that are not refused
abbrev pub PassedIsGood : Type 0
PassedIsGood =
    (j key : List ℕ) (n : ℕ) → AllBytes j → (counts : List ℕ) (st : State) → check_in_parts j key n counts ≡ accepted st → GoodSoFar j key n (total counts) st

-- the step of a check is the step for other readers, which asks less in 6: it does not compare the counts
abbrev pub OneStepIsCheckStep : Type 0
OneStepIsCheckStep =
    (st : State) (j : List ℕ) → ready st j ≡ true
    → ((check_steps st j 1).number ≡ (step_checked (key_schedule st.key) st j).number) × ((check_steps st j 1).state ≡ (step_checked (key_schedule st.key) st j).state)

-- from any state on, checks one after the other answer what one check of all their steps answers
abbrev pub ChecksAdd : Type 0
ChecksAdd =
    (st : State) (j : List ℕ) (count : ℕ) (counts : List ℕ) → SameAnswer (checks_after (check_steps st j count) j counts) (check_steps st j (count + total counts))

-- "a check of no steps only asks 6"
abbrev pub NoStepsAskSix : Type 0
NoStepsAskSix = (st : State) (j : List ℕ) → check_steps st j 0 ≡ cond (ready st j) (accepted st) (handed_back 6 0 st)

-- "A state that isn't sound for the journal as its buffer, or has more receipts in the open section than the journal's count there, gets 6." No step does
abbrev pub SixIsNotReady : Type 0
SixIsNotReady =
    (st : State) (j : List ℕ) (count : ℕ)
    → ((check_steps st j count).number ≡ 6 → ready st j ≡ false) × (ready st j ≡ false → check_steps st j count ≡ handed_back 6 0 st)

-- a check that is not refused ends with a state that the next check on the same journal takes
abbrev pub CheckedIsReady : Type 0
CheckedIsReady = (st : State) (j : List ℕ) (count : ℕ) → (check_steps st j count).number ≡ 0 → ready (check_steps st j count).state j ≡ true

-- "behind the last one a step only asks 21"
pub record AfterTheLast (st : State) (j : List ℕ) : Type 0 where
  pub none_left : length j ≤ st.length → (count : ℕ) → check_steps st j count ≡ accepted st
  pub bytes_left : st.length < length j → start_there j st.length ≡ false → (count : ℕ) → check_steps st j (suc count) ≡ handed_back 21 st.issued st

abbrev pub OnlyAsks21 : Type 0
OnlyAsks21 = (st : State) (j : List ℕ) → ready st j ≡ true → full st j ≡ true → AfterTheLast st j

-- "reads the journal behind its length": of what stands before it, the answer depends on the open section's count alone
abbrev pub ReadsNoOther : Type 0
ReadsNoOther =
    (st : State) (j i : List ℕ) (count : ℕ) → length j ≡ length i → drop st.length j ≡ drop st.length i
    → count_at j (count_place_now st) 4 ≡ count_at i (count_place_now st) 4 → check_steps st j count ≡ check_steps st i count

-- ---- month by month

-- the state of the entries up to a place is one to go on from in every journal whose answers are yes up to there: one that has grown, with a higher count in
-- its open section and more after it
abbrev pub GrownJournalGoesOn : Type 0
GrownJournalGoesOn =
    (grown key : List ℕ) (n : ℕ) (o : Owner) (ps : List Pair) (p : Pair) (k : ℕ) (rest : List ℕ) → AllBytes grown → SoFar grown key n o ps p k rest
    → (counts : List ℕ) → length grown ≤ total counts
    → SameAnswer (checks_after (accepted (state_after o key n (ps ++ (p ∷ [])))) grown counts) (take_over grown key n)

-- the same of a register: its state after some calls is one to go on from in the journal that further calls leave
abbrev pub RegisterGoesOn : Type 0
RegisterGoesOn =
    (s : Settings) (key : List ℕ) (shared : Bool) (n : ℕ) (buf : List ℕ) → TypedSettings s → AllBytes key → open_number s shared n (length buf) ≡ 0
    → (cs ds : List Call) → TypedCalls cs → TypedCalls ds → (counts : List ℕ)
    → length (journal_of (calls (opening s key shared n buf) (cs ++ ds))) ≤ total counts
    → checks_after (accepted (calls (opening s key shared n buf) cs).state) (journal_of (calls (opening s key shared n buf) (cs ++ ds))) counts
    ≡ accepted (calls (opening s key shared n buf) (cs ++ ds)).state

-- ---- a lost state, a lost length

-- zeros after a journal, and the bytes of erased flash, start no pair
abbrev pub ErasedStartsNoPair : Type 0
ErasedStartsNoPair =
    (j : List ℕ) (m : ℕ) → (start_there (j ++ replicate m 0) (length j) ≡ false) × (start_there (j ++ replicate m 255) (length j) ≡ false)

-- Over a buffer that begins with a valid journal, and whose rest starts no pair, checks of one step each end with the state of the journal: with 0 if
-- nothing follows, else with 21 and all receipts as the index. Other checks may come before them
abbrev pub LostStateIsFound : Type 0
LostStateIsFound =
    (j key : List ℕ) (n : ℕ) → Valid j key n → (rest : List ℕ) → AllBytes (j ++ rest) → start_there (j ++ rest) (length j) ≡ false → (counts : List ℕ)
    → (check_in_parts (j ++ rest) key n counts).number ≡ 0 → (m : ℕ) → length j ≤ m
    → (rest ≡ [] → check_in_parts (j ++ rest) key n (counts ++ replicate m 1) ≡ take_over j key n)
    × ((rest ≡ [] → ⊥) → check_in_parts (j ++ rest) key n (counts ++ replicate m 1)
    ≡ handed_back 21 (take_over j key n).state.issued (take_over j key n).state)
