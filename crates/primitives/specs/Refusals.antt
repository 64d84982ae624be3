-- The numbers of the questions, and the number that a call returns.
use Rattle.std.specs.Prelude.{◌≡◌, ◌≢◌, ℕ, Result, Ok, Err, ⊤}
use Rattle.primitives.specs.declared.refusal.Refusal.{Refusal}
use Rattle.primitives.specs.declared.refusal.Refusal.TheVariants.{BadCsp, BadId, BadSerial, BadWidth, HeadTooLong, BadState, NumberNotAbove, BadDate, BadAmount, NoStart, CounterFull, BadSignature, NoRoom, BadHead, EntryCut, EntryMisspelled, EntryNumber, EntryNoStart, EntryChain, EntryCounter, BytesLeft, BadForm, OutputShort, BadCode, BadFields, BadLine, BadExport, NoReceipts, SerialUsed, SerialsFull, IdEndsInDigit}

-- the number of the question that was answered no
abbrev pub number_of : Refusal → ℕ
number_of BadCsp = 1
number_of BadId = 2
number_of BadSerial = 3
number_of BadWidth = 4
number_of HeadTooLong = 5
number_of BadState = 6
number_of NumberNotAbove = 7
number_of BadDate = 8
number_of BadAmount = 9
number_of NoStart = 10
number_of CounterFull = 11
number_of BadSignature = 12
number_of NoRoom = 13
number_of BadHead = 14
number_of EntryCut = 15
number_of EntryMisspelled = 16
number_of EntryNumber = 17
number_of EntryNoStart = 18
number_of EntryChain = 19
number_of EntryCounter = 20
number_of BytesLeft = 21
number_of BadForm = 22
number_of OutputShort = 23
number_of BadCode = 24
number_of BadFields = 26
number_of BadLine = 27
number_of BadExport = 28
number_of NoReceipts = 29
number_of SerialUsed = 30
number_of SerialsFull = 31
number_of IdEndsInDigit = 32

-- the number of an answer: 0, or that of the question answered no
abbrev pub answer_number : {A : Type 0} → Result A Refusal → ℕ
answer_number (Ok a) = 0
answer_number (Err refusal) = number_of refusal

-- ---- laws, proved in proofs/Refusals.antt

-- no question has the number 0, which stands for no refusal
abbrev pub NumbersAreNotZero : Type 0
NumbersAreNotZero = (r : Refusal) → number_of r ≢ 0

-- different questions have different numbers
abbrev pub NumbersDiffer : Type 0
NumbersDiffer = (r s : Refusal) → number_of r ≡ number_of s → r ≡ s

-- where a call answers no more than that, its number says which answer it is
abbrev pub NumberDeterminesAnswer : Type 0
NumberDeterminesAnswer = (a b : Result ⊤ Refusal) → answer_number a ≡ answer_number b → a ≡ b
