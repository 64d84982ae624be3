-- The questions and their numbers determine each other, and so do a result and its answer.
use Rattle.std.proofs.Common.{◌≡◌, ℕ, cond, ◌==◌, sym, refl, ap, ◌∙◌}
use Rattle.std.specs.Prelude.{Option, Some, None, Ok, Err}
use Rattle.primitives.specs.declared.refusal.Refusal.{Refusal}
use Rattle.primitives.specs.declared.refusal.Refusal.TheVariants.{BadCsp, BadId, BadSerial, BadWidth, HeadTooLong, BadState, NumberNotAbove, BadDate, BadAmount, NoStart, CounterFull, BadSignature, NoRoom, BadHead, EntryCut, EntryMisspelled, EntryNumber, EntryNoStart, EntryChain, EntryCounter, BytesLeft, BadForm, OutputShort, BadCode, BadFields, BadLine, BadExport, NoReceipts, SerialUsed, SerialsFull, IdEndsInDigit}
use Rattle.primitives.specs.Refusals.{number_of, NumbersAreNotZero, NumbersDiffer, NumberDeterminesAnswer}
use Rattle.primitives.specs.Answers.{Answer, AnswerDeterminesResult}

-- the question that has a number
abbrev question_of : ℕ → Option Refusal
question_of n =
    cond (n == 1) (Some BadCsp)
    (cond (n == 2) (Some BadId)
    (cond (n == 3) (Some BadSerial)
    (cond (n == 4) (Some BadWidth)
    (cond (n == 5) (Some HeadTooLong)
    (cond (n == 6) (Some BadState)
    (cond (n == 7) (Some NumberNotAbove)
    (cond (n == 8) (Some BadDate)
    (cond (n == 9) (Some BadAmount)
    (cond (n == 10) (Some NoStart)
    (cond (n == 11) (Some CounterFull)
    (cond (n == 12) (Some BadSignature)
    (cond (n == 13) (Some NoRoom)
    (cond (n == 14) (Some BadHead)
    (cond (n == 15) (Some EntryCut)
    (cond (n == 16) (Some EntryMisspelled)
    (cond (n == 17) (Some EntryNumber)
    (cond (n == 18) (Some EntryNoStart)
    (cond (n == 19) (Some EntryChain)
    (cond (n == 20) (Some EntryCounter)
    (cond (n == 21) (Some BytesLeft)
    (cond (n == 22) (Some BadForm)
    (cond (n == 23) (Some OutputShort)
    (cond (n == 24) (Some BadCode)
    (cond (n == 26) (Some BadFields)
    (cond (n == 27) (Some BadLine)
    (cond (n == 28) (Some BadExport)
    (cond (n == 29) (Some NoReceipts)
    (cond (n == 30) (Some SerialUsed)
    (cond (n == 31) (Some SerialsFull)
    (cond (n == 32) (Some IdEndsInDigit) None))))))))))))))))))))))))))))))

found : (r : Refusal) → question_of (number_of r) ≡ Some r
found BadCsp = refl
found BadId = refl
found BadSerial = refl
found BadWidth = refl
found HeadTooLong = refl
found BadState = refl
found NumberNotAbove = refl
found BadDate = refl
found BadAmount = refl
found NoStart = refl
found CounterFull = refl
found BadSignature = refl
found NoRoom = refl
found BadHead = refl
found EntryCut = refl
found EntryMisspelled = refl
found EntryNumber = refl
found EntryNoStart = refl
found EntryChain = refl
found EntryCounter = refl
found BytesLeft = refl
found BadForm = refl
found OutputShort = refl
found BadCode = refl
found BadFields = refl
found BadLine = refl
found BadExport = refl
found NoReceipts = refl
found SerialUsed = refl
found SerialsFull = refl
found IdEndsInDigit = refl

pub numbers_differ : NumbersDiffer
numbers_differ r s e = let q : Some r ≡ Some s = sym (found r) ∙ ap question_of e ∙ found s in cc

pub numbers_are_not_zero : NumbersAreNotZero
numbers_are_not_zero r e = let q : Some r ≡ None = sym (found r) ∙ ap question_of e in cc

pub answer_determines_result : AnswerDeterminesResult
answer_determines_result (Ok a) (Ok b) e = ap Ok (ap (λ (x : Answer). x.length) e)
answer_determines_result (Ok a) (Err s) e = absurd (numbers_are_not_zero s (sym (ap (λ (x : Answer). x.number) e)))
answer_determines_result (Err r) (Ok b) e = absurd (numbers_are_not_zero r (ap (λ (x : Answer). x.number) e))
answer_determines_result (Err r) (Err s) e = ap Err (numbers_differ r s (ap (λ (x : Answer). x.number) e))

pub number_determines_answer : NumberDeterminesAnswer
number_determines_answer (Ok a) (Ok b) e = refl
number_determines_answer (Ok a) (Err s) e = absurd (numbers_are_not_zero s (sym e))
number_determines_answer (Err r) (Ok b) e = absurd (numbers_are_not_zero r e)
number_determines_answer (Err r) (Err s) e = ap Err (numbers_differ r s e)
