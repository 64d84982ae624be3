-- What the private readers of compact form and code promise their callers. Only their contracts use this, not the definitions of the calls.
use Rattle.std.specs.Prelude.{ℕ, cond, Option, Some, None, List, leb, length}
use Rattle.std.proofs.Math.Option.{Option as Maybe, none, some}
use Rattle.receipt.specs.declared.form.Parts.{Parts as Lent}
use Rattle.receipt.specs.Form.{Parts, parts}

-- what a function returns, as the definitions say it
abbrev pub as_maybe : {A B : Type 0} → (A → B) → Option A → Maybe B
as_maybe f None = none
as_maybe f (Some a) = some (f a)

-- the bytes of a text that is read into a buffer: none if the text is refused or they do not fit
abbrev pub fitting : ℕ → Maybe (List ℕ) → Maybe (List ℕ)
fitting most none = none
fitting most (some ys) = cond (leb (length ys) most) (some ys) none

-- the parts that a reader lends
abbrev pub as_parts : Lent → Parts
as_parts p = parts p.payload.now p.signature.now
