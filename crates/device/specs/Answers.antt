-- The answers of the calls that name the place where a journal or a text is refused.
use Rattle.std.specs.Prelude.{ℕ, Result, Ok, Err}
use Rattle.primitives.specs.declared.refusal.Refusal.{Refusal}
use Rattle.journal.specs.declared.state.RefusedAt.{RefusedAt}

abbrev pub without_index : {A : Type 0} → Result A RefusedAt → Result A Refusal
without_index (Ok x) = Ok x
without_index (Err r) = Err r.question

abbrev pub index_in : {A : Type 0} → Result A RefusedAt → ℕ
index_in (Ok x) = 0
index_in (Err r) = r.index
