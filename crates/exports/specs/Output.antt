-- Writing to an output, or measuring what would be written.
use Rattle.std.specs.Prelude.{ℕ, ◌+◌, ◌≤◌, ◌≡◌, Bool, true, cond, List, Option, Some, None, IfSome, leb, length, replicate}
use Rattle.std.specs.Borrow.{GName}
use Rattle.std.specs.Option.{option_and}
use Rattle.primitives.specs.Place.{overwrite}
use Rattle.exports.specs.declared.output.Writer.{Writer}
use Rattle.exports.specs.declared.output.Measure.{Measure}

-- the place n bytes further, if it is in an output of this length
unfoldable pub moved : ℕ → Option ℕ → ℕ → Option ℕ
moved room None n = None
moved room (Some at) n = cond (leb (at + n) room) (Some (at + n)) None

-- the start of an output
abbrev pub start : Option ℕ
start = Some 0

-- an output: the name of the reference to it, its bytes, and the place after what was written or measured so far, if that fits
pub record Out : Type 0 where
  pub lent : GName
  pub bytes : List ℕ
  pub at : Option ℕ

abbrev pub Inside : ℕ → Option ℕ → Type 0
Inside room p = IfSome p (λ at. at ≤ room)

-- the text y goes to an output: if it fits, it is written, unless it is only measured
pub record Puts (writes : Bool) (o o' : Out) (y : List ℕ) : Type 0 where
  pub same : o'.lent ≡ o.lent
  pub long : length o'.bytes ≡ length o.bytes
  pub end : Inside (length o.bytes) o.at → o'.at ≡ moved (length o.bytes) o.at (length y)
  pub done : writes ≡ true → (a b : ℕ) → Inside (length o.bytes) o.at → o.at ≡ Some a → o'.at ≡ Some b → o'.bytes ≡ overwrite o.bytes a y

-- the place of an output moves n bytes further; r is the place before, if these bytes fit
pub record Advanced (n : ℕ) (o o' : Out) (r : Option ℕ) : Type 0 where
  pub moves : o' ≡ record { lent = o.lent; bytes = o.bytes; at = moved (length o.bytes) o.at n }
  pub there : r ≡ option_and o'.at o.at

-- y is written at a place of an output, where it fits; the place after what was written so far stays
pub record PutsAt (p : Option ℕ) (o o' : Out) (y : List ℕ) : Type 0 where
  pub same : o'.lent ≡ o.lent
  pub at : o'.at ≡ o.at
  pub long : length o'.bytes ≡ length o.bytes
  pub done : (a : ℕ) → p ≡ Some a → a + length y ≤ length o.bytes → o'.bytes ≡ overwrite o.bytes a y

-- what the code writes to, and what it only measures
abbrev pub written_out : Writer → Out
written_out w = record { lent = w.out.ghost_name; bytes = w.out.now; at = w.place }

abbrev pub measured_out : Measure → Out
measured_out m = record { lent = 0; bytes = replicate m.room 0; at = m.place }
