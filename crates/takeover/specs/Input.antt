-- What was read of an input.
use Rattle.std.specs.Prelude.{◌≡◌, ℕ, ◌<◌, List, length, take, Option, Some, None, IfSome, ⊤}

-- an input that ended stands whole at the start of the buffer, which has room for more; where no end was seen nothing is said
abbrev pub IsWhole : Option (List ℕ) → List ℕ → Option ℕ → Type 0
IsWhole known buf (Some n) = (n < length buf) × IfSome known (λ xs. xs ≡ take n buf)
IsWhole known buf None = ⊤
