-- Writing into a buffer at a place. A buffer is the list of its bytes.
use Rattle.std.specs.Prelude.{ℕ, ◌+◌, Bool, cond, List, ◌++◌, length, take, drop, nat_le}

-- `xs` with `ys` written over its bytes from the place `at` on
unfoldable pub overwrite : List ℕ → ℕ → List ℕ → List ℕ
overwrite xs at ys = take at xs ++ (ys ++ drop (at + length ys) xs)

-- there is room for `ys` in `xs` from the place `at` on
unfoldable pub room : List ℕ → ℕ → List ℕ → Bool
room xs at ys = nat_le (at + length ys) (length xs)

-- the buffer after a writer: `ys` stands at the place, or nothing was written because there is no room for all of it
unfoldable pub placed : List ℕ → ℕ → List ℕ → List ℕ
placed xs at ys = cond (room xs at ys) (overwrite xs at ys) xs

-- the place after what a writer wrote; the place itself if it wrote nothing
unfoldable pub place_after : List ℕ → ℕ → List ℕ → ℕ
place_after xs at ys = cond (room xs at ys) (at + length ys) at
