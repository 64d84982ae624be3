-- A text as the list of its bytes: the codes of its characters.
use Rattle.std.specs.Prelude.{ℕ, List, [] as nil, ◌∷◌ as ◌::◌}
use Prim.Native.Char.{code}
use Prim.Native.String.{String, [], ◌∷◌}

unfoldable pub ascii : String → List ℕ
ascii [] = nil
ascii (c ∷ s) = code c :: ascii s
