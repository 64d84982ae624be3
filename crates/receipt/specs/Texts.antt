-- The fixed characters and texts of a receipt.
use Rattle.std.specs.Prelude.{ℕ, List}
use Prim.Native.Char.{code}
use Rattle.primitives.specs.Text.{ascii}

-- between the fields of a payload, and between payload and signature of a code
abbrev pub separator : ℕ
separator = code "_"

-- between the elements of a compact form
abbrev pub dot : ℕ
dot = code "."

-- the beginning of every payload
unfoldable pub beginning : List ℕ
unfolding ascii
beginning = ascii "_R1-"

-- in the counter field of a cancellation, and of a training receipt
unfoldable pub cancellation_text : List ℕ
unfolding ascii
cancellation_text = ascii "STO"

unfoldable pub training_text : List ℕ
unfolding ascii
training_text = ascii "TRA"
