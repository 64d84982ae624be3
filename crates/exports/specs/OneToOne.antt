-- The code's answers and the records that are stated of them determine each other: each reading tells all answers apart. The proofs are in proofs/OneToOne.antt.
use Rattle.std.specs.Prelude.{ℕ, ◌≡◌, Option, Result}
use Rattle.receipt.specs.declared.settings.Settings.{Settings}
use Rattle.journal.specs.declared.state.RefusedAt.{RefusedAt}
use Rattle.exports.specs.Writing.{as_exported}
use Rattle.exports.specs.Reading.{as_restored}
use Rattle.exports.specs.Running.{as_named}
use Rattle.exports.specs.declared.reading.Restored.{Restored}

abbrev pub ExportedTold : Type 0
ExportedTold = (r s : Result ℕ RefusedAt) → as_exported r ≡ as_exported s → r ≡ s

abbrev pub RestoredTold : Type 0
RestoredTold = (r s : Result Restored RefusedAt) → as_restored r ≡ as_restored s → r ≡ s

abbrev pub NamedTold : Type 0
NamedTold = (r s : Option Settings) → as_named r ≡ as_named s → r ≡ s
