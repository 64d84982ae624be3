-- The letters of BASE32: each is compared with the definition.
use Rattle.std.proofs.Common.{refl}
use Rattle.primitives.specs.Base32.{letter32}
use Rattle.primitives.specs.declared.base32.TheConstants.{LETTERS}
use Rattle.primitives.proofs.Base32Laws.{letter_table32}
use Rattle.primitives.proofs.base32.Base32Digits.letter.Goals as goal

pub returns : goal.returns
unfolding letter32
returns c = let t = letter_table32 LETTERS refl tt in t.at c.args.d c.requires
