-- The numbers of the letters of BASE32: each is compared with the definition.
use Rattle.std.proofs.Common.{refl}
use Rattle.primitives.specs.Base32.{digit32}
use Rattle.primitives.specs.declared.base32.TheConstants.{DIGITS}
use Rattle.primitives.proofs.Base32Laws.{digit_table32}
use Rattle.primitives.proofs.base32.Base32Digits.digit.Goals as goal

pub returns : goal.returns
unfolding digit32
returns c = let t = digit_table32 DIGITS refl tt in t.at c.args.c c.ranges.c.fits
