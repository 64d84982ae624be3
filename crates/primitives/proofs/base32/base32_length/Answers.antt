-- `base32_length` meets its contract.
use Rattle.std.proofs.Common.{◌∙◌}
use Rattle.primitives.specs.Base32.{encoding32}
use Rattle.primitives.proofs.Base32Laws.{length_encoding32}
use Rattle.primitives.proofs.base32.base32_length.Goals as goal

pub returns : goal.returns
unfolding encoding32
returns c = c.text_length.ensures ∙ length_encoding32 c.args.s.now
