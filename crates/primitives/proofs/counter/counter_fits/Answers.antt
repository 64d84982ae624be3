-- `counter_fits` meets its contract, by the folded number.
use Rattle.std.proofs.Common.{◌∙◌, sym, arith}
use Rattle.primitives.proofs.Zlaws.{same_mag}
use Rattle.primitives.proofs.Twos.{width_true, no_width}
use Rattle.primitives.proofs.CounterCode.{fits_test}
use Rattle.primitives.proofs.counter.counter_fits.Goals as goal

pub half_of-requires : goal.half_of-requires
half_of-requires c = let w = width_true _ (sym c.width_good.ensures ∙ c.if-width_good.true) in (omega (arith, w.least), w.most)

pub returns-then-width_good : goal.returns-then-width_good
returns-then-width_good c = fits_test c.args.n c.args.z (sym c.width_good.ensures ∙ c.if-width_good.true) (same_mag c.ranges.z c.folded.ensures) c.half_of.ensures

pub returns-else-width_good : goal.returns-else-width_good
returns-else-width_good c = c.if-width_good.false ∙ sym (no_width _ _ (sym c.width_good.ensures ∙ c.if-width_good.false))
