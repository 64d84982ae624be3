-- `counter_bytes` meets its contract: the low bytes of the bits are the bytes of two's complement.
use Rattle.std.proofs.Common.{sym, ap, ◌∙◌, to_z-of_z, w64, of_z}
use Rattle.primitives.specs.Counter.{counter_fits}
use Rattle.primitives.proofs.Twos.{counter_bytes_none}
use Rattle.primitives.proofs.CounterCode.{put_counter}
use Rattle.primitives.proofs.counter.counter_bytes.Goals as goal

pub returns-then-counter_fits : goal.returns-then-counter_fits
returns-then-counter_fits c =
    let e = to_z-of_z c.ranges.z in
    put_counter _ _ (sym (ap (counter_fits c.args.n) e) ∙ sym c.counter_fits.ensures ∙ c.if-counter_fits.true)
    (c.cast_unsigned.ensures ∙ ap (of_z w64) e) c.put_number.ensures.1

pub returns-else-counter_fits : goal.returns-else-counter_fits
returns-else-counter_fits c =
    sym (counter_bytes_none _ _ (sym (ap (counter_fits c.args.n) (to_z-of_z c.ranges.z)) ∙ sym c.counter_fits.ensures ∙ c.if-counter_fits.false))
