-- `counter_value` meets its contract: under a valid width all of the bytes are there, and their number is below 256 ^ n.
use Rattle.std.proofs.Common.{◌≡◌, length, sym, ap, ◌∙◌, arith, to_z-of_z, w64, SFits, rules}
use Rattle.primitives.specs.Bytes.{AllBytes}
use Rattle.primitives.specs.Counter.{of_twos}
use Rattle.primitives.proofs.Numbers.{number_found, found_lt}
use Rattle.primitives.proofs.Twos.{width_true, value_wide, value_no_width}
use Rattle.primitives.proofs.CounterCode.{value_none}
use Rattle.primitives.proofs.counter.counter_value.Goals as goal

pub signed-requires : goal.signed-requires
signed-requires c =
    let w = width_true _ (sym c.width_good.ensures ∙ c.if-width_good.true) in
    let p : AllBytes c.args.b = record { at = λ i. search rules } in
    (omega (arith, w.least), (w.most, found_lt p (number_found c.args.b 0 c.args.n (sym c.number_at.ensures ∙ c.in-Some.is))))

pub returns-in-Some : goal.returns-in-Some
returns-in-Some c =
    let v = (number_found c.args.b 0 c.args.n (sym c.number_at.ensures ∙ c.in-Some.is)).is in
    let f : SFits w64 c.signed.result = search rules in
    to_z-of_z f ∙ c.signed.ensures ∙ ap (of_twos c.args.n) v ∙ sym (value_wide _ c.args.b (sym c.width_good.ensures ∙ c.if-width_good.true))

pub returns-in_default : goal.returns-in_default
returns-in_default c = sym (value_no_width _ _ (sym c.width_good.ensures ∙ c.if-width_good.false))

pub returns-in_default-2 : goal.returns-in_default-2
returns-in_default-2 c =
    let eight : length c.args.b ≡ 8 = search rules in
    value_none _ _ eight (sym c.number_at.ensures ∙ c.in_default.is)
