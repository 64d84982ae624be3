use Rattle.std.proofs.Common.{rules, w64, SFits}
use Rattle.device.proofs.Reading.{amounts_found}
use Rattle.device.proofs.details.amounts_in.Goals as goal

pub returns : goal.returns
returns c =
    let f₀ : SFits w64 c.counter_at.result = search rules in
    let f₁ : SFits w64 c.counter_at-2.result = search rules in
    let f₂ : SFits w64 c.counter_at-3.result = search rules in
    let f₃ : SFits w64 c.counter_at-4.result = search rules in
    let f₄ : SFits w64 c.counter_at-5.result = search rules in
    amounts_found c.args.b.now f₀ f₁ f₂ f₃ f₄
    c.counter_at.ensures
    c.counter_at-2.ensures
    c.counter_at-3.ensures
    c.counter_at-4.ensures
    c.counter_at-5.ensures
