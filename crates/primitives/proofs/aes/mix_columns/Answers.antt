-- `mix_columns`: each column by the callee.
use Rattle.std.proofs.Common.{[], arith}
use Rattle.std.proofs.lemmas.Grind.{common_steps}
use Rattle.primitives.proofs.Columns.{of_four}
use Rattle.primitives.proofs.aes.mix_columns.Goals as goal

pub returns : goal.returns
returns c =
    let m = c.map.ensures.items in
    of_four c.map.result [] m.long (grind (arith, common_steps)) (grind (arith, common_steps)) (grind (arith, common_steps)) (grind (arith, common_steps))
