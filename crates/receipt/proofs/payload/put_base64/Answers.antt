-- `payload::put_base64` meets its contract.
use Rattle.std.proofs.Common.{◌∙◌}
use Rattle.primitives.proofs.Over.{placed_room, after_room}
use Rattle.receipt.proofs.payload.put_base64.Goals as goal

pub returns : goal.returns
returns c =
    (c.base64_encode.ensures.0 ∙ after_room _ _ _ c.requires, c.base64_encode.ensures.1 ∙ placed_room _ _ _ c.requires)
