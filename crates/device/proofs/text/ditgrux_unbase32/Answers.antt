use Rattle.std.proofs.Common.{◌∙◌}
use Rattle.device.proofs.TextAnswers.{decode_is_32}
use Rattle.device.proofs.text.ditgrux_unbase32.Goals as goal

pub returns : goal.returns
returns c =
    let d = c.decoded.ensures in
    let t = c.tell.ensures in
    decode_is_32 _ _ c.base32_decode-read.ensures (t.1 ∙ d.1) (t.0 ∙ d.0)
