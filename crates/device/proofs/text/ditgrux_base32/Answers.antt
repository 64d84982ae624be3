use Rattle.std.proofs.Common.{◌∙◌}
use Rattle.device.proofs.TextAnswers.{encode_is_32}
use Rattle.device.proofs.text.ditgrux_base32.Goals as goal

pub returns : goal.returns
returns c =
    let w = c.written.ensures in
    let t = c.tell.ensures in
    let p = encode_is_32 _ _ c.base32_encode-end.ensures w.0 in
    (t.0 ∙ p.0, p.1, t.1 ∙ w.1 ∙ p.2)
