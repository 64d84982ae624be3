use Rattle.std.proofs.Common.{◌∙◌}
use Rattle.device.proofs.TextAnswers.{encode_is}
use Rattle.device.proofs.text.ditgrux_base64.Goals as goal

pub returns : goal.returns
returns c =
    let w = c.written.ensures in
    let t = c.tell.ensures in
    let p = encode_is c.args.url c.args.«data».now c.args.output.now c.alphabet_of.ensures c.base64_encode-end.ensures w.0 in
    (t.0 ∙ p.0, p.1, t.1 ∙ w.1 ∙ p.2)
