use Rattle.std.proofs.Common.{◌∙◌}
use Rattle.device.proofs.TextAnswers.{decode_is}
use Rattle.device.proofs.text.ditgrux_unbase64.Goals as goal

pub returns : goal.returns
returns c =
    let d = c.decoded.ensures in
    let t = c.tell.ensures in
    decode_is c.args.url c.args.text.now c.args.output.now c.alphabet_of.ensures c.base64_decode-read.ensures (t.1 ∙ d.1) (t.0 ∙ d.0)
