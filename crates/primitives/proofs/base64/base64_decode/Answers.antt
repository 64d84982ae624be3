-- `base64_decode` meets its contract: BASE64 follows the rule.
use Rattle.std.proofs.Common.{◌≡◌, ◌∙◌, ap, sym}
use Rattle.primitives.specs.BaseRule.{read_text}
use Rattle.primitives.specs.Base64.{base64, decoding, answer_of, buffer_of}
use Rattle.primitives.proofs.Base64Rule.{decoding_rule}
use Rattle.primitives.proofs.base64.base64_decode.Goals as goal

pub returns : goal.returns
returns c =
    let e : read_text (base64 c.coding_of.result.digits.alphabet) c.args.s.now ≡ decoding c.args.alphabet c.args.s.now =
    ap (λ a. read_text (base64 a) c.args.s.now) c.coding_of.ensures ∙ sym (decoding_rule c.args.alphabet c.args.s.now (record { at = λ i. (c.type_inv.s i).fits })) in
    (c.decode.ensures.0 ∙ ap (λ o. answer_of o c.args.out.now c.args.at) e, c.decode.ensures.1 ∙ ap (λ o. buffer_of o c.args.out.now c.args.at) e)
