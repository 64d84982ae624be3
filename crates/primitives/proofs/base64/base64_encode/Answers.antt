-- `base64_encode` meets its contract: BASE64 follows the rule.
use Rattle.std.proofs.Common.{◌≡◌, ◌∙◌, ap, sym}
use Rattle.primitives.specs.Place.{placed, place_after}
use Rattle.primitives.specs.BaseRule.{text_of}
use Rattle.primitives.specs.Base64.{base64, encoding}
use Rattle.primitives.proofs.Base64Rule.{encoding_rule}
use Rattle.primitives.proofs.base64.base64_encode.Goals as goal

pub returns : goal.returns
returns c =
    let e : text_of (base64 c.coding_of.result.digits.alphabet) c.args.s.now ≡ encoding c.args.alphabet c.args.s.now =
    ap (λ a. text_of (base64 a) c.args.s.now) c.coding_of.ensures ∙ sym (encoding_rule c.args.alphabet c.args.s.now (record { at = λ i. (c.type_inv.s i).fits })) in
    (c.encode.ensures.0 ∙ ap (place_after c.args.out.now c.args.at) e, c.encode.ensures.1 ∙ ap (placed c.args.out.now c.args.at) e)
