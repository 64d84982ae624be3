-- `base64_length` meets its contract: BASE64 follows the rule.
use Rattle.std.proofs.Common.{◌∙◌, ap, sym, length}
use Rattle.primitives.specs.BaseRule.{text_of}
use Rattle.primitives.specs.Base64.{base64}
use Rattle.primitives.proofs.Base64Rule.{encoding_rule}
use Rattle.primitives.proofs.Base64Lengths.{length_encoding}
use Rattle.primitives.proofs.base64.base64_length.Goals as goal

pub returns : goal.returns
returns c =
    c.text_length.ensures
    ∙ ap (λ a. length (text_of (base64 a) c.args.s.now)) c.coding_of.ensures
    ∙ ap length (sym (encoding_rule c.args.alphabet c.args.s.now (record { at = λ i. (c.type_inv.s i).fits })))
    ∙ length_encoding c.args.alphabet c.args.s.now
