-- `naming::names_of` meets its contract.
use Rattle.std.proofs.Common.{ℕ, List, ap, sym, ◌∙◌}
use Rattle.std.proofs.Math.Option.{some}
use Rattle.primitives.specs.Base64.{bytes, accepted}
use Rattle.primitives.specs.declared.base64.Alphabet.TheVariants.{UrlSafe}
use Rattle.exports.specs.Naming.{named_by}
use Rattle.exports.specs.Running.{as_named}
use Rattle.exports.proofs.ReceiptDots.{dots_0, dots_1, dots_3, dots_foreign, dots_good}
use Rattle.exports.proofs.naming.names_of.Goals as goal

pub returns-in_err-rest : goal.returns-in_err-rest
returns-in_err-rest c = ap as_named c.from_residual.ensures ∙ dots_0 _ c.in_err-rest.ensures

pub returns-in_err-letters : goal.returns-in_err-letters
returns-in_err-letters c = ap as_named c.from_residual-in_err-letters.ensures ∙ dots_1 _ c.in_ok-rest.ensures c.in_err-letters.ensures

pub returns-then-contains : goal.returns-then-contains
returns-then-contains c = dots_3 _ c.in_ok-rest.ensures c.in_ok-letters.ensures (sym c.if-contains.ensures.value)

pub returns-in_err-new : goal.returns-in_err-new
returns-in_err-new c =
    ap as_named c.from_residual-in_err-new.ensures ∙ dots_foreign _ c.in_ok-rest.ensures c.in_ok-letters.ensures (sym c.if-contains.ensures.value) c.in_err-new.ensures

pub returns : goal.returns
returns c =
    let e = c.in_ok-new.ensures in
    dots_good _ c.in_ok-rest.ensures c.in_ok-letters.ensures (sym c.if-contains.ensures.value) (ap (accepted UrlSafe) (sym e) ∙ c.in_ok-new.field-0.canonical)
    (c.named_by.ensures ∙ ap (λ (l : List ℕ). named_by (some (bytes UrlSafe l))) e)
