use Rattle.std.proofs.Common.{arith, sym, ◌∙◌, eq-eqb}
use Rattle.exports.proofs.Names.{spelled}
use Rattle.exports.proofs.lexer.spells.Goals as goal

pub returns-then-letters-name : goal.returns-then-letters-name
returns-then-letters-name c =
    rw (eq-eqb _ _ c.if-letters-name.true) (sym ((spelled c.args.letters.now c.args.name.now _ c.requires c.starts_with.ensures.value).1 c.if-starts_with.true c.if-letters-name.true))

pub returns-else-letters-name : goal.returns-else-letters-name
returns-else-letters-name c = sym ((spelled c.args.letters.now c.args.name.now _ c.requires c.starts_with.ensures.value).2 c.if-starts_with.true (omega (arith, c.starts_with.ensures.bound c.if-starts_with.true)))

pub returns-else-starts_with : goal.returns-else-starts_with
returns-else-starts_with c = c.if-starts_with.false ∙ sym ((spelled c.args.letters.now c.args.name.now _ c.requires c.starts_with.ensures.value).0 c.if-starts_with.false)
