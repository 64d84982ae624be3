use Rattle.std.proofs.Common.{sym, refl, eq-eqb, ne_eqb, inl, inr}
use Rattle.device.specs.Texts.{written_number}
use Rattle.device.proofs.text.written.Goals as goal

pub returns-then-end-eq0 : goal.returns-then-end-eq0
unfolding written_number
returns-then-end-eq0 c = (rw (ne_eqb _ 0 c.if-n-ne0.true, eq-eqb _ 0 c.if-end-eq0.true), sym c.if-end-eq0.true)

pub returns-else-n-ne0 : goal.returns-else-n-ne0
unfolding written_number
returns-else-n-ne0 c =
    elim c.else-n-ne0.either [
      | inl w ↦ (rw (ne_eqb _ 0 w.0, ne_eqb _ 0 w.1), refl)
      | inr w ↦ (rw w, refl)
    ]
