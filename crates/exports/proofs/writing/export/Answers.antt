-- `writing::export` meets its contract.
use Rattle.std.proofs.Common.{ap, sym, not, refl, rules}
use Rattle.std.proofs.lemmas.Result.{err_from_is_err_and}
use Rattle.exports.specs.Output.{Out}
use Rattle.exports.proofs.Putting.{measure_begins}
use Rattle.exports.proofs.ExportAnswers.{export_refused, export_other, export_full, export_written}
use Rattle.exports.proofs.writing.export.Goals as goal

pub returns-in_err-state : goal.returns-in_err-state
returns-in_err-state c =
    let p = err_from_is_err_and c.from_residual.result c.from_residual.ensures.1 in
    rw (p.1, p.2) (export_refused _ _ _ _ _ _ c.in_err-state.ensures)

pub returns-then-not-groups_there : goal.returns-then-not-groups_there
returns-then-not-groups_there c =
    export_other _ _ _ _ _ c.in_ok-state.ensures refl (record { at = λ i. (c.type_inv.j i).fits }) c.used_count-k.ensures c.groups_there.ensures (ap not c.if-not-groups_there.true) c.refused.ensures

pub returns-in_default : goal.returns-in_default
returns-in_default c =
    export_full _ _ _ _ _ c.in_ok-state.ensures refl (record { at = λ i. (c.type_inv.j i).fits }) c.used_count-k.ensures c.groups_there.ensures
    (ap not c.if-not-groups_there.false) (measure_begins c.new-measure.ensures) c.put_export.ensures (sym c.in_default.ensures) c.refused-in_default.ensures

pub returns : goal.returns
returns c =
    let h = export_written _ _ _ _ _ c.in_ok-state.ensures refl (record { at = λ i. (c.type_inv.j i).fits }) c.used_count-k.ensures c.groups_there.ensures
    (ap not c.if-not-groups_there.false) (measure_begins c.new-measure.ensures) c.put_export.ensures (sym c.in-Some.ensures)
    (ap (λ (o : Out). o.bytes) c.new-writer.ensures) (ap (λ (o : Out). o.at) c.new-writer.ensures) c.put_export-2.ensures in
    let written = h.1 in
    (h.0, search rules)
