use Rattle.std.proofs.Common.{◌∙◌}
use Rattle.device.proofs.ExportCalls.{from_exported, export_made}
use Rattle.device.proofs.inspection.ditgrux_export.Goals as goal

pub returns : goal.returns
returns c =
    let a = c.args in
    let t = from_exported c.export-written.result c.tell_index.ensures c.tell.ensures in
    let p = export_made a.journal.now a.key.now a.width a.certificates.now a.output.now c.array_of.ensures c.width_with.ensures c.export-written.ensures in
    (t.0 ∙ p.0, p.1, t.1 ∙ p.2, t.2 ∙ p.3)
