-- `layout::put_settings` meets its contract.
use Rattle.std.proofs.Common.{rules}
use Rattle.receipt.specs.Settings.{SettingsLengths}
use Rattle.device.proofs.Writers.{put_settings}
use Rattle.device.proofs.layout.put_settings.Goals as goal

pub returns : goal.returns
returns c =
    let typed : SettingsLengths c.args.s = record { csp = search rules; id = search rules; serial = search rules } in
    put_settings c.args.s typed c.args.n c.args.key c.args.out.now c.requires c.put_names.ensures c.put_key.ensures
