-- `layout::put_names` meets its contract.
use Rattle.std.proofs.Common.{rules}
use Rattle.receipt.specs.Settings.{SettingsLengths}
use Rattle.device.proofs.Writers.{put_names}
use Rattle.device.proofs.layout.put_names.Goals as goal

pub returns : goal.returns
returns c =
    let typed : SettingsLengths c.args.s = record { csp = search rules; id = search rules; serial = search rules } in
    put_names c.args.s typed c.args.out.now c.requires c.put.ensures.1 c.put_name.ensures c.put_name-2.ensures
