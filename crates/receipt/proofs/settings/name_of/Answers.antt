-- `settings::name_of` meets its contract.
use Rattle.std.proofs.Common.{◌≡◌, min, length, rules}
use Rattle.receipt.proofs.Names.{put_name}
use Rattle.receipt.proofs.settings.name_of.Goals as goal

pub returns : goal.returns
returns c = let e : c.min-n.result ≡ min (length c.args.text.now) 32 = search rules in put_name c.args.text.now e c.copy_from_slice.ensures.after
