use Rattle.device.proofs.Sizes.{array_made}
use Rattle.device.proofs.register.array_of.Goals as goal

pub returns : goal.returns
returns g c = array_made g.row.N c.args.b.now c.try_from.result c.try_from.ensures c.unwrap_or.ensures
