-- `datetime::put_date` meets its contract.
use Rattle.receipt.proofs.Dates.{put_date}
use Rattle.receipt.proofs.datetime.put_date.Goals as goal

pub returns : goal.returns
returns c =
    let year = rw c.from.ensures at c.put_fixed.ensures in
    put_date c.args.t _ _ c.requires year c.put_pair.ensures c.put_pair-2.ensures c.put_pair-3.ensures c.put_pair-4.ensures c.put_pair-5.ensures
