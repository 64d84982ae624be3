use Rattle.std.proofs.Common.{◌≡◌, length, get_or, pos, arith, rules, w64, SFits, to_z-of_z}
use Rattle.primitives.specs.Counter.{counter_bytes}
use Rattle.primitives.proofs.Twos.{length_counter_bytes}
use Rattle.primitives.proofs.Writing.{writing_start}
use Rattle.device.proofs.Pieces.{piece_more, pieces_done, length_pieces}
use Rattle.device.proofs.details.put_amounts.Goals as goal

pub loop-i-init : goal.loop-i-init
loop-i-init c =
    let five : length c.args.amounts ≡ 5 = search rules in
    writing_start _ _ _ (omega (arith, length_pieces (counter_bytes 8) (pos 0) 8 (length_counter_bytes 8) c.args.amounts))

pub loop-i-preserved : goal.loop-i-preserved
loop-i-preserved c =
    let i = c.loop-i.i in
    let xs = c.args.amounts in
    let five : length xs ≡ 5 = search rules in
    let f : SFits w64 (get_or xs i (pos 0)) = search rules in
    let bytes = rw (to_z-of_z f) at c.counter_bytes.ensures in
    piece_more (counter_bytes 8) (pos 0) xs i c.loop-i.invariant (omega arith) (omega (arith, length_counter_bytes 8 (get_or xs i (pos 0)))) (rw bytes at c.put.ensures.1)

pub returns : goal.returns
returns c =
    let five : length c.args.amounts ≡ 5 = search rules in
    pieces_done (counter_bytes 8) (pos 0) c.args.amounts c.loop-i.i c.loop-i.invariant (omega arith)
