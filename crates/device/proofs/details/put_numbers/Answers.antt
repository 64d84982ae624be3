use Rattle.std.proofs.Common.{◌≡◌, length, get_or, arith, rules}
use Rattle.primitives.specs.Number.{bytes_of}
use Rattle.primitives.proofs.Numbers.{length_bytes_of}
use Rattle.primitives.proofs.Writing.{writing_start}
use Rattle.device.proofs.Pieces.{piece_more, pieces_done, length_pieces}
use Rattle.device.proofs.details.put_numbers.Goals as goal

pub loop-i-init : goal.loop-i-init
loop-i-init c =
    let eight : length c.args.numbers ≡ 8 = search rules in
    writing_start _ _ _ (omega (arith, length_pieces (bytes_of 4) 0 4 (length_bytes_of 4) c.args.numbers))

pub loop-i-preserved : goal.loop-i-preserved
loop-i-preserved c =
    let i = c.loop-i.i in
    let xs = c.args.numbers in
    let eight : length xs ≡ 8 = search rules in
    piece_more (bytes_of 4) 0 xs i c.loop-i.invariant (omega arith) (omega (arith, length_bytes_of 4 (get_or xs i 0))) (rw c.from.ensures at c.put_number.ensures.1)

pub returns : goal.returns
returns c =
    let eight : length c.args.numbers ≡ 8 = search rules in
    pieces_done (bytes_of 4) 0 c.args.numbers c.loop-i.i c.loop-i.invariant (omega arith)
