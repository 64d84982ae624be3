-- `encode` meets its contract: the letters and the padding, where there is room for both.
use Rattle.std.proofs.Common.{◌+◌, ◌≤◌, length, ap, not, sym, arith}
use Rattle.primitives.proofs.Questions.{at_most, above}
use Rattle.primitives.proofs.Filling.{wrote_nothing}
use Rattle.primitives.proofs.CodeSteps.{letters_room, fill_starts, encode_room, filled}
use Rattle.primitives.proofs.coding.Coding.encode.Goals as goal

pub returns-then-not-has_room : goal.returns-then-not-has_room
returns-then-not-has_room g c = wrote_nothing _ _ _ (sym c.text_length-length.ensures) (above _ _ c.has_room.ensures (ap not c.if-not-has_room.true))

pub put_letters-letters-requires : goal.put_letters-letters-requires
put_letters-letters-requires g c =
    letters_room _ c.args.self.now.good c.args.s.now c.args.out.now c.args.at c.text_length-length.ensures (at_most _ _ c.has_room.ensures (ap not c.if-not-has_room.false))

pub slice_bounds-fill-count : goal.slice_bounds-fill-count
slice_bounds-fill-count g c =
    fill_starts _ c.args.self.now.good c.args.s.now c.args.out.now c.args.at c.text_length-length.ensures (at_most _ _ c.has_room.ensures (ap not c.if-not-has_room.false))
    c.put_letters-letters.ensures.0

pub slice_bounds-fill-start : goal.slice_bounds-fill-start
slice_bounds-fill-start g c =
    fill_starts _ c.args.self.now.good c.args.s.now c.args.out.now c.args.at c.text_length-length.ensures (at_most _ _ c.has_room.ensures (ap not c.if-not-has_room.false))
    c.put_letters-letters.ensures.0

pub returns : goal.returns
returns g c =
    let fits : c.args.at + c.text_length-length.result ≤ length c.args.out.now = at_most _ _ c.has_room.ensures (ap not c.if-not-has_room.false) in
    let start = fill_starts _ c.args.self.now.good c.args.s.now c.args.out.now c.args.at c.text_length-length.ensures fits c.put_letters-letters.ensures.0 in
    encode_room _ c.args.self.now.good c.args.s.now c.args.out.now c.args.at c.text_length-length.ensures fits c.put_letters-letters.ensures.0 c.put_letters-letters.ensures.1
    (filled c.put_letters-letters.new.out c.put_letters-letters.result (c.args.at + c.text_length-length.result) 61 start (omega (arith, fits, c.put_letters-letters.auto.out)) (c.fill.ensures.after (λ y e. e)))
