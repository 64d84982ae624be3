-- `next_word`: the three kinds of a word.
use Rattle.std.proofs.Common.{arith}
use Rattle.primitives.proofs.Schedule.{next_eighth, next_fourth, next_other}
use Rattle.primitives.proofs.aes.next_word.Goals as goal
use Rattle.primitives.proofs.aes.next_word.Goals.{in-0, in-4, in_default}

pub returns : goal.returns
returns c =
    let a = c.args in
    elim c.match-i-rem8.branch [
      | in-0 w ↦
          next_eighth a.i _ a.back w.in-0.is w.round_constant.ensures w.rot_word.ensures w.sub_column.ensures w.add_column-turned.ensures
          (rw w.turned-is at c.add_column.ensures)
      | in-4 w ↦ next_fourth a.i _ a.back (omega arith) w.in-4.is w.sub_column-turned.ensures (rw w.turned-is at c.add_column.ensures)
      | in_default w ↦ next_other a.i _ a.back (omega arith) (omega arith) (rw w.turned-is at c.add_column.ensures)
    ]
