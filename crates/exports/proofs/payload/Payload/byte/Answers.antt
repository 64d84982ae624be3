-- `Payload::byte` meets its contract.
use Rattle.std.proofs.Common.{◌≤◌, ◌/◌, ◌*◌, length, rules}
use Rattle.exports.proofs.PayloadLetters.{group_inside, group_lent, byte_read}
use Rattle.exports.proofs.payload.Payload.byte.Goals as goal

pub overflow_mul-from_group : goal.overflow_mul-from_group
overflow_mul-from_group c = let h : c.args.i / 3 * 4 ≤ length c.args.self.now.letters.now = group_inside _ _ (c.args.self.now.canonical, c.requires) in search rules

pub slice_bounds-from_group-count : goal.slice_bounds-from_group-count
slice_bounds-from_group-count c = group_inside _ _ (c.args.self.now.canonical, c.requires)

pub slice_bounds-from_group-start : goal.slice_bounds-from_group-start
slice_bounds-from_group-start c = let h : c.args.i / 3 * 4 ≤ length c.args.self.now.letters.now = group_inside _ _ (c.args.self.now.canonical, c.requires) in search rules

pub returns : goal.returns
returns c = byte_read c.args.self.now.letters.now c.args.i (c.args.self.now.canonical, c.requires) (group_lent c.args.self.now.letters.now c.args.i (c.args.self.now.canonical, c.requires) c.min.ensures) c.base64_decode.ensures.1
