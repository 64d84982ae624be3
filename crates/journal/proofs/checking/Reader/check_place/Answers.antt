-- An entry that is cut, and one whose bytes end within the journal.
use Rattle.std.proofs.Common.{sym}
use Rattle.journal.proofs.CheckCalls.{there_room, place_none}
use Rattle.journal.proofs.checking.Reader.check_place.Goals as goal

pub returns-then-not-there : goal.returns-then-not-there
returns-then-not-there c = place_none _ c.args.self.now.state c.args.self.now.journal.now (sym c.if-not-there.ensures)

pub slice_bounds-check_text-end : goal.slice_bounds-check_text-end
slice_bounds-check_text-end c = (there_room c.args.self.now.journal.now _ (sym c.if-not-there.ensures) c.count_at.ensures.0).all
