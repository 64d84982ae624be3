-- `shape::all_places` meets its contract.
use Rattle.exports.specs.Places.{places_of}
use Rattle.exports.proofs.shape.all_places.Goals as goal

pub returns-in_err-place_of : goal.returns-in_err-place_of
unfolding places_of
returns-in_err-place_of c = rw (c.from_residual.ensures, ← c.in_err-place_of.ensures)

pub returns-in_err-place_of-2 : goal.returns-in_err-place_of-2
unfolding places_of
returns-in_err-place_of-2 c = rw (c.from_residual-in_err-place_of-2.ensures, ← c.in_ok-place_of.ensures, ← c.in_err-place_of-2.ensures)

pub returns-in_err-place_of-3 : goal.returns-in_err-place_of-3
unfolding places_of
returns-in_err-place_of-3 c = rw (c.from_residual-in_err-place_of-3.ensures, ← c.in_ok-place_of.ensures, ← c.in_ok-place_of-2.ensures, ← c.in_err-place_of-3.ensures)

pub returns : goal.returns
unfolding places_of
returns c = rw (← c.in_ok-place_of.ensures, ← c.in_ok-place_of-2.ensures, ← c.in_ok-place_of-3.ensures)
