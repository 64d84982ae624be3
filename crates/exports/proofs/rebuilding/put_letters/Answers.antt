-- `rebuilding::put_letters` meets its contract.
use Rattle.exports.proofs.Carrying.{letters_room}
use Rattle.exports.proofs.rebuilding.put_letters.Goals as goal

pub copy_letters-requires : goal.copy_letters-requires
copy_letters-requires c = (c.requires.letters, letters_room _ c.requires.long c.in-Some.ensures)
