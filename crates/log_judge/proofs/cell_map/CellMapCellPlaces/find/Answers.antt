use Rattle.std.proofs.Common.{sym}
use Rattle.log_judge.proofs.Keyed.{number-found, number-none}
use Rattle.log_judge.proofs.cell_map.CellMapCellPlaces.find.Goals as goal

pub returns-in-Some : goal.returns-in-Some
returns-in-Some c = number-found c.args.self.now.places c.args.cell c.in-Some.place.now c.key_of.ensures.small (rw (sym c.key_of.ensures.key) (sym c.in-Some.ensures.value))

pub returns-in-None : goal.returns-in-None
returns-in-None c = number-none c.args.self.now.places c.args.cell (rw (sym c.key_of.ensures.key) (sym c.in-None.ensures.value))
