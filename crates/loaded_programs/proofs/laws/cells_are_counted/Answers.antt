use Rattle.loaded_programs.proofs.Counting.{cells_are_counted}
use Rattle.loaded_programs.proofs.laws.cells_are_counted.Goals as goal

pub returns : goal.returns
returns c = cells_are_counted
