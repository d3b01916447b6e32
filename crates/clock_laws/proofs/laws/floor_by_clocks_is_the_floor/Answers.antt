use Rattle.clock_laws.specs.Lemmas.FloorTests.{view_floor-is}
use Rattle.clock_laws.proofs.laws.floor_by_clocks_is_the_floor.Goals as goal

pub returns : goal.returns
returns c = λ right rule log form. view_floor-is rule right log form
