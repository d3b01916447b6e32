use Rattle.view_parts.specs.Lemmas.Places.{kept-trans}
use Rattle.view_parts.proofs.touched.CellAccesses.reserve.Goals as goal

pub returns-clause-kept : goal.returns-clause-kept
returns-clause-kept c = kept-trans c.args.self.now c.touch.new.self c.reserve_placed.new.self c.touch.ensures.kept c.reserve_placed.ensures.kept
