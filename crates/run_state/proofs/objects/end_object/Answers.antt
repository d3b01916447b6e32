use Rattle.std.proofs.Common.{◌∙◌, ap, arith}
use Rattle.run_state.specs.Lists.{change_so}
use Rattle.run_state.specs.Remembering.{initials, changed_same}
use Rattle.run_state.proofs.objects.end_object.Goals as goal

pub returns-then-object-objects-clause-objects : goal.returns-then-object-objects-clause-objects
returns-then-object-objects-clause-objects c = change_so _ _ _ (omega arith) c.end_cells.ensures.objects

pub returns-then-object-objects-clause-initials : goal.returns-then-object-objects-clause-initials
returns-then-object-objects-clause-initials c = ap initials (change_so _ _ _ (omega arith) c.end_cells.ensures.objects) ∙ changed_same _ _
