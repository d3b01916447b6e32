use Rattle.std.proofs.Common.{◌≡◌, reverse, take}
use Rattle.mem_axioms.specs.Form.{value_at}
use Rattle.mem_axioms.specs.Objects.{initial_of}
use Rattle.mem_axioms.specs.Scalars.{scalars_of}
use Rattle.mem_axioms.proofs.cell_values.value_at_position.Given as goal

abbrev pub invariant-loop-i : goal.invariant-loop-i
invariant-loop-i l =
    value_at (initial_of (scalars_of l.objects)) (reverse l.events) l.cell l.position ≡ value_at (initial_of (scalars_of l.objects)) (reverse (take l.i l.events)) l.cell l.position
