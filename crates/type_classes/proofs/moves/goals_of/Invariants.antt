use Rattle.std.proofs.Common.{◌≡◌, map, take}
use Rattle.std.specs.Prelude.{slice_index}
use Rattle.type_classes.proofs.moves.goals_of.Given as goal

abbrev pub invariant-loop-x : goal.invariant-loop-x
invariant-loop-x l = l.goals.items ≡ map (λ x. slice_index l.target (slice_index l.block x)) (take l.x-index l.touched)
