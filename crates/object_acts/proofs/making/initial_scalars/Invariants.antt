use Rattle.std.proofs.Common.{slice_get}
use Rattle.run_state.specs.Remembering.{SoFar}
use Rattle.object_acts.proofs.making.initial_scalars.Given as goal

abbrev pub invariant-loop-at : goal.invariant-loop-at
invariant-loop-at l = SoFar (slice_get l.heap.objects l.object) l.at l.value.members
