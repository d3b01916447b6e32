use Rattle.std.proofs.Common.{◌≡◌, take}
use Rattle.std.specs.List.{flat_map}
use Rattle.frames.specs.Activations.{Activation}
use Rattle.frames.specs.Chains.{frames_in}
use Rattle.run_state.specs.Acting.{objects_end}
use Rattle.run_state.proofs.objects.end_frames.Given as goal

abbrev pub invariant-loop-n : goal.invariant-loop-n
invariant-loop-n l = record {
  ended : l.heap.objects ≡ objects_end l.initial.heap.objects (flat_map (λ (f : Activation). f.objects) (take l.n (frames_in l.frames)));
  same : l.heap.left ≡ l.initial.heap.left;
}
