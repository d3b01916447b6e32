use Rattle.std.proofs.Common.{◌≡◌, take, drop}
use Rattle.std.specs.List.{flat_map}
use Rattle.frames.specs.Activations.{Activation}
use Rattle.frames.specs.Chains.{frames_in}
use Rattle.run_state.specs.Acting.{objects_end}
use Rattle.run_state.proofs.objects.leave_frames.Given as goal

abbrev pub invariant-loop-i : goal.invariant-loop-i
invariant-loop-i l = record {
  above : frames_in l.frames ≡ drop l.i (frames_in l.initial.frames);
  ended : l.heap.objects ≡ objects_end l.initial.heap.objects (flat_map (λ (f : Activation). f.objects) (take l.i (frames_in l.initial.frames)));
  same : l.heap.left ≡ l.initial.heap.left;
}
