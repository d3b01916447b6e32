use Rattle.std.proofs.Common.{◌∙◌, ap}
use Rattle.frames.specs.Chains.{frames_in}
use Rattle.run_state.specs.Acting.{objects_end}
use Rattle.run_state.specs.Lists.{frame_next}
use Rattle.run_state.specs.Remembering.{ends_same}
use Rattle.run_state.proofs.objects.end_frames.Goals as goal

pub loop-n-preserved : goal.loop-n-preserved
loop-n-preserved c = record {
  ended = frame_next (frames_in c.args.frames.now) c.loop-n.n _ _ _ _ c.frame.ensures c.loop-n.invariant.ended (c.end_objects.ensures.objects ∙ ap (objects_end c.loop-n.heap.objects) c.as_slice.ensures);
  same = c.end_objects.ensures.left ∙ c.loop-n.invariant.same;
}

pub returns-clause-initials : goal.returns-clause-initials
returns-clause-initials c = ends_same _ _ _ c.loop-n.invariant.ended
