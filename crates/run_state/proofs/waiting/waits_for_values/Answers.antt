use Rattle.frames.specs.FrameOf.{frame_of}
use Rattle.run_state.specs.ActLaws.{awaits_values}
use Rattle.run_state.specs.ActViews.{none_listed}
use Rattle.run_state.proofs.waiting.waits_for_values.Goals as goal

pub returns-in-None : goal.returns-in-None
returns-in-None c = λ made.
    awaits_values _ (frame_of c.args.frame.now) c.code-instruction.result.now c.code-instruction.ensures c.in-None.is (none_listed _ _ _ c.as_slice.ensures c.is_empty.ensures made)
