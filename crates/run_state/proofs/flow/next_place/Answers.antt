use Rattle.frames.specs.FrameOf.{frame_of}
use Rattle.run_state.specs.ActLaws.{goes_on_next}
use Rattle.run_state.proofs.flow.next_place.Goals as goal

pub returns-in_ok-at-in-None : goal.returns-in_ok-at-in-None
returns-in_ok-at-in-None c = λ results. goes_on_next _ (frame_of c.args.frame.now) results _ _ c.if-frame.false c.code.ensures c.in-None.is c.in_ok-at-in-None.ensures.1
