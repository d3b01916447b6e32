use Rattle.run_state.specs.Passing.{placed, arrives_so}
use Rattle.frames.specs.FrameOf.{frame_of}
use Rattle.run_state.proofs.flow.passing.Goals as goal

pub returns-in-None : goal.returns-in-None
returns-in-None c = placed _ (frame_of c.args.frame.now) _ _ _ _ c.if-frame.false c.code.ensures c.in-None.is c.onward.ensures.block c.onward.ensures.at c.onward.ensures.values

pub returns-in-Some : goal.returns-in-Some
returns-in-Some c = arrives_so _ (frame_of c.args.frame.now) _ _ _ _ _ c.if-frame.false c.code.ensures c.in-Some.is c.arriving.ensures
