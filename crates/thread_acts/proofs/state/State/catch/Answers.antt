use Rattle.run_state.specs.ActViews.{caught_so}
use Rattle.thread_acts.proofs.state.State.catch.Goals as goal

pub returns-clause-ok : goal.returns-clause-ok
returns-clause-ok g c =
    caught_so _ _ _ _ _ c.frame.result.now _ _ _ _ _ _ _ c.self.view_is c.requires.there c.requires.first c.frame.ensures c.in_ok-block.ensures c.in_ok-add_exception.ensures c.leave_frames.ensures.frames c.leave_frames.ensures.objects
    c.leave_frames.ensures.left c.go.ensures.on
