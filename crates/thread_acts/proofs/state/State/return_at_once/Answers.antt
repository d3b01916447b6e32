use Rattle.frames.specs.FrameOf.{frame_of}
use Rattle.run_state.specs.ActLaws.{goes_on_there}
use Rattle.run_state.specs.ActViews.{returns_there, returned_next}
use Rattle.thread_acts.proofs.state.State.return_at_once.Goals as goal

pub next_place-requires : goal.next_place-requires
next_place-requires g c = λ fresh. goes_on_there _ (frame_of c.frame.result.now) _ fresh (returns_there _ _ _ _ _ c.self.view_is c.requires.there c.frame.ensures)

pub returns-in-Some-clause-made : goal.returns-in-Some-clause-made
returns-in-Some-clause-made g c = λ made.
    returned_next _ _ _ _ (frame_of c.frame.result.now) c.in-Some.at _ c.self.view_is c.requires.there c.frame.ensures (c.in-Some.ensures c.args.room.now.values.values) (c.leave_next.ensures.made made)
