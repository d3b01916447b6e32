use Rattle.client_script.proofs.Planning.{next_frame}
use Rattle.client_script.proofs.actions.note_frames.Goals as goal

pub loop-n-preserved : goal.loop-n-preserved
loop-n-preserved c = next_frame _ c.loop-n.n _ c.loop-n.notes _ _ c.frame-frame.ensures c.in_ok-add_frame.ensures.added c.loop-n.invariant
