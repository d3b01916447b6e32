use Rattle.std.proofs.Common.{◌≡◌, ◌+◌, ◌≤◌, arith, length}
use Rattle.frames.specs.Chains.{frames_in}
use Rattle.frames.specs.FrameOf.{frame_of}
use Rattle.mu_osr.proofs.Popping.{needed_next}
use Rattle.mu_osr.proofs.room.needs_of.Goals as goal

pub loop-n-preserved : goal.loop-n-preserved
loop-n-preserved c =
    needed_next (frames_in c.args.frames.now) c.loop-n.n c.loop-n.needs.cells c.loop-n.needs.waits c.in-Some.more.cells c.in-Some.more.waits (frame_of c.frame-frame.result.now) c.loop-n.invariant c.frame-frame.ensures (omega (arith, c.in-Some.ensures.cells, c.len.ensures)) c.in-Some.ensures.more
    (omega (arith, c.in-Some.ensures.waits, c.len-in-loop-n.ensures))
