use Rattle.std.proofs.Common.{ap}
use Rattle.frames.specs.Chains.{chain_of}
use Rattle.stack_moves.specs.EnteringLaws.{arriving}
use Rattle.stack_moves.proofs.arriving.arrive.Goals as goal

pub returns-clause-frames : goal.returns-clause-frames
returns-clause-frames c = arriving _ _ _ _ (chain_of c.leave_frames.new.frames) (chain_of c.stand.new.frames) _ c.requires c.leave_frames.ensures.frames (ap chain_of c.stand.ensures)
