use Rattle.frames.specs.Chains.{frames_in}
use Rattle.mu_osr.specs.Kept.{Needed}
use Rattle.mu_osr.proofs.room.needs_of.Given as goal

abbrev pub invariant-loop-n : goal.invariant-loop-n
invariant-loop-n l = Needed (frames_in l.frames) l.n l.needs.cells l.needs.waits
