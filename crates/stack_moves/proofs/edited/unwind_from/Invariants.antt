use Rattle.std.proofs.Common.{◌≡◌, drop}
use Rattle.frames.specs.Chains.{frames_in}
use Rattle.frames.specs.Handlers.{first_handler}
use Rattle.stack_moves.proofs.EditedViews.{walked}
use Rattle.stack_moves.proofs.edited.unwind_from.Given as goal

abbrev pub invariant-loop-n : goal.invariant-loop-n
invariant-loop-n l = record { walk : walked (frames_in l.frames) l.from l.n ≡ first_handler (drop l.from (frames_in l.frames)) }
