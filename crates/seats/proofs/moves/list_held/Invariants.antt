use Rattle.std.proofs.Common.{◌≡◌, take}
use Rattle.seats.specs.Kept.{held_from}
use Rattle.seats.proofs.moves.list_held.Given as goal

abbrev pub invariant-loop-n : goal.invariant-loop-n
invariant-loop-n l = l.held ≡ held_from 0 (take l.n l.threads.stacks)
