use Rattle.std.proofs.Common.{◌≡◌, reverse, take}
use Rattle.mem_axioms.specs.Synchronizes.{last_to_give_up}
use Rattle.mem_axioms.proofs.synchronizing.is_last_to_give_up.Given as goal

abbrev pub invariant-loop-k : goal.invariant-loop-k
invariant-loop-k l = l.last ≡ last_to_give_up (reverse (take l.k l.events)) l.stack l.i
