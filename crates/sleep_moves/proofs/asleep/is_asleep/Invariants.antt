use Rattle.std.proofs.Common.{◌≡◌, false, take}
use Rattle.std.specs.List.{list_any}
use Rattle.sleep_moves.specs.Moves.{are_same}
use Rattle.sleep_moves.proofs.asleep.is_asleep.Given as goal

abbrev pub invariant-loop-other : goal.invariant-loop-other
invariant-loop-other l = list_any (are_same l.event) (take l.other-index l.sleep) ≡ false
