use Rattle.std.proofs.Common.{◌≡◌, ◌+◌, ◌≤◌, take}
use Rattle.write_history.specs.Occurrences.{occurrences}
use Rattle.write_history.proofs.history.count_in_turn.Given as goal

abbrev pub invariant-loop-index : goal.invariant-loop-index
invariant-loop-index g l = record {
  counted : l.count ≡ occurrences l.value (take l.index l.values);
  few : l.count ≤ l.index;
  cost : l.steps ≡ l.initial.steps + l.index;
}
