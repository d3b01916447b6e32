use Rattle.std.proofs.Common.{◌≡◌, ◌+◌, ◌≤◌, take}
use Rattle.write_history.specs.Occurrences.{occurrences}
use Rattle.write_history.proofs.history.other_in_turn.Given as goal

abbrev pub invariant-loop-index : goal.invariant-loop-index
invariant-loop-index g l = record {
  counted : l.others + occurrences l.value (take l.index l.values) ≡ l.index;
  at_most : l.others ≤ l.below;
  cost : l.steps ≡ l.initial.steps + l.index;
}
