use Rattle.std.proofs.Common.{◌≡◌, ◌+◌, ◌≤◌, length, take}
use Rattle.write_history.proofs.groups.grouped.Given as goal

abbrev pub invariant-loop-position : goal.invariant-loop-position
invariant-loop-position l = record {
  values : l.groups.values ≡ take l.position l.values;
  room : length l.values ≤ l.groups.spare + l.position;
}
