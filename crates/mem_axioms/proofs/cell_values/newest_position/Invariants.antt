use Rattle.std.proofs.Common.{◌≡◌, ◌≤◌, reverse, take}
use Rattle.mem_axioms.specs.Logs.{newest}
use Rattle.mem_axioms.proofs.cell_values.newest_position.Given as goal

abbrev pub invariant-loop-event : goal.invariant-loop-event
invariant-loop-event l = record {
  counted : l.count ≡ newest (reverse (take l.event-index l.events)) l.cell;
  low : l.count ≤ l.event-index;
}
