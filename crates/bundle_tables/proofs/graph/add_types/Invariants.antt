use Rattle.std.proofs.Common.{◌≡◌, ◌++◌, ◌+◌, ◌≤◌, length, map}
use Rattle.bundle_tables.specs.Inner.{AllBelow}
use Rattle.checked_code.specs.Graph.{types_of, type_places}
use Rattle.bundle_tables.proofs.graph.add_types.Given as goal

abbrev pub invariant-each : goal.invariant-each
invariant-each l = record {
  definitions : l.graph.definitions ++ types_of l.globals l.left ≡ l.fn.graph.definitions ++ types_of l.globals l.fn.items;
  places : l.graph.places ++ type_places l.left ≡ l.fn.graph.places ++ type_places l.fn.items;
  below : AllBelow (l.globals.counts.written + l.globals.counts.signatures) l.fn.graph.definitions → AllBelow (l.globals.counts.written + l.globals.counts.signatures) l.graph.definitions;
  count : length l.graph.definitions + length l.left ≤ length l.fn.graph.definitions + length l.fn.items;
}

abbrev pub decreases-each : goal.decreases-each
decreases-each l = length l.left
