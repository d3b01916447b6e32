use Rattle.std.proofs.Common.{◌≡◌, ◌++◌, length}
use Rattle.checked_code.specs.Graph.{places_of_names}
use Rattle.bundle_tables.proofs.graph.add_places_of_names.Given as goal

abbrev pub invariant-each : goal.invariant-each
invariant-each l = l.places ++ places_of_names l.left ≡ l.fn.places ++ places_of_names l.fn.names

abbrev pub decreases-each : goal.decreases-each
decreases-each l = length l.left
