use Rattle.std.proofs.Common.{◌≡◌, ◌++◌, ◌+◌, ◌<◌, length}
use Rattle.std.specs.List.{All}
use Rattle.checked_code.specs.Graph.{type_ids}
use Rattle.bundle_tables.proofs.graph.type_ids.Given as goal

abbrev pub invariant-each : goal.invariant-each
invariant-each l = record {
  same : l.numbers ++ type_ids l.globals l.left ≡ type_ids l.globals l.fn.names;
  below : All (λ n. n < l.globals.counts.written + l.globals.counts.signatures) l.numbers;
}

abbrev pub decreases-each : goal.decreases-each
decreases-each l = length l.left
