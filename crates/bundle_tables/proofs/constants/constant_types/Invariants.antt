use Rattle.std.proofs.Common.{◌≡◌, ◌++◌, ◌<◌, length}
use Rattle.std.specs.List.{All}
use Rattle.checked_code.specs.Rules.{constant_types}
use Rattle.bundle_tables.proofs.constants.constant_types.Given as goal

abbrev pub invariant-each : goal.invariant-each
invariant-each l = record {
  same : l.types ++ constant_types l.globals l.left ≡ constant_types l.globals l.fn.items;
  below : All (λ t. t < l.globals.counts.written) l.types;
}

abbrev pub decreases-each : goal.decreases-each
decreases-each l = length l.left
