use Rattle.std.proofs.Common.{◌≡◌, ◌++◌, length}
use Rattle.checked_code.specs.Entries.{noted_types}
use Rattle.bundle_tables.proofs.entries.noted_types.Given as goal

abbrev pub invariant-each : goal.invariant-each
invariant-each l = l.noted ++ noted_types l.types l.globals l.left ≡ noted_types l.types l.globals l.fn.names

abbrev pub decreases-each : goal.decreases-each
decreases-each l = length l.left
