use Rattle.std.proofs.Common.{◌≡◌, ◌++◌, length}
use Rattle.checked_code.specs.Entries.{constant_entries}
use Rattle.bundle_tables.proofs.entries.constant_entries.Given as goal

abbrev pub invariant-each : goal.invariant-each
invariant-each l = l.entries ++ constant_entries l.types l.globals l.left ≡ constant_entries l.types l.globals l.fn.items

abbrev pub decreases-each : goal.decreases-each
decreases-each l = length l.left
