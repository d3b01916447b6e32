use Rattle.std.proofs.Common.{◌≡◌, ◌++◌, length}
use Rattle.checked_code.specs.Entries.{global_entries}
use Rattle.bundle_tables.proofs.entries.global_entries.Given as goal

abbrev pub invariant-each : goal.invariant-each
invariant-each l = l.entries ++ global_entries l.types l.globals l.left ≡ global_entries l.types l.globals l.fn.items

abbrev pub decreases-each : goal.decreases-each
decreases-each l = length l.left
