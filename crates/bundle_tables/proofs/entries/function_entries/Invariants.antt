use Rattle.std.proofs.Common.{◌≡◌, ◌++◌, length}
use Rattle.checked_code.specs.Entries.{function_entries}
use Rattle.bundle_tables.proofs.entries.function_entries.Given as goal

abbrev pub invariant-each : goal.invariant-each
invariant-each l = l.entries ++ function_entries l.globals l.defined (length l.entries) l.left ≡ function_entries l.globals l.defined 0 l.fn.items

abbrev pub decreases-each : goal.decreases-each
decreases-each l = length l.left
