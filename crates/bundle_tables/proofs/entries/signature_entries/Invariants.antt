use Rattle.std.proofs.Common.{◌≡◌, ◌++◌, length}
use Rattle.checked_code.specs.Entries.{signature_entries}
use Rattle.bundle_tables.proofs.entries.signature_entries.Given as goal

abbrev pub invariant-each : goal.invariant-each
invariant-each l = l.entries ++ signature_entries l.types l.globals l.left ≡ signature_entries l.types l.globals l.fn.items

abbrev pub decreases-each : goal.decreases-each
decreases-each l = length l.left
