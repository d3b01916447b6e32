use Rattle.std.proofs.Common.{◌≡◌, ◌++◌, length}
use Rattle.checked_code.specs.Entries.{defined_signatures}
use Rattle.bundle_tables.proofs.entries.defined_signatures.Given as goal

abbrev pub invariant-each : goal.invariant-each
invariant-each l = l.signatures ++ defined_signatures l.globals l.left ≡ defined_signatures l.globals l.fn.items

abbrev pub decreases-each : goal.decreases-each
decreases-each l = length l.left
