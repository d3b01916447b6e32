use Rattle.std.proofs.Common.{◌≡◌, ◌++◌, length}
use Rattle.checked_code.specs.Entries.{declared_signatures}
use Rattle.bundle_tables.proofs.entries.declared_signatures.Given as goal

abbrev pub invariant-each : goal.invariant-each
invariant-each l = l.signatures ++ declared_signatures l.globals l.left ≡ declared_signatures l.globals l.fn.items

abbrev pub decreases-each : goal.decreases-each
decreases-each l = length l.left
