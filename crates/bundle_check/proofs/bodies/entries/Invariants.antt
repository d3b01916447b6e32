use Rattle.std.proofs.Common.{◌≡◌, [], length}
use Rattle.checked_code.specs.Functions.{entries_from}
use Rattle.bundle_check.proofs.bodies.entries.Given as goal

abbrev pub invariant-each : goal.invariant-each
invariant-each l = entries_from l.tables l.scope l.number l.left ≡ entries_from l.tables [] l.first l.blocks

abbrev pub decreases-each : goal.decreases-each
decreases-each l = length l.left
