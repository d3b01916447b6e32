use Rattle.std.proofs.Common.{◌≡◌, length}
use Rattle.bundle_names.specs.Definitions.{with_list}
use Rattle.bundle_names.proofs.bodies.add_list.Given as goal

abbrev pub invariant-each : goal.invariant-each
invariant-each l = with_list l.scope l.left ≡ with_list l.fn.scope l.fn.names

abbrev pub decreases-each : goal.decreases-each
decreases-each l = length l.left
