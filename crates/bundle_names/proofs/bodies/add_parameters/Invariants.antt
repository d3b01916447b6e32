use Rattle.std.proofs.Common.{◌≡◌, length}
use Rattle.bundle_names.specs.Definitions.{with_list, parameter_names}
use Rattle.bundle_names.proofs.bodies.add_parameters.Given as goal

abbrev pub invariant-each : goal.invariant-each
invariant-each l = with_list l.scope (parameter_names l.left) ≡ with_list l.fn.scope (parameter_names l.fn.parameters)

abbrev pub decreases-each : goal.decreases-each
decreases-each l = length l.left
