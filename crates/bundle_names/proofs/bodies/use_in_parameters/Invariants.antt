use Rattle.std.proofs.Common.{◌≡◌, length}
use Rattle.demands.specs.Demands.{first_unmet}
use Rattle.bundle_names.specs.BodyUses.{parameter_uses}
use Rattle.bundle_names.proofs.bodies.use_in_parameters.Given as goal

abbrev pub invariant-each : goal.invariant-each
invariant-each l = first_unmet (parameter_uses l.globals l.left) ≡ first_unmet (parameter_uses l.globals l.fn.parameters)

abbrev pub decreases-each : goal.decreases-each
decreases-each l = length l.left
