use Rattle.std.proofs.Common.{◌≡◌, length}
use Rattle.demands.specs.Demands.{first_unmet}
use Rattle.bundle_names.specs.Uses.{each, local_use}
use Rattle.bundle_names.proofs.uses.use_variables.Given as goal

abbrev pub invariant-each : goal.invariant-each
invariant-each l = first_unmet (each (local_use l.variables) l.left) ≡ first_unmet (each (local_use l.variables) l.fn.names)

abbrev pub decreases-each : goal.decreases-each
decreases-each l = length l.left
