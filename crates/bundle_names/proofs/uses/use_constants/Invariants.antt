use Rattle.std.proofs.Common.{◌≡◌, length}
use Rattle.demands.specs.Demands.{first_unmet}
use Rattle.bundle_names.specs.Uses.{each, constant_use}
use Rattle.bundle_names.proofs.uses.use_constants.Given as goal

abbrev pub invariant-each : goal.invariant-each
invariant-each l = first_unmet (each (constant_use l.globals) l.left) ≡ first_unmet (each (constant_use l.globals) l.fn.names)

abbrev pub decreases-each : goal.decreases-each
decreases-each l = length l.left
