use Rattle.std.proofs.Common.{◌≡◌, length}
use Rattle.demands.specs.Demands.{first_unmet}
use Rattle.bundle_names.specs.Uses.{each}
use Rattle.bundle_names.specs.ControlUses.{case_use}
use Rattle.bundle_names.proofs.control.use_in_cases.Given as goal

abbrev pub invariant-each : goal.invariant-each
invariant-each l = first_unmet (each (case_use l.globals l.function) l.left) ≡ first_unmet (each (case_use l.globals l.function) l.fn.cases)

abbrev pub decreases-each : goal.decreases-each
decreases-each l = length l.left
