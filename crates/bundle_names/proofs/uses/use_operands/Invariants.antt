use Rattle.std.proofs.Common.{◌≡◌, length}
use Rattle.demands.specs.Demands.{first_unmet}
use Rattle.bundle_names.specs.Uses.{operand_uses}
use Rattle.bundle_names.proofs.uses.use_operands.Given as goal

abbrev pub invariant-each : goal.invariant-each
invariant-each l = first_unmet (operand_uses l.globals l.function l.left) ≡ first_unmet (operand_uses l.globals l.function l.fn.operands)

abbrev pub decreases-each : goal.decreases-each
decreases-each l = length l.left
