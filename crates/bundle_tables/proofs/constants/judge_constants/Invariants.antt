use Rattle.std.proofs.Common.{◌≡◌, length}
use Rattle.demands.specs.Demands.{first_unmet}
use Rattle.checked_code.specs.Rules.{constants_demands}
use Rattle.bundle_tables.proofs.constants.judge_constants.Given as goal

abbrev pub invariant-each : goal.invariant-each
invariant-each l = first_unmet (constants_demands l.tables l.types l.left) ≡ first_unmet (constants_demands l.tables l.types l.fn.items)

abbrev pub decreases-each : goal.decreases-each
decreases-each l = length l.left
