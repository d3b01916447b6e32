use Rattle.std.proofs.Common.{◌≡◌, length}
use Rattle.demands.specs.Demands.{first_unmet}
use Rattle.checked_code.specs.Rules.{signatures_demands}
use Rattle.bundle_tables.proofs.rules.judge_signatures.Given as goal

abbrev pub invariant-each : goal.invariant-each
invariant-each l = first_unmet (signatures_demands l.tables l.left) ≡ first_unmet (signatures_demands l.tables l.fn.items)

abbrev pub decreases-each : goal.decreases-each
decreases-each l = length l.left
