use Rattle.std.proofs.Common.{◌≡◌, length}
use Rattle.demands.specs.Demands.{first_unmet}
use Rattle.checked_code.specs.Rules.{signature_type_demands}
use Rattle.bundle_tables.proofs.rules.judge_signature_types.Given as goal

abbrev pub invariant-each : goal.invariant-each
invariant-each l = first_unmet (signature_type_demands l.tables l.left) ≡ first_unmet (signature_type_demands l.tables l.fn.names)

abbrev pub decreases-each : goal.decreases-each
decreases-each l = length l.left
