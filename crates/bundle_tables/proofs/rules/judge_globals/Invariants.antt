use Rattle.std.proofs.Common.{◌≡◌, length}
use Rattle.demands.specs.Demands.{first_unmet}
use Rattle.checked_code.specs.Rules.{globals_demands}
use Rattle.bundle_tables.proofs.rules.judge_globals.Given as goal

abbrev pub invariant-each : goal.invariant-each
invariant-each l = first_unmet (globals_demands l.tables l.leaves l.left) ≡ first_unmet (globals_demands l.tables 0 l.fn.items)

abbrev pub decreases-each : goal.decreases-each
decreases-each l = length l.left
