use Rattle.std.proofs.Common.{◌≡◌, ◌++◌, length}
use Rattle.checked_code.specs.Functions.{functions_from}
use Rattle.bundle_check.proofs.numbering.functions.Given as goal

abbrev pub invariant-each : goal.invariant-each
invariant-each l = l.all ++ functions_from l.tables l.firsts l.number l.at l.left ≡ functions_from l.tables l.firsts 0 0 l.items

abbrev pub decreases-each : goal.decreases-each
decreases-each l = length l.left
