use Rattle.std.proofs.Common.{◌≡◌, ◌++◌, length}
use Rattle.checked_code.specs.Constants.{constants_of}
use Rattle.bundle_constants.proofs.constants.constants.Given as goal

abbrev pub invariant-each : goal.invariant-each
invariant-each l = l.all ++ constants_of l.globals l.left ≡ constants_of l.globals l.fn.items

abbrev pub decreases-each : goal.decreases-each
decreases-each l = length l.left
