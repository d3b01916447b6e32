use Rattle.std.proofs.Common.{◌≡◌, length}
use Rattle.checked_code.specs.Instructions.{bound_results}
use Rattle.code_check.proofs.binding.bind_listed.Given as goal

abbrev pub invariant-each : goal.invariant-each
invariant-each l = record {
  long : length l.left ≡ length l.given;
  left : bound_results l.locals l.left l.given ≡ bound_results l.fn.locals l.fn.names l.fn.classes;
}

abbrev pub decreases-each : goal.decreases-each
decreases-each l = length l.left
