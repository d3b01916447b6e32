use Rattle.std.proofs.Common.{◌≡◌, length}
use Rattle.checked_code.specs.Operands.{noted_list}
use Rattle.checked_code.specs.Instructions.{bound_results}
use Rattle.code_check.proofs.binding.bind_named.Given as goal

abbrev pub invariant-each : goal.invariant-each
invariant-each l = record {
  long : length l.left ≡ length l.given;
  left : bound_results l.locals l.left (noted_list l.tables l.given) ≡ bound_results l.fn.locals l.fn.names (noted_list l.tables l.fn.types);
}

abbrev pub decreases-each : goal.decreases-each
decreases-each l = length l.left
