use Rattle.std.proofs.Common.{◌≡◌, length, ◌++◌}
use Rattle.demands.specs.Demands.{first_unmet}
use Rattle.checked_code.specs.Operands.{variable_demands, numbers_in}
use Rattle.code_check.proofs.operands.kept.Given as goal

abbrev pub invariant-each : goal.invariant-each
invariant-each l = record {
  left : first_unmet (variable_demands l.locals l.left) ≡ first_unmet (variable_demands l.locals l.fn.names);
  made : l.numbers ++ numbers_in l.locals l.left ≡ numbers_in l.locals l.fn.names;
}

abbrev pub decreases-each : goal.decreases-each
decreases-each l = length l.left
