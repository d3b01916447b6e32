use Rattle.std.proofs.Common.{◌≡◌, length, ◌++◌}
use Rattle.demands.specs.Demands.{first_unmet}
use Rattle.checked_code.specs.Operands.{value_type_demands, noted_list}
use Rattle.code_check.proofs.operands.value_types.Given as goal

abbrev pub invariant-each : goal.invariant-each
invariant-each l = record {
  left : first_unmet (value_type_demands l.tables l.left) ≡ first_unmet (value_type_demands l.tables l.fn.names);
  made : l.classes ++ noted_list l.tables l.left ≡ noted_list l.tables l.fn.names;
}

abbrev pub decreases-each : goal.decreases-each
decreases-each l = length l.left
