use Rattle.std.proofs.Common.{◌≡◌, length, ◌++◌}
use Rattle.demands.specs.Demands.{first_unmet}
use Rattle.checked_code.specs.Operands.{member_demands, sources_of}
use Rattle.code_check.proofs.operands.members.Given as goal

abbrev pub invariant-each : goal.invariant-each
invariant-each l = record {
  long : length l.left ≡ length l.wanted;
  left : first_unmet (member_demands l.tables l.locals l.left l.wanted) ≡ first_unmet (member_demands l.tables l.locals l.fn.operands l.fn.classes);
  made : l.sources ++ sources_of l.tables l.locals l.left ≡ sources_of l.tables l.locals l.fn.operands;
}

abbrev pub decreases-each : goal.decreases-each
decreases-each l = length l.left
