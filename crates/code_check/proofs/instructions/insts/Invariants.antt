use Rattle.std.proofs.Common.{◌≡◌, length, false, ◌++◌}
use Rattle.demands.specs.Demands.{first_unmet}
use Rattle.checked_code.specs.Instructions.{insts_demands, insts_code, after_all, ends}
use Rattle.code_check.proofs.instructions.insts.Given as goal

abbrev pub invariant-each : goal.invariant-each
invariant-each l = record {
  left : first_unmet (insts_demands l.tables l.body l.locals l.ended l.left) ≡ first_unmet (insts_demands l.tables l.body l.fn.locals false l.fn.insts);
  made : l.code ++ insts_code l.tables l.body l.locals l.left ≡ insts_code l.tables l.body l.fn.locals l.fn.insts;
  after : after_all l.tables l.locals l.left ≡ after_all l.tables l.fn.locals l.fn.insts;
  ends : ends l.ended l.left ≡ ends false l.fn.insts;
}

abbrev pub decreases-each : goal.decreases-each
decreases-each l = length l.left
