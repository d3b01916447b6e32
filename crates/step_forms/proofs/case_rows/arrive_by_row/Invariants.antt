use Rattle.std.proofs.Common.{◌≡◌, map, length}
use Rattle.mu_model.specs.ControlForms.{switch_act, first_equal}
use Rattle.model_numbers.specs.Sources.{value_at, goal_at}
use Rattle.model_numbers.specs.Forms.{arm_at}
use Rattle.step_forms.specs.CaseRows.{case_bits}
use Rattle.step_forms.proofs.case_rows.arrive_by_row.Given as goal

abbrev pub invariant-cases : goal.invariant-cases
invariant-cases l = record {
  same : switch_act (value_at l.code l.vars l.operands.operand) (goal_at l.code l.vars l.operands.default.now) (map (arm_at l.code l.vars) l.operands.cases.now) ≡
      first_equal l.wanted (goal_at l.code l.vars l.operands.default.now) (map (arm_at l.code l.vars) l.left);
  row : l.others ≡ map (case_bits l.code) l.left;
}

abbrev pub decreases-cases : goal.decreases-cases
decreases-cases l = length l.others
