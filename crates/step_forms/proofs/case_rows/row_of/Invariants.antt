use Rattle.std.proofs.Common.{◌≡◌, ◌++◌, map, length}
use Rattle.step_forms.specs.CaseRows.{case_bits}
use Rattle.step_forms.proofs.case_rows.row_of.Given as goal

abbrev pub invariant-each : goal.invariant-each
invariant-each l = l.row.items ++ map (case_bits l.code) l.left ≡ map (case_bits l.code) l.fn.cases

abbrev pub decreases-each : goal.decreases-each
decreases-each l = length l.left
