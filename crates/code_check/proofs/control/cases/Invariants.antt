use Rattle.std.proofs.Common.{◌≡◌, length, ◌++◌}
use Rattle.demands.specs.Demands.{first_unmet}
use Rattle.checked_code.specs.Control.{case_demands, cases_code}
use Rattle.code_check.proofs.control.cases.Given as goal

abbrev pub invariant-each : goal.invariant-each
invariant-each l = record {
  left : first_unmet (case_demands l.scene.tables.now l.scene.body.now l.scene.locals.now l.name l.left) ≡ first_unmet (case_demands l.scene.tables.now l.scene.body.now l.scene.locals.now l.name l.fn.cases);
  made : l.forms ++ cases_code l.scene.tables.now l.scene.body.now l.scene.locals.now l.left ≡ cases_code l.scene.tables.now l.scene.body.now l.scene.locals.now l.fn.cases;
}

abbrev pub decreases-each : goal.decreases-each
decreases-each l = length l.left
