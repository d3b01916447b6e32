use Rattle.trap_acts.specs.TrapLaws.{answers_ended}
use Rattle.trap_acts.proofs.TrapViews.{misuse_lines}
use Rattle.trap_acts.proofs.asking.misuse.Goals as goal

pub returns-clause-is : goal.returns-clause-is
returns-clause-is g c = λ s. answers_ended s _ _ _ _ (misuse_lines _ _ _ _ c.args.note _ c.state.view_is c.state.invariant.1 c.in_ok-lines.ensures c.new.ensures) c.case_ending.ensures
