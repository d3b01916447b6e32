use Rattle.std.proofs.Common.{◌≡◌, sym, subst}
use Rattle.run_state.specs.Held.{Held}
use Rattle.run_state.specs.Hand.{waits_none}
use Rattle.run_state.specs.StepLaws.{GoesOn}
use Rattle.memory_acts.specs.Counting.{stepping_count, waiting_one, going_count, counted_so}
use Rattle.mu_step.proofs.options.turn_options.Goals as goal

pub returns-in-Some : goal.returns-in-Some
returns-in-Some g c = subst (λ (s : Held). 1 ≡ stepping_count c.args.code.now s) c.state.view_is (sym (waiting_one c.args.code.now _ c.in-Some._cell c.in-Some.ensures))

pub returns-in-None : goal.returns-in-None
returns-in-None g c =
    counted_so c.instruction_options.result _ _
    (going_count c.args.code.now c.args.state.now (subst (λ (s : Held). GoesOn s) c.state.view_is (waits_none _ (sym c.in-None.ensures)))) c.instruction_options.ensures
