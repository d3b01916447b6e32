use Rattle.std.proofs.Common.{◌≡◌, ℕ, suc, ◌+◌, ◌-◌, List, Some, subst, sym, ◌∙◌, arith}
use Rattle.ir_tree.specs.declared.items.Item.{Item}
use Rattle.mu_model.specs.Programs.{named}
use Rattle.mu_model.specs.Run.{run}
use Rattle.model_laws.specs.Bounds.{HasEnding}
use Rattle.mu_command.specs.Steps.{IsCounted, tally_behind}
use Rattle.mu_command.proofs.InSteps.{not_stuck, no_more}
use Rattle.mu_command.proofs.Tallies.{goes_on, has_ending, ends_so}
use Rattle.mu_command.proofs.counting.count_run.Goals as goal

pub count_step-requires-clause-there : goal.count_step-requires-clause-there
count_step-requires-clause-there g c =
    let e : c.steps.left ≡ suc (c.steps.left - 1) = omega (arith, c.steps-test.true) in
    not_stuck (named c.steps.machine.bundle) (c.steps.left - 1) c.steps.machine.configuration
    (subst (λ (k : ℕ). HasEnding (run (named c.steps.machine.bundle) k c.steps.machine.configuration)) e
    (subst (λ (b : List Item). HasEnding (run (named b) c.steps.left c.steps.machine.configuration)) (sym c.steps.invariant.bundle) c.steps.invariant.ends))

pub steps-preserved : goal.steps-preserved
steps-preserved g c =
    let bundle = c.args.machine.now.bundle in
    let e : c.steps.left ≡ suc (c.steps.left - 1) = omega (arith, c.steps-test.true) in
    let one : IsCounted bundle c.steps.machine.configuration c.count_step.new.machine.configuration c.in_ok-step.step =
    subst (λ (b : List Item). IsCounted b c.steps.machine.configuration c.count_step.new.machine.configuration c.in_ok-step.step) c.steps.invariant.bundle c.in_ok-step.ensures.counted in
    record {
      bundle = c.count_step.ensures.same ∙ c.steps.invariant.bundle;
      fresh = c.in_ok-step.ensures.fresh c.in-None.is;
      ends =
          has_ending bundle (c.steps.left - 1) c.steps.machine.configuration c.count_step.new.machine.configuration c.steps.steps c.steps.events c.in_ok-step.step one c.in-None.is
          (subst (λ (k : ℕ). HasEnding (run (named bundle) k c.steps.machine.configuration)) e c.steps.invariant.ends);
      whole =
          subst (λ (k : ℕ). tally_behind 0 0 (run (named bundle) c.args.limit c.args.machine.now.configuration) ≡ tally_behind c.steps.steps c.steps.events (run (named bundle) k c.steps.machine.configuration)) e c.steps.invariant.whole
          ∙ goes_on bundle (c.steps.left - 1) c.steps.machine.configuration c.count_step.new.machine.configuration c.steps.steps c.steps.events c.in_ok-step.step one c.in-None.is;
      steps = omega (arith, c.steps-test.true);
      events = omega arith;
    }

pub returns-in-Some : goal.returns-in-Some
returns-in-Some g c =
    let bundle = c.args.machine.now.bundle in
    let e : c.steps.left ≡ suc (c.steps.left - 1) = omega (arith, c.steps-test.true) in
    let one : IsCounted bundle c.steps.machine.configuration c.count_step.new.machine.configuration c.in_ok-step.step =
    subst (λ (b : List Item). IsCounted b c.steps.machine.configuration c.count_step.new.machine.configuration c.in_ok-step.step) c.steps.invariant.bundle c.in_ok-step.ensures.counted in
    let done : tally_behind 0 0 (run (named bundle) c.args.limit c.args.machine.now.configuration) ≡ Some (record { steps = c.steps.steps; events = c.steps.events + c.in_ok-step.step.events; ending = c.in-Some.ending }) =
    subst (λ (k : ℕ). tally_behind 0 0 (run (named bundle) c.args.limit c.args.machine.now.configuration) ≡ tally_behind c.steps.steps c.steps.events (run (named bundle) k c.steps.machine.configuration)) e c.steps.invariant.whole
    ∙ ends_so bundle (c.steps.left - 1) c.steps.machine.configuration c.count_step.new.machine.configuration c.steps.steps c.steps.events c.in_ok-step.step one c.in-Some.ending c.in-Some.is in
    cc

pub unreachable-requires : goal.unreachable-requires
unreachable-requires g c = no_more (named c.args.machine.now.bundle) c.steps.left c.steps.machine.configuration (omega (arith, c.steps-test.false)) c.steps.invariant.ends
