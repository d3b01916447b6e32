use Rattle.std.proofs.Common.{◌≡◌, ℕ, suc, ◌-◌, subst, arith}
use Rattle.mu_model.specs.Programs.{named}
use Rattle.mu_model.specs.Run.{run}
use Rattle.mu_texts.specs.Answer.{run_answer}
use Rattle.model_laws.specs.Bounds.{HasEnding}
use Rattle.mu_command.proofs.InSteps.{SoFar, not_stuck, no_more, one_more, is_over}
use Rattle.mu_command.proofs.running.write_steps.Goals as goal

pub make_step-requires-clause-there : goal.make_step-requires-clause-there
make_step-requires-clause-there g c =
    let e : c.steps.left ≡ suc (c.steps.left - 1) = omega (arith, c.steps-test.true) in
    not_stuck (named c.args.code.now) (c.steps.left - 1) c.steps.machine.configuration
    (subst (λ (k : ℕ). HasEnding (run (named c.args.code.now) k c.steps.machine.configuration)) e c.steps.invariant.far.ends)

pub returns-in-Some-clause-writes : goal.returns-in-Some-clause-writes
returns-in-Some-clause-writes g c =
    let whole = run_answer c.args.code.now (run (named c.args.code.now) c.args.steps c.args.machine.now.configuration) in
    let e : c.steps.left ≡ suc (c.steps.left - 1) = omega (arith, c.steps-test.true) in
    is_over c.args.code.now whole (c.steps.left - 1) c.steps.machine.configuration _ (g.S.Sink.written c.steps.out) _ _ (g.S.Sink.ends c.steps.out) _
    (subst (λ (k : ℕ). SoFar c.args.code.now whole (run (named c.args.code.now) k c.steps.machine.configuration) (g.S.Sink.written c.args.out.now) (g.S.Sink.written c.steps.out)
    (g.S.Sink.ends c.args.out.now) (g.S.Sink.ends c.steps.out)) e c.steps.invariant.far) c.in-Some.status c.in-Some.ensures.over

pub steps-preserved : goal.steps-preserved
steps-preserved g c =
    let whole = run_answer c.args.code.now (run (named c.args.code.now) c.args.steps c.args.machine.now.configuration) in
    let e : c.steps.left ≡ suc (c.steps.left - 1) = omega (arith, c.steps-test.true) in
    record {
      far =
          one_more c.args.code.now whole (c.steps.left - 1) c.steps.machine.configuration _ (g.S.Sink.written c.steps.out) _ _ (g.S.Sink.ends c.steps.out) _
          (subst (λ (k : ℕ). SoFar c.args.code.now whole (run (named c.args.code.now) k c.steps.machine.configuration) (g.S.Sink.written c.args.out.now) (g.S.Sink.written c.steps.out)
          (g.S.Sink.ends c.args.out.now) (g.S.Sink.ends c.steps.out)) e c.steps.invariant.far) c.make_step.new.machine.configuration c.in-None.ensures.goes;
      same = c.in-None.ensures.same;
      fresh = c.in-None.ensures.fresh;
      faults = omega arith;
    }

pub unreachable-requires : goal.unreachable-requires
unreachable-requires g c = no_more (named c.args.code.now) c.steps.left c.steps.machine.configuration (omega (arith, c.steps-test.false)) c.steps.invariant.far.ends
