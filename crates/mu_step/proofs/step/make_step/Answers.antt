use Rattle.std.proofs.Common.{◌≡◌, IfOk, sym, ◌∙◌, subst}
use Rattle.checked_code.specs.Checking.{bundle_tables}
use Rattle.mu_model.specs.Configuration.{Configuration}
use Rattle.mu_model.specs.Step.{step}
use Rattle.model_numbers.specs.Numbered.{numbered}
use Rattle.run_state.specs.Held.{configuration}
use Rattle.run_state.specs.Outcome.{outcome_of}
use Rattle.run_state.specs.Acting.{told}
use Rattle.run_state.specs.Hand.{settled}
use Rattle.good_casts.specs.Good.{AreGood}
use Rattle.mu_step.proofs.step.make_step.Goals as goal

pub turn-end-requires-clause-casts : goal.turn-end-requires-clause-casts
turn-end-requires-clause-casts g c = subst (λ (d : Configuration). AreGood (bundle_tables c.args.code.now) d.objects c.args.casts.now) (sym c.pick_thread.ensures.back) c.requires.casts

pub returns-clause-ok : goal.returns-clause-ok
returns-clause-ok g c =
    subst (λ k. IfOk c.turn-end.result (λ end. outcome_of end (configuration c.settle.new.state) ≡ told g.C.Determined.way c.args.code.now k (step (numbered c.args.code.now) (configuration c.args.state.now)))) c.pick_thread.ensures.client
    (settled g.C.Determined.way c.args.code.now c.pick_thread.new.state.client c.turn-end.result c.args.state.now c.pick_thread.new.state c.turn-end.new.state c.settle.new.state (c.pick_thread.ensures.step c.args.code.now) c.turn-end.ensures.ok (λ e. c.settle.ensures.made (c.is_made.ensures ∙ e)))

pub returns-clause-casts : goal.returns-clause-casts
returns-clause-casts g c = subst (λ (d : Configuration). AreGood (bundle_tables c.args.code.now) d.objects c.turn-end.new.casts) c.pick_thread.ensures.back c.turn-end.ensures.casts
