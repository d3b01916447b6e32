use Rattle.std.proofs.Common.{◌≢◌, ◌∙◌, ℕ, List, [], sym, ap, subst}
use Rattle.std.specs.Prelude.{flat_map}
use Rattle.std.proofs.lemmas.List.{append-nil}
use Rattle.mu_model.specs.declared.lines.Line.{Line}
use Rattle.mu_model.specs.Outcomes.{Stuck}
use Rattle.mu_model.specs.Programs.{named}
use Rattle.mu_step.specs.Running.{Running}
use Rattle.odometer.specs.Odometer.{path}
use Rattle.search_laws.specs.Moved.{with_picks, step_tree}
use Rattle.run_search.specs.Playing.{answered_step}
use Rattle.run_search.specs.Steps.{AllHaveRules, StepsOn, StepEnds, if_none, if_some, with_ok}
use Rattle.run_search.proofs.playing.next_step.Goals as goal

pub least_local-requires : goal.least_local-requires
least_local-requires g c = record {
  rules = subst (λ b. (picks : List ℕ) → answered_step (named b) (with_picks picks c.args.machine.now.configuration) ≢ Stuck) (sym c.requires.same) c.requires.rules;
}

pub first_step-requires-clause-same : goal.first_step-requires-clause-same
first_step-requires-clause-same g c = ap (λ (m : Running). m.bundle) c.least_local.ensures.same ∙ c.requires.same

pub first_step-requires-clause-rules : goal.first_step-requires-clause-rules
first_step-requires-clause-rules g c = subst (λ (m : Running). AllHaveRules (named c.args.code.now) m.configuration) (sym c.least_local.ensures.same) c.requires.rules

pub returns-in_ok-first_step-in-Some-clause-left : goal.returns-in_ok-first_step-in-Some-clause-left
returns-in_ok-first_step-in-Some-clause-left g c = c.requires.left ∙ sym (c.in_ok-first_step-in-Some.ensures.left ∙ ap (λ (m : Running). m.configuration.picks) c.least_local.ensures.same)

pub returns-in_ok-first_step-in-Some-clause-went : goal.returns-in_ok-first_step-in-Some-clause-went
returns-in_ok-first_step-in-Some-clause-went g c = record {
  picks = [];
  noted = sym (append-nil c.args.made.now.items);
  on =
      subst (λ (m : Running). StepsOn (named c.args.code.now) m.configuration c.first_step.new.machine.configuration [] (flat_map (λ (ls : List Line). ls) c.args.kept.now.items) (flat_map (λ (ls : List Line). ls) c.first_step.new.kept.items)
      c.args.schedule.now.items c.first_step.new.schedule.items) c.least_local.ensures.same c.in_ok-first_step-in-Some.ensures.went;
}

pub returns-in-None-clause-went : goal.returns-in-None-clause-went
returns-in-None-clause-went g c =
    with_ok _ _ _
    (λ noted ending. if_none _ _
    (λ s. record {
      picks = path (step_tree (named c.args.code.now) c.least_local.new.self.configuration) c.least_local.new.self.configuration.picks;
      noted = noted;
      on =
          subst (λ (m : Running). StepsOn (named c.args.code.now) m.configuration c.other_step.new.machine.configuration (path (step_tree (named c.args.code.now) c.least_local.new.self.configuration) c.least_local.new.self.configuration.picks) (flat_map (λ (ls : List Line). ls) c.args.kept.now.items) (flat_map (λ (ls : List Line). ls) c.other_step.new.kept.items)
          c.args.schedule.now.items c.other_step.new.schedule.items) c.least_local.ensures.same s;
    }) ending)
    c.other_step.result c.other_step.ensures.picks c.other_step.ensures.went

pub returns-in-None-clause-ended : goal.returns-in-None-clause-ended
returns-in-None-clause-ended g c =
    with_ok _ _ _
    (λ noted ending. if_some _ _
    (λ e s. record {
      picks = path (step_tree (named c.args.code.now) c.least_local.new.self.configuration) c.least_local.new.self.configuration.picks;
      noted = noted;
      ends =
          subst (λ (m : Running). StepEnds (named c.args.code.now) m.configuration (path (step_tree (named c.args.code.now) c.least_local.new.self.configuration) c.least_local.new.self.configuration.picks) (flat_map (λ (ls : List Line). ls) c.args.kept.now.items) (flat_map (λ (ls : List Line). ls) c.other_step.new.kept.items)
          c.args.schedule.now.items c.other_step.new.schedule.items e) c.least_local.ensures.same s;
    }) ending)
    c.other_step.result c.other_step.ensures.picks c.other_step.ensures.ended
