-- Laws of a machine's step.
use Rattle.std.specs.Prelude.{◌≡◌, ◌≢◌, ℕ, List, [], Option, None, Result, IfOk}
use Rattle.std.proofs.Common.{sym, ◌∙◌, ap, subst}
use Rattle.demands.specs.Demands.{first_unmet}
use Rattle.ir_tree.specs.declared.items.Item.{Item}
use Rattle.bundle_names.specs.Naming.{name_demands}
use Rattle.checked_code.specs.Checking.{check_demands}
use Rattle.mu_model.specs.declared.endings.StepEnd.{StepEnd}
use Rattle.mu_model.specs.declared.endings.StepEnd.TheVariants.{Went, Ended}
use Rattle.mu_model.specs.declared.endings.Ending.{Ending}
use Rattle.mu_model.specs.declared.lines.Line.{Line}
use Rattle.mu_model.specs.Configuration.{Configuration}
use Rattle.mu_model.specs.Programs.{named}
use Rattle.mu_model.specs.Outcomes.{Outcome, Stuck}
use Rattle.mu_model.specs.Step.{step}
use Rattle.model_numbers.specs.Laws.{ProgramsAreSame}
use Rattle.model_numbers.specs.Numbered.{numbered}
use Rattle.client_hooks.specs.Ways.{Way, client_answers_by}
use Rattle.run_state.specs.Outcome.{outcome_of}
use Rattle.run_state.specs.Held.{Held, configuration}
use Rattle.run_state.specs.Acting.{told}
use Rattle.run_state.specs.Options.{step_options}
use Rattle.mu_step.specs.LeastLocal.{IsLeastAt}
use Rattle.mu_step.specs.Locals.{AllHaveRules}
use Rattle.mu_step.specs.Running.{without_lines}

-- a step by numbers is one by names
pub steps_there : (how : Way) (bundle : List Item) (c : Configuration) → ProgramsAreSame → first_unmet (name_demands bundle) ≡ None → first_unmet (check_demands bundle) ≡ None
    → client_answers_by how (named bundle) c.client (step (named bundle) c) ≢ Stuck → told how bundle c.client (step (numbered bundle) c) ≢ Stuck
steps_there how bundle c same are met h = λ e. h (ap (λ p. client_answers_by how p c.client (step p c)) (same bundle are met) ∙ e)

pub steps_answer : (how : Way) (bundle : List Item) (s t : Held) (end : StepEnd) → ProgramsAreSame → first_unmet (name_demands bundle) ≡ None → first_unmet (check_demands bundle) ≡ None
    → outcome_of end (configuration t) ≡ told how bundle (configuration s).client (step (numbered bundle) (configuration s))
    → outcome_of end (configuration t) ≡ client_answers_by how (named bundle) (configuration s).client (step (named bundle) (configuration s))
steps_answer how bundle s t end same are met h = h ∙ ap (λ p. client_answers_by how p (configuration s).client (step p (configuration s))) (sym (same bundle are met))

-- so many options
pub options_same : (bundle : List Item) (c : Configuration) → ProgramsAreSame → first_unmet (name_demands bundle) ≡ None → first_unmet (check_demands bundle) ≡ None → step_options (named bundle) c ≡ step_options (numbered bundle) c
options_same bundle c same are met = ap (λ p. step_options p c) (same bundle are met)

-- whichever numbers are left
pub all_there : (how : Way) (bundle : List Item) (c : Configuration) → ProgramsAreSame → first_unmet (name_demands bundle) ≡ None → first_unmet (check_demands bundle) ≡ None
    → ((picks : List ℕ) → client_answers_by how (named bundle) c.client (step (named bundle) (record c { picks = picks })) ≢ Stuck) → AllHaveRules how bundle c
all_there how bundle c same are met h = λ picks. steps_there how bundle (record c { picks = picks }) same are met (h picks)

-- the same place
pub least_same : {E : Type 0} (bundle : List Item) (c : Configuration) (r : Result (Option ℕ) E) → ProgramsAreSame → first_unmet (name_demands bundle) ≡ None → first_unmet (check_demands bundle) ≡ None
    → IfOk r (IsLeastAt (numbered bundle) c) → IfOk r (IsLeastAt (named bundle) c)
least_same bundle c r same are met h = subst (λ p. IfOk r (IsLeastAt p c)) (sym (same bundle are met)) h

-- what comes again: a step that went on went so, and one that ended says its ending without its lines
pub went_again : (o : Outcome) (d : Configuration) (ls : List Line) (end : StepEnd) → outcome_of (Went ls) d ≡ o → end ≡ Went ls → outcome_of end d ≡ without_lines o
went_again o d ls end e is = ap (λ (end : StepEnd). outcome_of end d) is ∙ ap without_lines e

pub ended_again : (o : Outcome) (d : Configuration) (ls : List Line) (e : Ending) (end : StepEnd) → outcome_of (Ended ls e) d ≡ o → end ≡ Ended [] e → outcome_of end d ≡ without_lines o
ended_again o d ls e end same is = ap (λ (end : StepEnd). outcome_of end d) is ∙ ap without_lines same

pub ruleset machines = (steps_there, steps_answer, went_again, ended_again)

pub ruleset least_machines = (all_there, least_same)
