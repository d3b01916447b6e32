use Rattle.std.proofs.Common.{◌≢◌, ℕ, List, sym, subst}
use Rattle.mu_model.specs.Outcomes.{Stuck}
use Rattle.mu_model.specs.Programs.{named}
use Rattle.mu_model.specs.Step.{step}
use Rattle.client_hooks.specs.Ways.{client_answers_by}
use Rattle.run_state.specs.Held.{configuration}
use Rattle.mu_step.specs.Machines.{all_there}
use Rattle.mu_step.specs.Running.{Running}
use Rattle.mu_step.proofs.machine.Machine.least_local.Goals as goal

pub least_local-requires-clause-rules : goal.least_local-requires-clause-rules
least_local-requires-clause-rules g c =
    all_there g.C.Determined.way c.self.inside.code.now (configuration c.self.inside.state) c.programs_are_same.ensures c.items-items.ensures.named c.items-items.ensures.met
    (subst (λ (m : Running). (picks : List ℕ) → client_answers_by g.C.Determined.way (named m.bundle) m.configuration.client (step (named m.bundle) (record m.configuration { picks = picks })) ≢ Stuck) (sym c.self.view_is) c.requires.rules)
