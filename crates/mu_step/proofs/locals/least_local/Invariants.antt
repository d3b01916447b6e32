use Rattle.std.specs.Prelude.{◌≡◌, ◌-◌, drop, find}
use Rattle.local_steps.specs.IsLocal.{is_local}
use Rattle.mu_model.specs.Step.{runnable}
use Rattle.model_numbers.specs.Numbered.{numbered}
use Rattle.run_state.specs.Held.{configuration}
use Rattle.mu_step.proofs.locals.least_local.Given as goal

-- no step of a thread before this place is local
abbrev pub invariant-places : goal.invariant-places
invariant-places g l = record {
  same : configuration l.state ≡ configuration l.initial.state;
  whole : l.state.skip ≡ 0;
  none :
      find (is_local (numbered l.code) (configuration l.initial.state)) (runnable (configuration l.initial.state))
      ≡ find (is_local (numbered l.code) (configuration l.initial.state)) (drop l.place (runnable (configuration l.initial.state)));
}

abbrev pub decreases-places : goal.decreases-places
decreases-places g l = l.many - l.place
