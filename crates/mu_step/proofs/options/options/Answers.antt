use Rattle.memory_acts.specs.Counting.{counted_so}
use Rattle.mu_step.proofs.options.options.Goals as goal

pub returns-clause-count : goal.returns-clause-count
returns-clause-count g c = counted_so c.turn_options-options.result _ _ (c.pick_thread.ensures.options c.args.code.now) c.turn_options-options.ensures
