use Rattle.std.proofs.Common.{◌∙◌, ap}
use Rattle.step_forms.specs.Asked.{access_of}
use Rattle.run_state.specs.Held.{Held}
use Rattle.run_state.specs.Hand.{hand_made}
use Rattle.memory_acts.specs.CountViews.{counted}
use Rattle.thread_acts.proofs.state.State.cell_options.Goals as goal

pub count_options-requires-clause-thread : goal.count_options-requires-clause-thread
count_options-requires-clause-thread g c = hand_made _ _ _ _ _ c.self.invariant.5 (ap (λ (s : Held). s.left) c.self.view_is ∙ c.requires.left)

pub returns : goal.returns
returns g c = counted c.args.self.now _ (access_of c.args.access) c.args.cell _ _ c.count_options.result c.self.view_is c.self.invariant.0 c.wanted.ensures c.count_options.ensures
