use Rattle.run_state.specs.ActLaws.{call_so}
use Rattle.thread_acts.proofs.state.State.call_at_once.Goals as goal

pub returns-in-Some-clause-made : goal.returns-in-Some-clause-made
returns-in-Some-clause-made g c = λ made. call_so _ _ _ _ _ _ _ c.requires.there c.function.ensures c.in-Some.is (c.enter_at_once.ensures.made made)
