use Rattle.run_state.specs.Passing.{optional_at}
use Rattle.run_state.proofs.waiting.handler.Goals as goal

pub returns-in_ok-read_goal-in-Some : goal.returns-in_ok-read_goal-in-Some
returns-in_ok-read_goal-in-Some c = optional_at c.args.code.now _ _ _ _ _ c.of.ensures c.in-Some.is c.in_ok-read_goal-in-Some.ensures
