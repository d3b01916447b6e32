use Rattle.operand_laws.proofs.Picks.{steps_are_turns, steps_made_are_turns}
use Rattle.operand_laws.proofs.laws.steps_are_turns.Goals as goal

pub returns-clause-each : goal.returns-clause-each
returns-clause-each c = steps_are_turns

pub returns-clause-made : goal.returns-clause-made
returns-clause-made c = steps_made_are_turns
