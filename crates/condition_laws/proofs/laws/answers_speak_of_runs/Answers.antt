use Rattle.condition_laws.proofs.Runs.{answers_speak}
use Rattle.condition_laws.proofs.laws.answers_speak_of_runs.Goals as goal

pub returns : goal.returns
returns c = answers_speak
