use Rattle.mu_command.proofs.Moments.{ended}
use Rattle.mu_command.proofs.sound.runs_have_their_endings.Goals as goal

pub returns : goal.returns
returns c = λ words. ended words c.answer_is_one.ensures c.entered_runs_have_an_ending.ensures c.loaded_settings_fit.ensures
