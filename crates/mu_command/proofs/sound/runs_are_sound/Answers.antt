use Rattle.mu_command.proofs.Moments.{sound}
use Rattle.mu_command.proofs.sound.runs_are_sound.Goals as goal

pub returns : goal.returns
returns c = λ words. sound words c.answer_is_one.ensures c.moments_are_sound.ensures c.loaded_settings_fit.ensures
