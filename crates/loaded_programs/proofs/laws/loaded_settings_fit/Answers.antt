use Rattle.loaded_programs.proofs.Fitted.{loaded_settings_fit}
use Rattle.loaded_programs.proofs.laws.loaded_settings_fit.Goals as goal

pub returns : goal.returns
returns c = loaded_settings_fit
