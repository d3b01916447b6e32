use Rattle.text_programs.specs.Lemmas.Texts.{plain_settings_fit}
use Rattle.text_programs.proofs.laws.plain_settings_fit.Goals as goal

pub returns : goal.returns
returns c = plain_settings_fit
