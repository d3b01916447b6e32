use Rattle.text_programs.specs.Lemmas.Moments.{endings_are_sound}
use Rattle.text_programs.proofs.laws.endings_are_sound.Goals as goal

pub returns : goal.returns
returns c = endings_are_sound
