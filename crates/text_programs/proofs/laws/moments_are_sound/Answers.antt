use Rattle.text_programs.specs.Lemmas.Moments.{moments_are_sound}
use Rattle.text_programs.proofs.laws.moments_are_sound.Goals as goal

pub returns : goal.returns
returns c = moments_are_sound
