use Rattle.way_laws.proofs.Running.{moments_are_sound}
use Rattle.way_laws.proofs.laws.moments_by_ways_are_sound.Goals as goal

pub returns : goal.returns
returns c = moments_are_sound
