use Rattle.kin_laws.specs.Lemmas.Parts.{leaves_kin}
use Rattle.kin_laws.proofs.laws.kin_have_as_many_leaves.Goals as goal

pub returns : goal.returns
returns c = leaves_kin c.args.first.now c.args.second.now c.requires.first c.requires.first_finite c.requires.second c.requires.second_finite
