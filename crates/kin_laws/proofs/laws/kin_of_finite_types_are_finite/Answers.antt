use Rattle.kin_laws.specs.Lemmas.Parts.{finite_kin}
use Rattle.kin_laws.proofs.laws.kin_of_finite_types_are_finite.Goals as goal

pub returns : goal.returns
returns c = finite_kin c.args.first.now c.args.second.now c.requires.first c.requires.finite
