use Rattle.bundle_facts.specs.Lemmas.Accepted as facts
use Rattle.bundle_facts.proofs.laws.classes_decide_fits.Goals as goal

pub returns : goal.returns
returns c = facts.classes_decide_fits
