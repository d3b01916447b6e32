use Rattle.mem_axioms.specs.Lemmas.Options.{choices-apart}
use Rattle.mem_axioms.proofs.laws.choices_differ.Goals as goal

pub returns : goal.returns
returns c = choices-apart
