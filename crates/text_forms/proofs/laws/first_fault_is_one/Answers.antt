use Rattle.text_forms.specs.Lemmas.Judged.{has_one_fault}
use Rattle.text_forms.proofs.laws.first_fault_is_one.Goals as goal

pub returns : goal.returns
returns g c = has_one_fault g.G.Grammar.form
