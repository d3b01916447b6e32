use Rattle.text_forms.specs.Lemmas.Judged.{fault_is_first}
use Rattle.text_forms.proofs.laws.what_is_refused_is_the_first_fault.Goals as goal

pub returns : goal.returns
returns g c = fault_is_first g.G.Grammar.form
