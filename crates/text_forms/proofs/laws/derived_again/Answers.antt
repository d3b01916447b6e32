use Rattle.text_forms.proofs.Again.{derives_again}
use Rattle.text_forms.proofs.laws.derived_again.Goals as goal

pub returns : goal.returns
returns g c = derives_again g.G.Grammar.form
