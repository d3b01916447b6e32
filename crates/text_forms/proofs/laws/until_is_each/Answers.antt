use Rattle.text_forms.specs.Lemmas.Usual.{until_is_each}
use Rattle.text_forms.proofs.laws.until_is_each.Goals as goal

pub returns : goal.returns
returns g c = until_is_each g.G.Grammar.form
