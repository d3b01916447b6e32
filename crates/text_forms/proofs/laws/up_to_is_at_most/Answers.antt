use Rattle.text_forms.specs.Lemmas.Usual.{up_to_is_short, up_to_unlimited}
use Rattle.text_forms.proofs.laws.up_to_is_at_most.Goals as goal

pub returns : goal.returns
returns g c = record { short = up_to_is_short g.G.Grammar.form; unlimited = up_to_unlimited g.G.Grammar.form }
