use Rattle.text_forms.specs.Lemmas.Judged.{is_unambiguous}
use Rattle.text_forms.proofs.laws.grammar_is_unambiguous.Goals as goal

pub returns : goal.returns
returns g c = is_unambiguous g.G.Grammar.form
