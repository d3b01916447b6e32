use Rattle.text_forms.specs.Lemmas.Judged.{read_is_derived}
use Rattle.text_forms.proofs.laws.what_is_read_is_derived.Goals as goal

pub returns : goal.returns
returns g c = read_is_derived g.G.Grammar.form
