use Rattle.text_forms.specs.Lemmas.Judged.{is_judged, is_not_both}
use Rattle.text_forms.proofs.laws.each_text_is_judged.Goals as goal

pub returns : goal.returns
returns g c = record { one = is_judged g.G.Grammar.form; not_both = is_not_both g.G.Grammar.form }
