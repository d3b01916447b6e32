use Rattle.text_forms.specs.Answers.{Gives}
use Rattle.ir_tree.specs.Objects.{addressing_form}
use Rattle.ir_text.proofs.Choices.{passed}
use Rattle.ir_text.proofs.objects.addressing_form.Goals as goal

pub returns-in_default : goal.returns-in_default
unfolding addressing_form
returns-in_default c =
    let no = passed (Gives c.getvarpartiref.result c.getvarpartiref.new.cursor) c.args.cursor.now c.symbol.result c.symbol.ensures in
    let other = c.in_default in
    no _ _ _ other.not-Getiref (no _ _ _ other.not-Getfieldiref (no _ _ _ other.not-Getelemiref
    (no _ _ _ other.not-Shiftiref c.getvarpartiref.ensures)))
