use Rattle.text_forms.specs.Answers.{Gives}
use Rattle.ir_tree.specs.Control.{control}
use Rattle.ir_text.proofs.Choices.{passed}
use Rattle.ir_text.proofs.flow.control.Goals as goal

pub returns-in_default : goal.returns-in_default
unfolding control
returns-in_default c =
    let no = passed (Gives c.throw.result c.throw.new.cursor) c.args.cursor.now c.symbol.result c.symbol.ensures in
    let other = c.in_default in
    no _ _ _ other.not-Branch (no _ _ _ other.not-Branch2 (no _ _ _ other.not-Switch (no _ _ _ other.not-Call
    (no _ _ _ other.not-Tailcall (no _ _ _ other.not-Ret c.throw.ensures)))))
