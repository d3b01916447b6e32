use Rattle.text_forms.specs.Answers.{Gives}
use Rattle.ir_tree.specs.Accesses.{access}
use Rattle.ir_text.proofs.Choices.{passed}
use Rattle.ir_text.proofs.accesses.access.Goals as goal

pub returns-in_default : goal.returns-in_default
unfolding access
returns-in_default c =
    let no = passed (Gives c.fence.result c.fence.new.cursor) c.args.cursor.now c.symbol.result c.symbol.ensures in
    let other = c.in_default in
    no _ _ _ other.not-Load (no _ _ _ other.not-Store (no _ _ _ other.not-Cmpxchg (no _ _ _ other.not-Atomicrmw
    c.fence.ensures)))
