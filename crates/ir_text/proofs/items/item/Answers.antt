use Rattle.std.proofs.Common.{◌≡◌, Err, sym, ap}
use Rattle.ir_tree.specs.Items.{item}
use Rattle.ir_text.proofs.Choices.{passed}
use Rattle.ir_text.proofs.items.item.Goals as goal

pub returns-in_default : goal.returns-in_default
unfolding item
returns-in_default c =
    let no = passed (λ r. r ≡ Err c.refusal.result) c.args.cursor.now c.symbol.result c.symbol.ensures in
    let other = c.in_default in
    no _ _ _ other.not-DotTypedef (no _ _ _ other.not-DotFuncsig (no _ _ _ other.not-DotConst
    (no _ _ _ other.not-DotGlobal (no _ _ _ other.not-DotFuncdecl (no _ _ _ other.not-DotFuncdef
    (ap Err (sym c.refusal.ensures)))))))
