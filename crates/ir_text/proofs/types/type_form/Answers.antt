use Rattle.std.proofs.Common.{◌≡◌, Err, sym, ap}
use Rattle.ir_tree.specs.Types.{type_form}
use Rattle.ir_text.proofs.Choices.{passed}
use Rattle.ir_text.proofs.types.type_form.Goals as goal

pub returns-in_default : goal.returns-in_default
unfolding type_form
returns-in_default c =
    let no = passed (λ r. r ≡ Err c.refusal.result) c.args.cursor.now c.symbol.result c.symbol.ensures in
    let other = c.in_default in
    no _ _ _ other.not-Int (no _ _ _ other.not-Struct (no _ _ _ other.not-Array (no _ _ _ other.not-Hybrid
    (no _ _ _ other.not-Void (no _ _ _ other.not-Ref (no _ _ _ other.not-Iref (no _ _ _ other.not-Funcref
    (no _ _ _ other.not-Stackref (no _ _ _ other.not-Threadref (ap Err (sym c.refusal.ensures)))))))))))
