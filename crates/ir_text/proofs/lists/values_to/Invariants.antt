use Rattle.std.proofs.Common.{◌≡◌, [], ◌∷◌, length}
use Rattle.text_forms.specs.declared.symbol.Symbol.TheVariants as symbols
use Rattle.text_forms.specs.Forms.{up_to, up_to_from}
use Rattle.text_forms.specs.Reading.{read}
use Rattle.text_forms.specs.Answers.{with_front}
use Rattle.ir_tree.specs.Lists.{value}
use Rattle.ir_text.proofs.lists.values_to.Given as goal

abbrev pub invariant-each : goal.invariant-each
invariant-each l =
    with_front l.values (read (up_to_from (length l.values) 256 (symbols.Close ∷ []) value) l.cursor)
    ≡ read (up_to 256 (symbols.Close ∷ []) value) l.fn.cursor

abbrev pub decreases-each : goal.decreases-each
decreases-each l = length l.cursor
