use Rattle.std.proofs.Common.{◌≡◌, [], ◌∷◌, length}
use Rattle.text_forms.specs.declared.symbol.Symbol.TheVariants as symbols
use Rattle.text_forms.specs.Forms.{up_to_from}
use Rattle.text_forms.specs.Reading.{read}
use Rattle.text_forms.specs.Answers.{with_front}
use Rattle.ir_tree.specs.Items.{item, bundle}
use Rattle.ir_text.proofs.items.bundle.Given as goal

abbrev pub invariant-each : goal.invariant-each
invariant-each l =
    with_front l.items (read (up_to_from (length l.items) 16384 (symbols.End ∷ []) item) l.cursor)
    ≡ read bundle l.fn.cursor

abbrev pub decreases-each : goal.decreases-each
decreases-each l = length l.cursor
