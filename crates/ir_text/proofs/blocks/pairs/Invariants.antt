use Rattle.std.proofs.Common.{◌≡◌, [], ◌∷◌, length}
use Rattle.text_forms.specs.declared.symbol.Symbol.TheVariants as symbols
use Rattle.text_forms.specs.Forms.{up_to, up_to_from}
use Rattle.text_forms.specs.Reading.{read}
use Rattle.text_forms.specs.Answers.{with_front}
use Rattle.ir_tree.specs.Blocks.{pair}
use Rattle.ir_text.proofs.blocks.pairs.Given as goal

abbrev pub invariant-each : goal.invariant-each
invariant-each l =
    with_front l.pairs (read (up_to_from (length l.pairs) 256 (symbols.Close ∷ []) pair) l.cursor)
    ≡ read (up_to 256 (symbols.Close ∷ []) pair) l.fn.cursor

abbrev pub decreases-each : goal.decreases-each
decreases-each l = length l.cursor
