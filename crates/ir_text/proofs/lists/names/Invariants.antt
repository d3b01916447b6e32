use Rattle.std.proofs.Common.{◌≡◌, [], ◌∷◌, length}
use Rattle.text_forms.specs.Forms.{up_to_from}
use Rattle.text_forms.specs.Reading.{read}
use Rattle.text_forms.specs.Answers.{with_front}
use Rattle.ir_lex.specs.TokenForms.{name}
use Rattle.ir_text.proofs.lists.names.Given as goal

abbrev pub invariant-each : goal.invariant-each
invariant-each l =
    with_front l.names (read (up_to_from (length l.names) 256 (l.closing ∷ []) (name l.symbols)) l.cursor)
    ≡ with_front l.fn.front (read (up_to_from (length l.fn.front) 256 (l.fn.closing ∷ []) (name l.fn.symbols)) l.fn.cursor)

abbrev pub decreases-each : goal.decreases-each
decreases-each l = length l.cursor
