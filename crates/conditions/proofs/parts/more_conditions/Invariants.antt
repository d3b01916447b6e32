use Rattle.std.proofs.Common.{◌≡◌, [], ◌∷◌, length}
use Rattle.text_forms.specs.declared.symbol.Symbol.TheVariants as symbols
use Rattle.text_forms.specs.Forms.{until}
use Rattle.text_forms.specs.Reading.{read}
use Rattle.text_forms.specs.Answers.{with_front}
use Rattle.conditions.specs.Grammar.{condition}
use Rattle.conditions.proofs.parts.more_conditions.Given as goal

abbrev pub invariant-each : goal.invariant-each
invariant-each l = with_front l.conditions (read (until (symbols.End ∷ []) (condition l.names)) l.cursor) ≡ with_front (l.fn.first ∷ []) (read (until (symbols.End ∷ []) (condition l.names)) l.fn.cursor)

abbrev pub decreases-each : goal.decreases-each
decreases-each l = length l.cursor
