use Rattle.std.proofs.Common.{◌≡◌, [], ◌∷◌, length}
use Rattle.text_forms.specs.declared.symbol.Symbol.TheVariants as symbols
use Rattle.text_forms.specs.Forms.{until}
use Rattle.text_forms.specs.Reading.{read}
use Rattle.text_forms.specs.Answers.{with_front}
use Rattle.conditions.specs.Grammar.{atom}
use Rattle.conditions.proofs.parts.atoms.Given as goal

abbrev pub invariant-each : goal.invariant-each
invariant-each l = with_front l.atoms (read (until (symbols.Close ∷ []) (atom l.names)) l.cursor) ≡ read (until (symbols.Close ∷ []) (atom l.names)) l.fn.cursor

abbrev pub decreases-each : goal.decreases-each
decreases-each l = length l.cursor
