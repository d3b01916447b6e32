use Rattle.std.proofs.Common.{◌≡◌, [], ◌∷◌, length}
use Rattle.text_forms.specs.declared.symbol.Symbol.TheVariants as symbols
use Rattle.text_forms.specs.Forms.{until}
use Rattle.text_forms.specs.Reading.{read}
use Rattle.text_forms.specs.Answers.{with_front}
use Rattle.client_script.specs.Grammar.{argument}
use Rattle.client_script.proofs.parts.arguments.Given as goal

abbrev pub invariant-each : goal.invariant-each
invariant-each l = with_front l.arguments (read (until (symbols.Close ∷ []) (argument l.code)) l.cursor) ≡ read (until (symbols.Close ∷ []) (argument l.code)) l.fn.cursor

abbrev pub decreases-each : goal.decreases-each
decreases-each l = length l.cursor
