use Rattle.std.proofs.Common.{◌≡◌, [], ◌∷◌, length}
use Rattle.text_forms.specs.declared.symbol.Symbol.TheVariants as symbols
use Rattle.text_forms.specs.Forms.{until}
use Rattle.text_forms.specs.Reading.{read}
use Rattle.text_forms.specs.Answers.{with_front}
use Rattle.hail_load.specs.Sources.{index}
use Rattle.hail_load.proofs.tokens.indexes.Given as goal

abbrev pub invariant-each : goal.invariant-each
invariant-each l = with_front l.indexes (read (until (symbols.Equals ∷ []) index) l.cursor) ≡ read (until (symbols.Equals ∷ []) index) l.fn.cursor

abbrev pub decreases-each : goal.decreases-each
decreases-each l = length l.cursor
