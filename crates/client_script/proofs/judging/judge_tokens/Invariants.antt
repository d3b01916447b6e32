use Rattle.std.proofs.Common.{◌≡◌, length}
use Rattle.text_forms.specs.declared.symbol.Symbol.TheVariants as symbols
use Rattle.text_forms.specs.Tokens.{IsText}
use Rattle.ir_lex.specs.Walk.{tokens_from}
use Rattle.client_script.proofs.TokenJudging.{from_here}
use Rattle.client_script.proofs.judging.judge_tokens.Given as goal

abbrev pub invariant-each : goal.invariant-each
invariant-each l = IsText l.cursor × (from_here l.names l.before l.stop l.cursor ≡ from_here l.names symbols.End l.stop (tokens_from l.text 0))

abbrev pub decreases-each : goal.decreases-each
decreases-each l = length l.cursor
