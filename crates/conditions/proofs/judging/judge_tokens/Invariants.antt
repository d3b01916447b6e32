use Rattle.std.proofs.Common.{◌≡◌, length}
use Rattle.conditions.specs.declared.before.Before.TheVariants as places
use Rattle.text_forms.specs.Tokens.{IsText}
use Rattle.ir_lex.specs.Walk.{tokens_from}
use Rattle.conditions.proofs.TokenJudging.{from_here}
use Rattle.conditions.proofs.judging.judge_tokens.Given as goal

abbrev pub invariant-each : goal.invariant-each
invariant-each l = IsText l.cursor × (from_here l.names l.before l.stop l.cursor ≡ from_here l.names places.Outside l.stop (tokens_from l.text 0))

abbrev pub decreases-each : goal.decreases-each
decreases-each l = length l.cursor
