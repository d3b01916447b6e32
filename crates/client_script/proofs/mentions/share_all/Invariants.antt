use Rattle.std.proofs.Common.{◌≡◌, length}
use Rattle.text_forms.specs.Tokens.{IsText}
use Rattle.client_script.proofs.mentions.share_all.Given as goal

abbrev pub invariant-each : goal.invariant-each
invariant-each l = IsText l.cursor × (l.shared ≡ l.code)

abbrev pub decreases-each : goal.decreases-each
decreases-each l = length l.cursor
