use Rattle.std.proofs.Common.{◌≡◌, length}
use Rattle.text_forms.specs.Reading.{read}
use Rattle.hail_load.specs.Grammar.{hail}
use Rattle.hail_load.proofs.ScriptLoops.{so_far}
use Rattle.hail_load.proofs.commands.hail.Given as goal

abbrev pub invariant-each : goal.invariant-each
invariant-each l = so_far l.script l.cursor ≡ read hail l.fn.cursor

abbrev pub decreases-each : goal.decreases-each
decreases-each l = length l.cursor
