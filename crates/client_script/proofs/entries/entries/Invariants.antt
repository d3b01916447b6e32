use Rattle.std.proofs.Common.{◌≡◌, length}
use Rattle.text_forms.specs.Reading.{read}
use Rattle.client_script.specs.Grammar.{script}
use Rattle.client_script.proofs.EntryLoops.{so_far}
use Rattle.client_script.proofs.entries.entries.Given as goal

abbrev pub invariant-each : goal.invariant-each
invariant-each l = so_far l.code l.entries l.cursor ≡ read (script l.code) l.fn.cursor

abbrev pub decreases-each : goal.decreases-each
decreases-each l = length l.cursor
