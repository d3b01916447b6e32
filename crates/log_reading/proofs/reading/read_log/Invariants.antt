use Rattle.std.proofs.Common.{◌≡◌, length}
use Rattle.log_lines.specs.Texts.{text_read}
use Rattle.log_reading.specs.Inner.{IsWithin}
use Rattle.log_reading.proofs.Going.{read_on, size_of}
use Rattle.log_reading.proofs.reading.read_log.Given as goal

abbrev pub invariant-loop-rest : goal.invariant-loop-rest
invariant-loop-rest l = IsWithin (length l.text) l.rest × (read_on (length l.text) l.rest l.reading ≡ text_read l.text)

abbrev pub decreases-loop-rest : goal.decreases-loop-rest
decreases-loop-rest l = size_of l.rest
