-- The lines that are left of a text.
use Rattle.std.proofs.Common.{ℕ, suc, ◌-◌, length, Option, Some, None}
use Rattle.std.specs.Prelude.{Result}
use Rattle.std.specs.Borrow.{Bor}
use Rattle.demands.specs.declared.fault.Fault.{Fault}
use Rattle.log_lines.specs.Fields.{Text}
use Rattle.log_lines.specs.Texts.{ReadLog, lines_read}
use Rattle.log_lines.specs.declared.types.LogKind.{LogKind}
use Rattle.log_reading.specs.Inner.{parts_of}

-- the byte offset of the lines that are left
abbrev pub place_of : ℕ → Option (Bor Text) → ℕ
place_of n None = n
place_of n (Some bytes) = n - length bytes.now

-- what the lines that are left are read as
abbrev pub read_on : ℕ → Option (Bor Text) → ReadLog → Result ReadLog (Fault LogKind)
read_on n rest r = lines_read (place_of n rest) r (parts_of 10 rest)

-- how much is left
abbrev pub size_of : Option (Bor Text) → ℕ
size_of None = 0
size_of (Some bytes) = suc (length bytes.now)
