-- What is answered to the text of a log.
use Rattle.std.specs.Prelude.{◌≡◌, List, Result, Ok, Err}
use Rattle.demands.specs.declared.fault.Fault.{Fault}
use Rattle.demands.specs.declared.fault.Fault.TheVariants.{Memory, At}
use Rattle.mem_axioms.specs.declared.types.Event.{Event}
use Rattle.log_lines.specs.Texts.{ReadLog}
use Rattle.log_lines.specs.declared.types.LogKind.{LogKind}

-- The answer is the log that the text is read as, or the text's first fault. Out of memory says nothing of the text.
abbrev pub IsRead : Result ReadLog (Fault LogKind) → Result (List Event) (Fault LogKind) → Type 0
IsRead means (Err Memory) = Unit {0}
IsRead (Ok r) (Ok log) = log ≡ r.log
IsRead (Ok r) (Err (At kind place)) = ⊥
IsRead (Err fault) (Ok log) = ⊥
IsRead (Err fault) (Err (At kind place)) = fault ≡ At kind place
