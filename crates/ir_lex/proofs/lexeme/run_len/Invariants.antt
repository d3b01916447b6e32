use Rattle.std.proofs.Common.{◌≡◌, ◌+◌, ◌-◌, ◌≤◌, length, drop}
use Rattle.std.specs.List.{prefix_len}
use Rattle.ir_lex.specs.Bytes.{goes_on}
use Rattle.ir_lex.proofs.lexeme.run_len.Given as goal

abbrev pub invariant-loop-end : goal.invariant-loop-end
invariant-loop-end l = record { in_range : l.end ≤ length l.bytes; so_far : l.end + prefix_len (goes_on l.kind) (drop l.end l.bytes) ≡ prefix_len (goes_on l.kind) l.bytes }

abbrev pub decreases-loop-end : goal.decreases-loop-end
decreases-loop-end l = length l.bytes - l.end
