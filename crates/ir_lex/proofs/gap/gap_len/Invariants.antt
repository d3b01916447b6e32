use Rattle.std.proofs.Common.{◌≡◌, ◌+◌, ◌-◌, ◌≤◌, length, drop, false}
use Rattle.ir_lex.specs.Scanner.{gap_len}
use Rattle.ir_lex.proofs.gap.gap_len.Given as goal

abbrev pub invariant-loop-end : goal.invariant-loop-end
invariant-loop-end l = record { in_range : l.end ≤ length l.bytes; so_far : l.end + gap_len l.commenting (drop l.end l.bytes) ≡ gap_len false l.bytes }

abbrev pub decreases-loop-end : goal.decreases-loop-end
decreases-loop-end l = length l.bytes - l.end
