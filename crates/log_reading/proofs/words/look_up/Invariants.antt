use Rattle.std.proofs.Common.{◌≡◌, length, map}
use Rattle.log_lines.specs.Words.{look_up}
use Rattle.log_reading.proofs.words.look_up.Given as goal

abbrev pub invariant-loop-rows : goal.invariant-loop-rows
invariant-loop-rows g l = look_up (map (λ r. (r.0.now, r.1)) l.rows) l.field ≡ look_up (map (λ r. (r.0.now, r.1)) l.initial.rows) l.field

abbrev pub decreases-loop-rows : goal.decreases-loop-rows
decreases-loop-rows g l = length l.rows
