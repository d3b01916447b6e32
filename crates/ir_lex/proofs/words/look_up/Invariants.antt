use Rattle.std.proofs.Common.{◌≡◌, length, map}
use Rattle.ir_lex.specs.WordTable.{look_up}
use Rattle.ir_lex.proofs.words.look_up.Given as goal

abbrev pub invariant-loop-rows : goal.invariant-loop-rows
invariant-loop-rows l = look_up l.other (map (λ r. (r.0.now, r.1)) l.rows) l.word ≡ look_up l.other (map (λ r. (r.0.now, r.1)) l.initial.rows) l.word

abbrev pub decreases-loop-rows : goal.decreases-loop-rows
decreases-loop-rows l = length l.rows
