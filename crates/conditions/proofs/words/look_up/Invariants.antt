use Rattle.std.proofs.Common.{◌≡◌, length, map}
use Rattle.name_scopes.specs.Names.{found}
use Rattle.conditions.proofs.words.look_up.Given as goal

abbrev pub invariant-loop-rows : goal.invariant-loop-rows
invariant-loop-rows g l = found (map (λ r. (r.0.now, r.1)) l.rows) l.word ≡ found (map (λ r. (r.0.now, r.1)) l.initial.rows) l.word

abbrev pub decreases-loop-rows : goal.decreases-loop-rows
decreases-loop-rows g l = length l.rows
