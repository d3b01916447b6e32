use Rattle.std.proofs.Common.{◌≡◌, reverse, take, ◌&&◌, ◌||◌, ◌==◌, ◌∷◌, length}
use Rattle.mem_axioms.specs.Logs.{any_event}
use Rattle.mem_axioms.specs.HappensBefore.{precedes, happens_before}
use Rattle.mem_axioms.proofs.rows.happens_before_next.Given as goal

abbrev pub invariant-loop-k : goal.invariant-loop-k
invariant-loop-k l =
    happens_before l.rule (l.next ∷ reverse l.events) l.i (length l.events) ≡ any_event (λ k ek. precedes l.rule (reverse l.events) k ek l.next && ((k == l.i) || happens_before l.rule (reverse l.events) l.i k)) (reverse (take l.k l.events))
