use Rattle.std.proofs.Common.{◌≡◌, reverse, take, ◌&&◌, nat_le, ◌∷◌, length}
use Rattle.mem_axioms.specs.Events.{is_seq_cst_fence}
use Rattle.mem_axioms.specs.Logs.{any_event}
use Rattle.mem_axioms.specs.HappensBefore.{happens_before}
use Rattle.mem_axioms.proofs.read_test.is_seq_cst_from.Given as goal

abbrev pub invariant-loop-a : goal.invariant-loop-a
invariant-loop-a l =
    any_event (λ a ea. is_seq_cst_fence ea && nat_le l.b a && happens_before l.rule (l.read ∷ reverse l.events) a (length l.events)) (reverse l.events) ≡ any_event (λ a ea. is_seq_cst_fence ea && nat_le l.b a && happens_before l.rule (l.read ∷ reverse l.events) a (length l.events)) (reverse (take l.a l.events))
