-- Whether a read that comes next would break an axiom, by the accesses that it passes over: those of its cell at greater
-- positions. In a breach by the newest event the read stands after the other access in axiom 1; in axiom 3 it is x, as b
-- is not after a, y not after b, and a not after x. No clause of a public call speaks of these tests.
use Rattle.std.specs.Prelude.{ℕ, Bool, not, ◌&&◌, ◌||◌, nat_le, List, ◌∷◌, length}
use Rattle.mem_axioms.specs.Events.{is_seq_cst, order_of, is_seq_cst_fence}
use Rattle.mem_axioms.specs.Logs.{any_event}
use Rattle.mem_axioms.specs.HappensBefore.{happens_before}
use Rattle.mem_axioms.specs.Axioms.{reads_older, is_or_is_fenced, has_seq_cst}
use Rattle.mem_axioms.specs.declared.types.Rule.{Rule}
use Rattle.mem_axioms.specs.declared.types.Event.{Event}

-- some a stands at b or after it: the read, where it is SEQ_CST, or a SEQ_CST fence that happens before the read
abbrev pub has_seq_cst_from : Rule → List Event → Event → ℕ → Bool
has_seq_cst_from rule log read b = is_seq_cst (order_of read)
    || any_event (λ a ea. is_seq_cst_fence ea && nat_le b a && happens_before rule (read ∷ log) a (length log)) log

-- by axiom 3, the read may not stand below access y
abbrev pub is_bound : Rule → List Event → Event → ℕ → Bool
is_bound rule log read y = any_event (λ b eb. has_seq_cst b eb && is_or_is_fenced rule log y b eb && has_seq_cst_from rule log read b) log

-- access y, which is ey, is passed over against an axiom
abbrev pub is_passed : Rule → List Event → Event → ℕ → Event → Bool
is_passed rule log read y ey = reads_older read ey && (happens_before rule (read ∷ log) y (length log) || is_bound rule log read y)

abbrev pub may_read : Rule → List Event → Event → Bool
may_read rule log read = not (any_event (λ y ey. is_passed rule log read y ey) log)
