use Rattle.std.proofs.Common.{◌≡◌, reverse, take, ◌&&◌}
use Rattle.mem_axioms.specs.Logs.{any_event}
use Rattle.mem_axioms.specs.Axioms.{has_seq_cst, is_or_is_fenced}
use Rattle.mem_axioms.specs.PassedOver.{has_seq_cst_from}
use Rattle.mem_axioms.proofs.read_test.is_barred.Given as goal

abbrev pub invariant-loop-b : goal.invariant-loop-b
invariant-loop-b l =
    any_event (λ b eb. has_seq_cst b eb && is_or_is_fenced l.rule (reverse l.events) l.y b eb && has_seq_cst_from l.rule (reverse l.events) l.read b) (reverse l.events) ≡ any_event (λ b eb. has_seq_cst b eb && is_or_is_fenced l.rule (reverse l.events) l.y b eb && has_seq_cst_from l.rule (reverse l.events) l.read b) (reverse (take l.b l.events))
