use Rattle.std.proofs.Common.{◌≡◌, ◌+◌, ◌-◌, ◌≤◌, length}
use Rattle.mem_axioms.specs.Objects.{initial_of}
use Rattle.mem_axioms.specs.Reads.{below}
use Rattle.mem_views.specs.Differing.{differs_from}
use Rattle.mem_views.proofs.view_memory.ViewMemory.nth_in_turn.Given as goal

abbrev pub invariant-loop-index : goal.invariant-loop-index
invariant-loop-index g l = record {
  counted : l.newer + length (below (differs_from (initial_of l.self.objects.values) l.self.tape.events l.others.cell l.others.floor l.others.scalar) (l.last + 1 - l.index)) ≡ length (below (differs_from (initial_of l.self.objects.values) l.self.tape.events l.others.cell l.others.floor l.others.scalar) (l.last + 1));
  few : l.newer ≤ l.n;
  cost : l.steps ≤ l.initial.steps + l.index;
}
