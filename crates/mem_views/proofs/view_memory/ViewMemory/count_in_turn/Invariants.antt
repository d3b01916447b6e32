use Rattle.std.proofs.Common.{◌≡◌, ◌+◌, ◌-◌, ◌≤◌, length}
use Rattle.mem_axioms.specs.Objects.{initial_of}
use Rattle.mem_axioms.specs.Reads.{below}
use Rattle.mem_views.specs.Differing.{differs_from}
use Rattle.mem_views.proofs.view_memory.ViewMemory.count_in_turn.Given as goal

abbrev pub invariant-loop-position : goal.invariant-loop-position
invariant-loop-position g l = record {
  counted : l.count ≡ length (below (differs_from (initial_of l.self.objects.values) l.self.tape.events l.others.cell l.others.floor l.others.scalar) l.position);
  few : l.count ≤ l.position;
  cost : l.steps ≤ l.initial.steps + (l.position - l.others.floor);
}
