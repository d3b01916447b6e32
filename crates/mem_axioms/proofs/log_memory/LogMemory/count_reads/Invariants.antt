use Rattle.std.proofs.Common.{◌≡◌, ◌≤◌, length, reverse}
use Rattle.mem_axioms.specs.Objects.{initial_of}
use Rattle.mem_axioms.specs.Scalars.{scalars_of}
use Rattle.mem_axioms.specs.Reads.{below}
use Rattle.mem_axioms.specs.Lemmas.Offers.{may_take}
use Rattle.mem_axioms.proofs.log_memory.LogMemory.count_reads.Given as goal

abbrev pub invariant-loop-position : goal.invariant-loop-position
invariant-loop-position l = record {
  counted : l.count ≡ length (below (may_take l.self.rule (initial_of (scalars_of l.self.objects.items)) (reverse l.self.events.items) l.thread l.cell l.order l.excluded) l.position);
  low : l.count ≤ l.position;
}
