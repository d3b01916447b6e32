use Rattle.std.proofs.Common.{◌≡◌, ◌<◌, length, reverse, slice_get}
use Rattle.mem_axioms.specs.Objects.{initial_of}
use Rattle.mem_axioms.specs.Scalars.{scalars_of}
use Rattle.mem_axioms.specs.Reads.{reads, below}
use Rattle.mem_axioms.specs.Lemmas.Offers.{may_take}
use Rattle.mem_axioms.proofs.log_memory.LogMemory.nth_read.Given as goal

abbrev pub invariant-loop-position : goal.invariant-loop-position
invariant-loop-position l = record {
  there : l.left < length (below (may_take l.self.rule (initial_of (scalars_of l.self.objects.items)) (reverse l.self.events.items) l.thread l.cell l.order l.excluded) l.position);
  same : slice_get (reads l.self.rule (initial_of (scalars_of l.self.objects.items)) (reverse l.self.events.items) l.thread l.cell l.order l.excluded) l.n
      ≡ slice_get (below (may_take l.self.rule (initial_of (scalars_of l.self.objects.items)) (reverse l.self.events.items) l.thread l.cell l.order l.excluded) l.position) l.left;
}
