use Rattle.std.proofs.Common.{◌≡◌, ◌+◌, ◌*◌, ◌≤◌, length, vec_len}
use Rattle.mu_types.specs.References.{Referred}
use Rattle.type_classes.proofs.References.{so_far}
use Rattle.type_classes.proofs.completing.complete_graph.Given as goal

abbrev pub invariant-loop-t : goal.invariant-loop-t
invariant-loop-t l = record {
  all : l.all.items ≡ so_far l.fn.written.items l.t;
  first : Referred l.all.items l.first.items l.t;
  len : vec_len l.first ≡ l.t;
  enough : length l.fn.written.items + 5 ≤ length l.all.items;
  few : length l.all.items ≤ length l.fn.written.items + 5 + 2 * l.t;
}
