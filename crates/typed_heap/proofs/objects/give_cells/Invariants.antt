use Rattle.std.proofs.Common.{◌≡◌, ◌+◌, ◌-◌, ◌≤◌, length, map, drop}
use Rattle.std.specs.Vec.{vec_len, vec_capacity}
use Rattle.typed_heap.specs.Objects.{replaced}
use Rattle.typed_heap.specs.Rows.{initial_of, AreOwn}
use Rattle.typed_heap.proofs.objects.give_cells.Given as goal

abbrev pub invariant-loop-i : goal.invariant-loop-i
invariant-loop-i l = record {
  begins : replaced (map (initial_of l.given.items) l.initials) (l.from + l.i) (drop l.i l.scalars) ≡ replaced (map (initial_of l.fn.given.items) l.fn.initials) l.from l.scalars;
  own : AreOwn l.initials (length l.given.items);
  room : vec_capacity l.fn.given - vec_len l.fn.given ≤ vec_capacity l.given - vec_len l.given + l.i;
}
