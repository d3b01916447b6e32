use Rattle.std.proofs.Common.{◌≡◌, ◌+◌, ◌++◌, take}
use Rattle.std.specs.Prelude.{vec_len, vec_capacity}
use Rattle.write_history.proofs.runs.put_back.Given as goal

abbrev pub invariant-loop-position : goal.invariant-loop-position
invariant-loop-position l = record {
  items : l.order.items ≡ take l.start l.initial.order.items ++ take l.position-index l.merged;
  len : vec_len l.order ≡ l.start + l.position-index;
  capacity : vec_capacity l.order ≡ vec_capacity l.initial.order;
}
