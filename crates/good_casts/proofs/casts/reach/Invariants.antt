use Rattle.std.proofs.Common.{List, ◌+◌, ◌-◌, length}
use Rattle.check_tables.specs.declared.tables.Tables.{Tables}
use Rattle.typed_heap.specs.Objects.{HeapObject}
use Rattle.good_casts.specs.Good.{AreGood}
use Rattle.good_casts.proofs.casts.reach.Given as goal

abbrev pub invariant-loop-rows : goal.invariant-loop-rows
invariant-loop-rows l = (p : Tables) (os : List HeapObject) → AreGood p os l.initial.rows.items → AreGood p os l.rows.items

abbrev pub decreases-loop-rows : goal.decreases-loop-rows
decreases-loop-rows l = l.fn.row + 1 - length l.rows.items
