use Rattle.std.proofs.Common.{List, ◌+◌, ◌-◌, length}
use Rattle.ir_tree.specs.declared.items.Item.{Item}
use Rattle.step_forms.specs.CaseRows.{AreRows}
use Rattle.step_forms.proofs.case_rows.reach.Given as goal

abbrev pub invariant-loop-rows : goal.invariant-loop-rows
invariant-loop-rows l = (bundle : List Item) → AreRows bundle l.initial.rows.items → AreRows bundle l.rows.items

abbrev pub decreases-loop-rows : goal.decreases-loop-rows
decreases-loop-rows l = l.fn.block + 1 - length l.rows.items
