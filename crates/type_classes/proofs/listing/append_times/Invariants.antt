use Rattle.std.proofs.Common.{◌≡◌, ◌++◌}
use Rattle.type_definitions.specs.Leaves.{times}
use Rattle.mu_types.specs.Rows.{lists}
use Rattle.type_classes.specs.Listings.{row_by}
use Rattle.type_classes.proofs.listing.append_times.Given as goal

abbrev pub invariant-loop-i : goal.invariant-loop-i
invariant-loop-i l = l.out.items ≡ l.fn.out.items ++ times l.i (row_by (lists l.rows) l.number l.p)
