use Rattle.std.proofs.Common.{◌≡◌, take, ◌++◌}
use Rattle.std.specs.List.{flat_map}
use Rattle.mu_types.specs.Rows.{lists}
use Rattle.type_classes.specs.Listings.{row_by}
use Rattle.type_classes.proofs.listing.append_each.Given as goal

abbrev pub invariant-loop-p : goal.invariant-loop-p
invariant-loop-p l = l.out.items ≡ l.fn.out.items ++ flat_map (row_by (lists l.rows) l.number) (take l.p-index l.list)
