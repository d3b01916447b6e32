use Rattle.std.proofs.Common.{◌∙◌, ap, ◌++◌, List, ℕ}
use Rattle.std.proofs.lemmas.List.{append_assoc}
use Rattle.type_definitions.specs.Leaves.{times}
use Rattle.mu_types.specs.Rows.{lists}
use Rattle.type_classes.specs.Listings.{row_by}
use Rattle.mu_types.specs.ListLaws.{times_more}
use Rattle.type_classes.proofs.listing.append_times.Goals as goal

pub loop-i-preserved : goal.loop-i-preserved
loop-i-preserved c =
    let row = row_by (lists c.args.rows.now) c.args.number.now c.args.p in
    c.in_ok-append_row.ensures ∙ (ap (λ (ys : List ℕ). ys ++ row) c.loop-i.invariant ∙ (append_assoc c.args.out.now.items (times c.loop-i.i row) row ∙ ap (λ (ys : List ℕ). c.args.out.now.items ++ ys) (times_more c.loop-i.i row)))
