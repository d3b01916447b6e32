use Rattle.std.proofs.Common.{◌≡◌, ◌<◌, ◌∙◌, sym, subst, arith, ℕ, true, false, List, length, map, get_or}
use Rattle.std.proofs.Math.ListN.{set}
use Rattle.std.proofs.lemmas.List.{get_or-set_same}
use Rattle.std.proofs.lemmas.Option.{slice_get-get_or}
use Rattle.type_definitions.specs.Class.{class_of}
use Rattle.type_definitions.specs.Leaves.{leaves}
use Rattle.mu_types.specs.Rows.{lists}
use Rattle.type_classes.specs.Walks.{is_marked}
use Rattle.type_classes.specs.Listings.{RowsDone}
use Rattle.type_classes.proofs.RowLemmas.{length-lists}
use Rattle.type_classes.proofs.Ordered.{class_below, row_done, done_set, mark_kept}
use Rattle.type_classes.proofs.listing.list_type.Goals as goal

pub returns-clause-held : goal.returns-clause-held
returns-clause-held c =
    let g = c.args.types.definitions.now in
    let t = c.args.t in
    let k = c.at-c.result in
    let d = c.index-types-t.result in
    let rows = lists c.args.rows.now in
    let b = class_below g c.args.types.class.now t c.requires.ranked.least c.requires.t in
    let l : k < length rows = omega (arith, b, c.at-c.ensures, c.requires.done.rowed, length-lists c.args.rows.now) in
    let e : c.in_ok-row.row.items ≡ map (class_of g) (leaves g k) = c.in_ok-row.ensures ∙ row_done g c.requires.ranked.graph c.args.types.class.now c.args.types.rank.now rows c.args.done.now c.requires.ranked.least c.requires.ranked.ranked t (get_or g t d) k c.requires.t
    (slice_get-get_or g t d c.requires.t) c.at-c.ensures c.requires.done.held c.requires.done.found in
    subst (λ (xs : List (List ℕ)). RowsDone g xs (set c.args.done.now k true)) (sym c.put_row.ensures.row) (done_set g rows c.args.done.now k c.in_ok-row.row.items l e c.requires.done.held)

pub returns-clause-kept : goal.returns-clause-kept
returns-clause-kept c = λ z m.
    let b = class_below c.args.types.definitions.now c.args.types.class.now c.args.t c.requires.ranked.least c.requires.t in
    let l : c.at-c.result < length c.args.done.now = omega (arith, b, c.at-c.ensures, c.requires.done.marked) in
    mark_kept c.args.done.now c.at-c.result z l m

pub returns-clause-listed : goal.returns-clause-listed
returns-clause-listed c =
    let b = class_below c.args.types.definitions.now c.args.types.class.now c.args.t c.requires.ranked.least c.requires.t in
    let l : c.at-c.result < length c.args.done.now = omega (arith, b, c.at-c.ensures, c.requires.done.marked) in
    subst (λ w. is_marked (set c.args.done.now c.at-c.result true) w ≡ true) c.at-c.ensures (get_or-set_same c.args.done.now c.at-c.result true false l)
