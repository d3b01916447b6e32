use Rattle.std.proofs.Common.{◌≡◌, ◌∙◌, sym, subst, ℕ}
use Rattle.std.specs.Prelude.{slice_index}
use Rattle.type_classes.specs.RankedTypes.{AreDone}
use Rattle.type_classes.proofs.Ordered.{done_more}
use Rattle.type_classes.proofs.listing.list_at.Goals as goal

pub list_type-requires-clause-done : goal.list_type-requires-clause-done
list_type-requires-clause-done c =
    let r : c.args.i ≡ slice_index c.args.types.rank.now c.at-t.result = sym (sym c.at.ensures ∙ c.if-at-i.true) in
    subst (λ (k : ℕ). AreDone c.args.types.definitions.now c.args.types.class.now c.args.types.rank.now c.args.rows.now c.args.done.now k) r c.requires.done

pub returns-in_ok-list_type : goal.returns-in_ok-list_type
returns-in_ok-list_type c =
    let g = c.args.types.definitions.now in
    record {
      rowed = c.in_ok-list_type.ensures.rows ∙ c.requires.done.rowed;
      marked = c.in_ok-list_type.ensures.marks ∙ c.requires.done.marked;
      held = c.in_ok-list_type.ensures.held;
      found = done_more g c.args.types.class.now c.args.types.rank.now c.args.types.order.now c.args.done.now c.list_type.new.done c.args.i c.at-t.result c.requires.ranked.ordered (sym c.at-t.ensures) c.requires.done.found c.in_ok-list_type.ensures.kept c.in_ok-list_type.ensures.listed;
    }
