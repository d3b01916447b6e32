use Rattle.std.proofs.Common.{◌≡◌, ℕ, ◌+◌, ◌++◌, List, length, map, take, drop, sym, ap, subst, ◌∙◌, refl, arith, rules}
use Rattle.std.specs.List.{All}
use Rattle.std.specs.Vec.{vec_len}
use Rattle.mu_types.specs.ListLaws.{lent_back}
use Rattle.typed_heap.specs.declared.objects.Initial.{Initial}
use Rattle.typed_heap.specs.Objects.{replaced}
use Rattle.typed_heap.specs.Rows.{initial_of, begin, IsKnown, AreOwn, IsRowed}
use Rattle.typed_heap.specs.Lemmas.Rows.{seen, cells_there, bounds}
use Rattle.typed_heap.proofs.Rowed.{rowed_filled, shown_filled}
use Rattle.typed_heap.proofs.objects.Objects.give_all.Goals as goal

pub bounds-begin-requires-clause-n : goal.bounds-begin-requires-clause-n
bounds-begin-requires-clause-n c =
    let o = c.self.inside in
    let cells = cells_there o.extents.items o.leaves.items (map (initial_of o.given.items) o.initials.items) c.args.n (c.args.at + length c.args.scalars.now) c.self.invariant.cut (rw (seen o.extents.items o.leaves.items o.initials.items o.given.items _ _ c.self.view_is) at c.requires.there) in
    rw c.deref-2.ensures.value cells.0

pub give_cells-requires-clause-cells : goal.give_cells-requires-clause-cells
give_cells-requires-clause-cells c =
    let o = c.self.inside in
    let es = o.extents.items in
    let cells = cells_there es o.leaves.items (map (initial_of o.given.items) o.initials.items) c.args.n (c.args.at + length c.args.scalars.now) c.self.invariant.cut (rw (seen es o.leaves.items o.initials.items o.given.items _ _ c.self.view_is) at c.requires.there) in
    let low = bounds 0 es (length o.leaves.items) c.args.n c.self.invariant.cut cells.0 in
    let first : c.bounds-begin.result.0 ≡ begin 0 es c.args.n = c.bounds-begin.ensures.begin ∙ rw c.deref-2.ensures.value refl in
    let many : length c.deref_mut.result.now ≡ length o.initials.items = ap (λ (xs : List Initial). length xs) c.deref_mut.ensures.value in
    omega (arith, first, many, cells.1, low.0, low.1, c.self.invariant.even)

pub give_cells-requires-clause-own : goal.give_cells-requires-clause-own
give_cells-requires-clause-own c =
    let o = c.self.inside in
    let count : vec_len o.given ≡ length o.given.items = search rules in
    let known : All (IsKnown (length o.given.items)) o.initials.items = subst (λ (n : ℕ). All (IsKnown n) o.initials.items) count c.self.invariant.known in
    let own : AreOwn o.initials.items (length o.given.items) = record { known = known; apart = c.self.invariant.apart } in
    subst (λ (xs : List Initial). AreOwn xs (length o.given.items)) (sym c.deref_mut.ensures.value) own

pub invariant_of-self : goal.invariant_of-self
invariant_of-self c =
    let o = c.self.inside in
    let is = o.initials.items in
    let js = c.give_cells.new.initials in
    let more = vec_len c.give_cells.new.given in
    let back : take o.initials.len (js ++ drop (length js) is) ≡ js = lent_back js is o.initials.len (c.give_cells.ensures.cells ∙ c.deref_mut.ensures.len) in
    let long : length js ≡ length is = c.give_cells.ensures.cells ∙ ap (λ (xs : List Initial). length xs) c.deref_mut.ensures.value in
    let count : more ≡ length c.give_cells.new.given.items = search rules in
    let own : AreOwn js more = subst (λ (n : ℕ). AreOwn js n) (sym count) c.give_cells.ensures.own in
    subst (λ (xs : List Initial). IsRowed o.leaves.items xs o.extents.items more) (sym back) (rowed_filled o.leaves.items is js o.extents.items (vec_len o.given) more c.self.invariant long own)

pub returns-clause-objects : goal.returns-clause-objects
returns-clause-objects c =
    let o = c.self.inside in
    let es = o.extents.items in
    let is = o.initials.items in
    let js = c.give_cells.new.initials in
    let old = map (initial_of o.given.items) is in
    let cells = cells_there es o.leaves.items old c.args.n (c.args.at + length c.args.scalars.now) c.self.invariant.cut (rw (seen es o.leaves.items is o.given.items _ _ c.self.view_is) at c.requires.there) in
    let first : c.bounds-begin.result.0 ≡ begin 0 es c.args.n = c.bounds-begin.ensures.begin ∙ rw c.deref-2.ensures.value refl in
    let back : take o.initials.len (js ++ drop (length js) is) ≡ js = lent_back js is o.initials.len (c.give_cells.ensures.cells ∙ c.deref_mut.ensures.len) in
    let begins : map (initial_of c.give_cells.new.given.items) js ≡ replaced old (begin 0 es c.args.n + c.args.at) c.args.scalars.now = c.give_cells.ensures.begins ∙ rw (c.deref_mut.ensures.value, first) refl in
    rw (back, seen es o.leaves.items is o.given.items _ _ c.self.view_is) (shown_filled o.leaves.items is js es o.given.items c.give_cells.new.given.items (vec_len o.given) c.args.n c.args.at c.args.scalars.now c.self.invariant cells.0 cells.1 begins)
