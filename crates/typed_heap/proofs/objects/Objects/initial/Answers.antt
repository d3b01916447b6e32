use Rattle.std.proofs.Common.{◌≡◌, ◌<◌, ◌+◌, Some, length, map, sym, ◌∙◌, refl, slice_get, subst, arith, rules}
use Rattle.std.specs.Vec.{vec_len}
use Rattle.std.proofs.lemmas.Option.{slice_get-map, slice_get_read}
use Rattle.typed_heap.specs.Rows.{initial_of, begin, IsKnown}
use Rattle.typed_heap.specs.Lemmas.Rows.{seen, cell_there, cell_within, cell_begins}
use Rattle.typed_heap.proofs.objects.Objects.initial.Goals as goal

pub bounds-begin-requires-clause-n : goal.bounds-begin-requires-clause-n
bounds-begin-requires-clause-n c =
    let o = c.self.inside in
    let cell = cell_there o.extents.items o.leaves.items (map (initial_of o.given.items) o.initials.items) c.args.n c.args.at c.self.invariant.cut (rw (seen o.extents.items o.leaves.items o.initials.items o.given.items _ _ c.self.view_is) at c.requires) in
    rw c.deref-2.ensures.value cell.0

pub index-requires : goal.index-requires
index-requires c =
    let o = c.self.inside in
    let es = o.extents.items in
    let near = cell_within es o.leaves.items (map (initial_of o.given.items) o.initials.items) c.args.n c.args.at c.self.invariant.cut (rw (seen es o.leaves.items o.initials.items o.given.items _ _ c.self.view_is) at c.requires) in
    let first : c.bounds-begin.result.0 ≡ begin 0 es c.args.n = c.bounds-begin.ensures.begin ∙ rw c.deref-2.ensures.value refl in
    let count : vec_len o.initials ≡ length o.initials.items = search rules in
    omega (arith, first, count, near, c.self.invariant.even)

pub shown-requires : goal.shown-requires
shown-requires c =
    let o = c.self.inside in
    let d = c.index.result.now in
    let es = o.extents.items in
    let near = cell_within es o.leaves.items (map (initial_of o.given.items) o.initials.items) c.args.n c.args.at c.self.invariant.cut (rw (seen es o.leaves.items o.initials.items o.given.items _ _ c.self.view_is) at c.requires) in
    let first : c.bounds-begin.result.0 ≡ begin 0 es c.args.n = c.bounds-begin.ensures.begin ∙ rw c.deref-2.ensures.value refl in
    let within : c.bounds-begin.result.0 + c.args.at < length o.initials.items = omega (arith, first, near, c.self.invariant.even) in
    let known = c.self.invariant.known (c.bounds-begin.result.0 + c.args.at) d within in
    rw (c.deref-3.ensures.len) (subst (IsKnown (vec_len o.given)) (sym c.index.ensures) known)

pub returns : goal.returns
returns c =
    let o = c.self.inside in
    let es = o.extents.items in
    let ss = map (initial_of o.given.items) o.initials.items in
    let cell = cell_there es o.leaves.items ss c.args.n c.args.at c.self.invariant.cut (rw (seen es o.leaves.items o.initials.items o.given.items _ _ c.self.view_is) at c.requires) in
    let first : c.bounds-begin.result.0 ≡ begin 0 es c.args.n = c.bounds-begin.ensures.begin ∙ rw c.deref-2.ensures.value refl in
    let d = c.index.result.now in
    let k = c.bounds-begin.result.0 + c.args.at in
    let here : slice_get o.initials.items k ≡ Some d = slice_get_read o.initials.items (length o.initials.items) k d refl (omega (arith, cell_within es o.leaves.items ss c.args.n c.args.at c.self.invariant.cut (rw (seen es o.leaves.items o.initials.items o.given.items _ _ c.self.view_is) at c.requires), first, c.self.invariant.even)) c.index.ensures in
    let told : initial_of o.given.items d ≡ c.shown.result = sym (c.shown.ensures ∙ rw c.deref-3.ensures.value refl) in
    let begins : slice_get ss k ≡ Some c.shown.result = slice_get-map (initial_of o.given.items) o.initials.items k ∙ rw (here, told) refl in
    let at_begin : slice_get ss (begin 0 es c.args.n + c.args.at) ≡ Some c.shown.result = rw first at begins in
    rw (seen es o.leaves.items o.initials.items o.given.items _ _ c.self.view_is) (cell_begins es o.leaves.items ss c.args.n c.args.at c.shown.result cell.0 cell.1 at_begin)
