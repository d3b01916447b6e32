use Rattle.std.proofs.Common.{◌≡◌, length, map, refl, sym, ap, ◌∙◌, subst, IsSomeAnd, slice_get, arith, rules}
use Rattle.std.specs.Vec.{vec_len}
use Rattle.std.proofs.lemmas.List.{length-map}
use Rattle.std.proofs.lemmas.Option.{slice_get_read}
use Rattle.std.specs.Prelude.{slice_range}
use Rattle.typed_heap.specs.Rows.{RoomyObjects, initial_of, begin, end}
use Rattle.typed_heap.specs.Lemmas.Rows.{objects_length, leaves_at, initials_at, counted}
use Rattle.typed_heap.proofs.Rowed.{repeats_at}
use Rattle.typed_heap.proofs.objects.Objects.leaves.Goals as goal

pub bounds-begin-requires-clause-n : goal.bounds-begin-requires-clause-n
bounds-begin-requires-clause-n c =
    let o = c.self.inside in
    let many : length c.args.self.now.objects ≡ length o.extents.items = ap (λ (v : RoomyObjects). length v.objects) (sym c.self.view_is) ∙ objects_length 0 o.extents.items o.leaves.items (map (initial_of o.given.items) o.initials.items) in
    rw c.deref-2.ensures.value (rw many at c.requires)

pub returns-clause-leaves : goal.returns-clause-leaves
returns-clause-leaves c =
    let o = c.self.inside in
    let many : length c.args.self.now.objects ≡ length o.extents.items = ap (λ (v : RoomyObjects). length v.objects) (sym c.self.view_is) ∙ objects_length 0 o.extents.items o.leaves.items (map (initial_of o.given.items) o.initials.items) in
    let there = leaves_at o.extents.items o.leaves.items (map (initial_of o.given.items) o.initials.items) c.args.n (rw many at c.requires) in
    let P = λ (v : RoomyObjects). IsSomeAnd (slice_get v.objects c.args.n) (λ p. p.leaves ≡ slice_range o.leaves.items (begin 0 o.extents.items c.args.n) (end o.extents.items c.args.n)) in
    rw (c.bounds-begin.ensures.begin, c.bounds-begin.ensures.end, c.deref-2.ensures.value, c.deref-3.ensures.value) (subst P c.self.view_is there)

pub returns-clause-initials : goal.returns-clause-initials
returns-clause-initials c =
    let o = c.self.inside in
    let ss = map (initial_of o.given.items) o.initials.items in
    let many : length c.args.self.now.objects ≡ length o.extents.items = ap (λ (v : RoomyObjects). length v.objects) (sym c.self.view_is) ∙ objects_length 0 o.extents.items o.leaves.items ss in
    let even : length ss ≡ length o.leaves.items = length-map o.initials.items (initial_of o.given.items) ∙ c.self.invariant.even in
    let there = initials_at o.extents.items o.leaves.items ss c.args.n even (rw many at c.requires) in
    let P = λ (v : RoomyObjects). IsSomeAnd (slice_get v.objects c.args.n) (λ p. length p.initial ≡ length (slice_range o.leaves.items (begin 0 o.extents.items c.args.n) (end o.extents.items c.args.n))) in
    rw (c.bounds-begin.ensures.begin, c.bounds-begin.ensures.end, c.deref-2.ensures.value, c.deref-3.ensures.value) (subst P c.self.view_is there)

pub index-requires : goal.index-requires
index-requires c =
    let o = c.self.inside in
    let count : vec_len o.extents ≡ length o.extents.items = search rules in
    omega (arith, count, c.requires, counted o.extents.items o.leaves.items o.initials.items o.given.items _ _ c.self.view_is)

pub returns-clause-repeats : goal.returns-clause-repeats
returns-clause-repeats c =
    let o = c.self.inside in
    let es = o.extents.items in
    let e = c.index.result.now in
    let many = counted es o.leaves.items o.initials.items o.given.items _ _ c.self.view_is in
    let here = slice_get_read es (length es) c.args.n e refl (omega (arith, many, c.requires)) c.index.ensures in
    let far : e.end ≡ end es c.args.n = sym (rw here refl) in
    rw (c.bounds-begin.ensures.begin, c.bounds-begin.ensures.end, c.deref-2.ensures.value, c.deref-3.ensures.value) (rw far at (repeats_at 0 es o.leaves.items c.args.n e here c.self.invariant.repeats))
