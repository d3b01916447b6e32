use Rattle.std.proofs.Common.{◌≡◌, true, length, map, refl, arith, rules}
use Rattle.std.specs.Vec.{vec_len}
use Rattle.std.proofs.lemmas.List.{length-set}
use Rattle.std.proofs.lemmas.Option.{slice_get_read}
use Rattle.typed_heap.specs.Rows.{initial_of}
use Rattle.typed_heap.specs.Lemmas.Rows.{counted, seen, object_at, killed_at, cut_killed}
use Rattle.typed_heap.proofs.Rowed.{repeat_killed}
use Rattle.typed_heap.proofs.objects.Objects.kill.Goals as goal

pub index_mut-requires : goal.index_mut-requires
index_mut-requires c =
    let o = c.self.inside in
    let count : vec_len o.extents ≡ length o.extents.items = search rules in
    omega (arith, count, c.requires, counted o.extents.items o.leaves.items o.initials.items o.given.items _ _ c.self.view_is)

pub invariant_of-self : goal.invariant_of-self
invariant_of-self c =
    let o = c.self.inside in
    let many = counted o.extents.items o.leaves.items o.initials.items o.given.items _ _ c.self.view_is in
    let e = c.index_mut.result.now in
    let here = slice_get_read o.extents.items (length o.extents.items) c.args.n e refl (omega (arith, many, c.requires)) (search rules) in
    record { even = c.self.invariant.even; cut = cut_killed 0 o.extents.items (length o.leaves.items) c.args.n e true here c.self.invariant.cut; few = rw length-set c.self.invariant.few; known = c.self.invariant.known; apart = c.self.invariant.apart; repeats = repeat_killed 0 o.extents.items o.leaves.items c.args.n e here c.self.invariant.repeats }

pub returns-clause-objects : goal.returns-clause-objects
returns-clause-objects c =
    let o = c.self.inside in
    let many = counted o.extents.items o.leaves.items o.initials.items o.given.items _ _ c.self.view_is in
    let e = c.index_mut.result.now in
    let here = slice_get_read o.extents.items (length o.extents.items) c.args.n e refl (omega (arith, many, c.requires)) (search rules) in
    let ss = map (initial_of o.given.items) o.initials.items in
    rw (seen o.extents.items o.leaves.items o.initials.items o.given.items _ _ c.self.view_is, object_at 0 o.extents.items o.leaves.items ss c.args.n e here) (killed_at 0 o.extents.items o.leaves.items ss c.args.n e here)
