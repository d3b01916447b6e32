use Rattle.std.proofs.Common.{◌≡◌, length, map, refl, arith, rules}
use Rattle.std.specs.Vec.{vec_len}
use Rattle.typed_heap.specs.Rows.{initial_of}
use Rattle.typed_heap.specs.Lemmas.Rows.{counted, seen, there}
use Rattle.typed_heap.proofs.objects.Objects.is_dead.Goals as goal

pub index-requires : goal.index-requires
index-requires c =
    let o = c.self.inside in
    let count : vec_len o.extents ≡ length o.extents.items = search rules in
    omega (arith, count, c.requires, counted o.extents.items o.leaves.items o.initials.items o.given.items _ _ c.self.view_is)

pub returns : goal.returns
returns c =
    let o = c.self.inside in
    let many = counted o.extents.items o.leaves.items o.initials.items o.given.items _ _ c.self.view_is in
    rw (seen o.extents.items o.leaves.items o.initials.items o.given.items _ _ c.self.view_is, there o.extents.items o.leaves.items (map (initial_of o.given.items) o.initials.items) c.args.n c.index.result.now (omega (arith, many, c.requires)) c.index.ensures) refl
