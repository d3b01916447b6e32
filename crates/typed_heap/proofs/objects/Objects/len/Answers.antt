use Rattle.std.proofs.Common.{◌≡◌, length, map, sym, ap, ◌∙◌, rules}
use Rattle.std.specs.Vec.{vec_len}
use Rattle.typed_heap.specs.Rows.{RoomyObjects, initial_of}
use Rattle.typed_heap.specs.Lemmas.Rows.{objects_length}
use Rattle.typed_heap.proofs.objects.Objects.len.Goals as goal

pub returns : goal.returns
returns c =
    let o = c.self.inside in
    let count : vec_len o.extents ≡ length o.extents.items = search rules in
    let many = objects_length 0 o.extents.items o.leaves.items (map (initial_of o.given.items) o.initials.items) in
    c.len.ensures ∙ count ∙ sym many ∙ ap (λ (v : RoomyObjects). length v.objects) c.self.view_is
