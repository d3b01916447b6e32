use Rattle.std.proofs.Common.{◌≡◌, ◌-◌, length, sym, ◌∙◌, refl, arith, rules}
use Rattle.std.specs.Vec.{vec_len}
use Rattle.typed_heap.specs.Rows.{begin}
use Rattle.typed_heap.specs.Lemmas.Rows.{counted, seen}
use Rattle.typed_heap.proofs.Rowed.{rowed_front, shown_front}
use Rattle.typed_heap.proofs.objects.Objects.pop.Goals as goal

pub invariant_of-self : goal.invariant_of-self
invariant_of-self c =
    let o = c.self.inside in
    let es = o.extents.items in
    let count : vec_len o.extents ≡ length es = search rules in
    let first : c.begin_of-begin.result ≡ begin 0 es (vec_len o.extents - 1) = c.begin_of-begin.ensures ∙ rw (c.deref.ensures.value, c.len.ensures) refl in
    rw (c.truncate.ensures.items, c.truncate-2.ensures.items, c.pop.ensures.rest) (rowed_front o.leaves.items o.initials.items es (vec_len o.given) (vec_len o.extents - 1) c.begin_of-begin.result c.self.invariant (omega (arith, count)) first)

pub returns-clause-objects : goal.returns-clause-objects
returns-clause-objects c =
    let o = c.self.inside in
    let es = o.extents.items in
    let count : vec_len o.extents ≡ length es = search rules in
    let many : length c.args.self.now.objects ≡ vec_len o.extents = counted es o.leaves.items o.initials.items o.given.items _ _ c.self.view_is ∙ sym count in
    let first : c.begin_of-begin.result ≡ begin 0 es (vec_len o.extents - 1) = c.begin_of-begin.ensures ∙ rw (c.deref.ensures.value, c.len.ensures) refl in
    rw (c.truncate.ensures.items, c.truncate-2.ensures.items, c.pop.ensures.rest, many, seen es o.leaves.items o.initials.items o.given.items _ _ c.self.view_is) (shown_front o.leaves.items o.initials.items es o.given.items (vec_len o.given) (vec_len o.extents - 1) c.begin_of-begin.result c.self.invariant (omega (arith, count)) first)
