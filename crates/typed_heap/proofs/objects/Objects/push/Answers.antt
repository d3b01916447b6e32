use Rattle.std.proofs.Common.{◌++◌, length, arith}
use Rattle.std.specs.Vec.{vec_len}
use Rattle.type_definitions.specs.Leaves.{times}
use Rattle.typed_heap.specs.Lemmas.Rows.{seen, counted}
use Rattle.typed_heap.proofs.Rowed.{rowed_pushed, shown_pushed}
use Rattle.typed_heap.proofs.Repeating.{hybrid_repeats}
use Rattle.typed_heap.proofs.objects.Objects.push.Goals as goal

pub invariant_of-self : goal.invariant_of-self
invariant_of-self c =
    let o = c.self.inside in
    let many = counted o.extents.items o.leaves.items o.initials.items o.given.items _ _ c.self.view_is in
    let ds = c.args.fixed.now ++ times c.args.count c.args.run.now in
    rw (c.in-Ok.ensures.leaves, c.in-Ok.ensures.initials, c.in-Ok.ensures.extents) (rowed_pushed o.leaves.items o.initials.items o.extents.items (vec_len o.given) c.args.classes.now.definitions ds (length c.args.fixed.now) (length c.args.run.now) c.self.invariant (hybrid_repeats c.args.fixed.now c.args.run.now c.args.count) c.requires.small (omega (arith, many, c.requires.few)))

pub returns-in-Ok-clause-ok : goal.returns-in-Ok-clause-ok
returns-in-Ok-clause-ok c =
    let o = c.self.inside in
    let ds = c.args.fixed.now ++ times c.args.count c.args.run.now in
    rw (c.in-Ok.ensures.leaves, c.in-Ok.ensures.initials, c.in-Ok.ensures.extents, seen o.extents.items o.leaves.items o.initials.items o.given.items _ _ c.self.view_is) (shown_pushed o.leaves.items o.initials.items o.extents.items o.given.items (vec_len o.given) c.args.classes.now.definitions ds (length c.args.fixed.now) (length c.args.run.now) c.self.invariant)
