use Rattle.std.proofs.Common.{◌≡◌, ◌+◌, ◌||◌, ◌==◌, ◌∙◌, Bool, false, ap, subst, arith, Some, slice_get}
use Rattle.std.specs.List.{list_any}
use Rattle.type_definitions.specs.declared.definition.TypeDef.{TypeDef}
use Rattle.type_definitions.specs.Parts.{parts}
use Rattle.type_classes.specs.Walks.{is_marked}
use Rattle.type_classes.proofs.Pushes.{pushed_or, one_some}
use Rattle.type_classes.proofs.Firsts.{there}
use Rattle.type_classes.proofs.Walks.{farther_is}
use Rattle.type_classes.proofs.endless.farther.Goals as goal

pub returns-clause-marks : goal.returns-clause-marks
returns-clause-marks c = λ k h. farther_is c.args.all.now k c.args.goal c.args.marks.now c.loop-x.next.items (omega (arith, c.loop-x.invariant.len, c.loop-x-test.false)) (λ x d l e. c.loop-x.invariant.marked x d (omega (arith, c.loop-x-test.false)) e) h

pub loop-x-preserved : goal.loop-x-preserved
loop-x-preserved c =
    let n = c.loop-x.x in
    let g = c.args.all.now in
    let goal = c.args.goal in
    let marks = c.args.marks.now in
    record {
      len = c.in_ok-push.ensures.len ∙ ap (λ k. k + 1) c.loop-x.invariant.len;
      marked = λ x d l e. pushed_or (λ x (v : Bool). (d : TypeDef) → slice_get g x ≡ Some d → v ≡ list_any (λ p. (p == goal) || is_marked marks p) (parts d)) false c.loop-x.next.items _ n c.has_marked_part.result (omega (arith, c.loop-x.invariant.len)) c.in_ok-push.ensures.items
          (λ y m f q. c.loop-x.invariant.marked y f m q)
          (λ f q. subst (λ (z : TypeDef). c.has_marked_part.result ≡ list_any (λ p. (p == goal) || is_marked marks p) (parts z)) (one_some (slice_get g n) c.index-all-x.result f (there g n c.index-all-x.result c.loop-x-test.true c.index-all-x.is) q) c.has_marked_part.ensures)
          x l d e;
    }
