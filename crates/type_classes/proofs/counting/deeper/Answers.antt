use Rattle.std.proofs.Common.{◌≡◌, ◌+◌, ◌∙◌, ap, subst, arith, Some, slice_get, min}
use Rattle.std.specs.Prelude.{slice_index}
use Rattle.type_definitions.specs.declared.definition.TypeDef.{TypeDef}
use Rattle.type_definitions.specs.Counts.{count_by}
use Rattle.type_classes.proofs.Pushes.{pushed, one_some}
use Rattle.type_classes.proofs.Firsts.{there}
use Rattle.type_classes.specs.declared.counting.TheConstants.{CAP}
use Rattle.type_classes.proofs.Levels.{deeper_is}
use Rattle.type_classes.proofs.counting.deeper.Goals as goal

pub returns-clause-counts : goal.returns-clause-counts
returns-clause-counts c = λ k h. deeper_is c.args.all.now k CAP c.args.counts.now c.loop-x.next.items (omega (arith, c.loop-x.invariant.len, c.loop-x-test.false)) (λ x d l e. c.loop-x.invariant.counted x d (omega (arith, c.loop-x-test.false)) e) h

pub loop-x-preserved : goal.loop-x-preserved
loop-x-preserved c =
    let n = c.loop-x.x in
    let g = c.args.all.now in
    let counts = c.args.counts.now in
    record {
      len = c.in_ok-push.ensures.len ∙ ap (λ k. k + 1) c.loop-x.invariant.len;
      counted = λ x d l e. pushed (λ x v. (d : TypeDef) → slice_get g x ≡ Some d → v ≡ min CAP (count_by (λ p. slice_index counts p) d)) c.loop-x.next.items _ n c.count.result (omega (arith, c.loop-x.invariant.len)) c.in_ok-push.ensures.items
          (λ y m f q. c.loop-x.invariant.counted y f m q)
          (λ f q. subst (λ (z : TypeDef). c.count.result ≡ min CAP (count_by (λ p. slice_index counts p) z)) (one_some (slice_get g n) c.index-all-x.result f (there g n c.index-all-x.result c.loop-x-test.true c.index-all-x.is) q) c.count.ensures)
          x l d e;
    }
