use Rattle.std.proofs.Common.{◌≡◌, subst, arith, length, min}
use Rattle.type_definitions.specs.Leaves.{leaves}
use Rattle.type_classes.specs.declared.counting.TheConstants.{CAP}
use Rattle.type_classes.specs.Ordered.{Found}
use Rattle.type_classes.proofs.Ordered.{all_counted}
use Rattle.type_classes.proofs.counting.count_all.Goals as goal

pub returns-clause-counts : goal.returns-clause-counts
returns-clause-counts c =
    let g = c.args.all.now in
    let past = c.loop-i-test.false in
    let end = c.loop-i.auto.i-end in
    let e : c.loop-i.i ≡ length g = omega (arith, past, end) in
    all_counted g CAP c.args.rank.now c.loop-i.counts c.requires.ranked c.loop-i.invariant.len
    (subst (λ k. Found 0 (length g) c.args.rank.now (λ x. min CAP (length (leaves g x))) c.loop-i.counts k) e c.loop-i.invariant.found)
