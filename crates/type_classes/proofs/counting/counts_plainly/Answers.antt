use Rattle.std.proofs.Common.{sym, arith, ℕ, add-one, subst, List}
use Rattle.type_classes.specs.declared.counting.TheConstants.{CAP}
use Rattle.type_classes.specs.Levels.{Counts}
use Rattle.type_classes.proofs.Levels.{none_counted}
use Rattle.type_classes.proofs.counting.counts_plainly.Goals as goal

pub loop-depth-init : goal.loop-depth-init
loop-depth-init c = record { len = omega (arith, c.loop-i.invariant.len, c.loop-i-test.false); counts = none_counted c.args.all.now CAP c.loop-i.counts.items c.loop-i.invariant.none }

pub loop-depth-preserved : goal.loop-depth-preserved
loop-depth-preserved c =
    let n = c.loop-depth.depth in
    record { len = c.in_ok-counts.ensures.len; counts = rw (add-one n) (c.in_ok-counts.ensures.counts n (subst (λ (m : List ℕ). Counts c.args.all.now n CAP m) (sym c.deref.ensures.value) c.loop-depth.invariant.counts)) }
