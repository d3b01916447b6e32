use Rattle.std.proofs.Common.{sym, arith, add-one, subst, List, Bool}
use Rattle.type_classes.specs.Walks.{Marks}
use Rattle.type_classes.proofs.Walks.{none_marked}
use Rattle.type_classes.proofs.endless.contains_itself_plainly.Goals as goal

pub loop-steps-init : goal.loop-steps-init
loop-steps-init c = record { len = omega (arith, c.loop-i.invariant.len, c.loop-i-test.false); marks = none_marked c.args.all.now c.args.t c.loop-i.marks.items c.loop-i.invariant.none }

pub loop-steps-preserved : goal.loop-steps-preserved
loop-steps-preserved c =
    let n = c.loop-steps.steps in
    record { len = c.in_ok-marks.ensures.len; marks = rw (add-one n) (c.in_ok-marks.ensures.marks n (subst (λ (m : List Bool). Marks c.args.all.now n c.args.t m) (sym c.deref.ensures.value) c.loop-steps.invariant.marks)) }
