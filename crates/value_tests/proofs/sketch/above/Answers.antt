use Rattle.std.proofs.Common.{ℕ, List, ◌<◌, length, subst, arith}
use Rattle.std.specs.List.{All}
use Rattle.std.proofs.lemmas.List.{take_all}
use Rattle.value_tests.proofs.Sketches.{more_below}
use Rattle.value_tests.proofs.sketch.above.Goals as goal

pub loop-k-preserved : goal.loop-k-preserved
loop-k-preserved c =
    let grown = c.greater-top.ensures in
    let within : c.loop-k.k < length c.args.list.now = omega (arith, c.loop-k-test.true) in
    (omega (arith, c.loop-k.invariant.0, grown.a), more_below c.args.list.now c.loop-k.k c.loop-k.top c.greater-top.result within grown.a (omega (arith, grown.b)) c.loop-k.invariant.1)

pub returns-clause-above : goal.returns-clause-above
returns-clause-above c =
    let whole = take_all c.loop-k.k c.args.list.now (omega (arith, c.loop-k-test.false)) in
    subst (λ (xs : List ℕ). All (λ y. y < c.loop-k.top) xs) whole c.loop-k.invariant.1
