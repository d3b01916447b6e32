use Rattle.value_tests.proofs.Sketches.{drawn_more}
use Rattle.value_tests.proofs.sketch.Sketch.add.Goals as goal

pub invariant_of-self-2 : goal.invariant_of-self-2
invariant_of-self-2 c =
    let before = c.self.inside in
    rw (c.in_ok-add.ensures.definitions, c.references_to-references.ensures) (drawn_more before.graph.definitions c.args.definition before.count before.whole before.top c.above_arguments-top.result c.self.invariant c.above_arguments-top.ensures.least c.above_arguments-top.ensures.above)
