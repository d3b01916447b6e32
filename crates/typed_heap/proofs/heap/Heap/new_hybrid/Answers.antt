use Rattle.typed_heap.specs.Lemmas.LeafClasses.{hybrid_within}
use Rattle.typed_heap.proofs.heap.Heap.new_hybrid.Goals as goal

pub add-requires-clause-leaves : goal.add-requires-clause-leaves
add-requires-clause-leaves c = rw (c.leaves.ensures, c.run_of.ensures) (hybrid_within c.args.classes.now.definitions c.requires.graph c.args.t c.args.many)
