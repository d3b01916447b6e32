use Rattle.typed_heap.specs.Lemmas.LeafClasses.{all_within}
use Rattle.typed_heap.proofs.heap.Heap.new_object.Goals as goal

pub add-requires-clause-leaves : goal.add-requires-clause-leaves
add-requires-clause-leaves c = rw c.leaves.ensures (all_within c.args.classes.now.definitions c.requires.graph c.args.t 0 0)
