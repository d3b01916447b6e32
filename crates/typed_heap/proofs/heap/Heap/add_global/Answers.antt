use Rattle.typed_heap.specs.Lemmas.LeafClasses.{all_within}
use Rattle.typed_heap.proofs.heap.Heap.add_global.Goals as goal

pub push-requires-clause-leaves : goal.push-requires-clause-leaves
push-requires-clause-leaves c = rw c.leaves.ensures (all_within c.args.classes.now.definitions c.requires.graph c.args.t 0 0)
