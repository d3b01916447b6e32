use Rattle.typed_heap.specs.Lemmas.LeafClasses.{classes_within}
use Rattle.client_hooks.proofs.view.blank_values.Goals as goal

pub zeros-requires-clause-leaves : goal.zeros-requires-clause-leaves
zeros-requires-clause-leaves c = rw c.leaves.ensures (classes_within c.classes-classes.result.now.definitions c.classes-classes.ensures.graph _)
