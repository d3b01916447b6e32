use Rattle.std.proofs.Common.{◌≡◌, map, take}
use Rattle.typed_heap.specs.Objects.{leaf_classes, object_of}
use Rattle.hail_load.specs.Code.{code_of}
use Rattle.hail_tests.proofs.loads.heap_of.Given as goal

abbrev pub invariant-loop-n : goal.invariant-loop-n
invariant-loop-n l = l.heap.objects ≡ map (λ t. object_of (code_of l.code).graph (leaf_classes (code_of l.code).graph t)) (take l.n (code_of l.code).globals)
