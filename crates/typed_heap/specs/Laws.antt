-- What laws say of objects and of worlds that grow.
use Rattle.std.specs.Prelude.{◌≡◌, ℕ, ◌≤◌, List, Some, slice_get, IsSomeAnd}
use Rattle.type_definitions.specs.declared.definition.TypeDef.{TypeDef}
use Rattle.typed_heap.specs.Objects.{HeapObject}
use Rattle.typed_heap.specs.Fits.{World, ScalarsFit}

-- an object has one initial scalar for each leaf, fitting it
abbrev pub ObjectFits : List TypeDef → World → HeapObject → Type 0
ObjectFits graph w o = ScalarsFit graph w o.leaves o.initial

-- each object of the first list is in the second one, under its number, with the same leaves
abbrev pub KeepsLeaves : List HeapObject → List HeapObject → Type 0
KeepsLeaves os ps = (n : ℕ) (o : HeapObject) → slice_get os n ≡ Some o → IsSomeAnd (slice_get ps n) (λ p. p.leaves ≡ o.leaves)

-- the second world has what the first one has: the objects with their leaves, the functions, and as many stacks and threads or more
pub record Grows (w v : World) : Type 0 where
  pub objects : KeepsLeaves w.objects v.objects
  pub signatures : w.signatures ≡ v.signatures
  pub stacks : w.stacks ≤ v.stacks
  pub threads : w.threads ≤ v.threads
