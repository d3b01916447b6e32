-- What a step keeps of the objects.
use Rattle.std.specs.Prelude.{◌≡◌, ℕ, List, Option, Some, Ok, IsSomeAnd, slice_get}
use Rattle.mu_values.specs.declared.scalars.Scalar.{Scalar}
use Rattle.check_tables.specs.declared.tables.Tables.{Tables}
use Rattle.typed_heap.specs.Objects.{HeapObject}
use Rattle.mu_model.specs.Types.{class_definition}
use Rattle.mu_model.specs.Clients.{Answer}
use Rattle.mu_model.specs.Configuration.{Configuration}
use Rattle.mu_model.specs.Acts.{Program}
use Rattle.mu_model.specs.Objects.{cast_any}
use Rattle.mu_model.specs.Outcomes.{Outcome, Next, End, Asks, Stuck}
use Rattle.mu_model.specs.Step.{step}

-- ---- leaves

-- each object that is there is there later too, with the same leaves
pub record KeepsLeaves (os qs : List HeapObject) : Type 0 where
  pub there : (n : ℕ) (o : HeapObject) → slice_get os n ≡ Some o → IsSomeAnd (slice_get qs n) (λ q. q.leaves ≡ o.leaves)

-- what holds of each configuration that an outcome may go on with, whatever the client answers
abbrev pub EachNext : (Configuration → Type 0) → Outcome → Type 0
EachNext P (Next c) = P c
EachNext P (End ls e) = Unit {0}
EachNext P (Asks view go) = (a : Option Answer) → EachNext P (go a)
EachNext P Stuck = Unit {0}

-- a step may add objects, and cells may die, but no object gets other leaves
abbrev pub StepsKeepLeaves : Type 0
StepsKeepLeaves = (p : Program) (c : Configuration) → EachNext (λ d. KeepsLeaves c.objects d.objects) (step p c)

-- ---- casts

-- among these objects a reference is one of the class, and stays as it is
abbrev pub IsGoodCast : Tables → List HeapObject → ℕ → Scalar → Type 0
IsGoodCast p os class s = cast_any p os (class_definition p class) s ≡ Some (Ok s)

-- where objects keep their leaves, it is one of the class later too
abbrev pub CastsStayGood : Type 0
CastsStayGood = (p : Tables) (os qs : List HeapObject) (class : ℕ) (s : Scalar) → KeepsLeaves os qs → IsGoodCast p os class s → IsGoodCast p qs class s
