-- What a shape tells of a definition, one lemma a shape.
use Rattle.std.proofs.Common.{◌≡◌, ℕ, List, Option, Some, IsSomeAnd, refl, ap}
use Rattle.type_definitions.specs.declared.definition.TypeDef.{TypeDef}
use Rattle.type_definitions.specs.declared.definition.TypeDef.TheVariants.{Int, Ref, Iref, FuncRef, StackRef, ThreadRef}
use Rattle.type_definitions.specs.Class.{class_of}
use Rattle.bundle_facts.specs.Facts.{AreShaped}

pub int_told : (g : List TypeDef) (w : ℕ) (o : Option TypeDef) → IsSomeAnd o (AreShaped g (Int w)) → o ≡ Some (Int w)
int_told g w (Some (Int v)) h = ap (λ (n : ℕ). Some (Int n)) h
int_told g w o h = absurd h

pub ref_told : (g : List TypeDef) (t : ℕ) (o : Option TypeDef) → IsSomeAnd o (AreShaped g (Ref t)) → (k : ℕ) × (o ≡ Some (Ref k)) × (class_of g k ≡ class_of g t)
ref_told g t (Some (Ref k)) h = (k, refl, h)
ref_told g t o h = absurd h

pub iref_told : (g : List TypeDef) (t : ℕ) (o : Option TypeDef) → IsSomeAnd o (AreShaped g (Iref t)) → (k : ℕ) × (o ≡ Some (Iref k)) × (class_of g k ≡ class_of g t)
iref_told g t (Some (Iref k)) h = (k, refl, h)
iref_told g t o h = absurd h

pub funcref_told : (g : List TypeDef) (t : ℕ) (o : Option TypeDef) → IsSomeAnd o (AreShaped g (FuncRef t)) → (k : ℕ) × (o ≡ Some (FuncRef k)) × (class_of g k ≡ class_of g t)
funcref_told g t (Some (FuncRef k)) h = (k, refl, h)
funcref_told g t o h = absurd h

pub stackref_told : (g : List TypeDef) (o : Option TypeDef) → IsSomeAnd o (AreShaped g StackRef) → o ≡ Some StackRef
stackref_told g (Some StackRef) h = refl
stackref_told g o h = absurd h

pub threadref_told : (g : List TypeDef) (o : Option TypeDef) → IsSomeAnd o (AreShaped g ThreadRef) → o ≡ Some ThreadRef
threadref_told g (Some ThreadRef) h = refl
threadref_told g o h = absurd h
