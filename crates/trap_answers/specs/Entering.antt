-- An answer that can be entered with an exception has one scalar.
use Rattle.std.specs.Prelude.{◌≡◌, ℕ, ◌==◌, true, false, [], ◌∷◌, Option, Some, None, IsSome, refl}
use Rattle.std.proofs.Common.{arith}
use Rattle.std.proofs.lemmas.Bool.Decides.{nat_tests}
use Rattle.mu_values.specs.declared.scalars.Scalar.{Scalar}
use Rattle.check_tables.specs.declared.tables.Tables.{Tables}
use Rattle.check_tables.specs.Types.{ref_void}
use Rattle.typed_heap.specs.Places.{with_some}
use Rattle.frames.specs.Activations.{Value}
use Rattle.mu_model.specs.Acts.{ThrowsInto, Misfits}
use Rattle.mu_model.specs.Clients.{Throw}
use Rattle.mu_model.specs.Operands.{scalar_in}
use Rattle.mu_model.specs.Traps.{entering_of}

pub one_scalar : (v : Value) → IsSome (scalar_in (Some v)) → (s : Scalar) × (v ≡ s ∷ [])
one_scalar [] h = cc
one_scalar (s ∷ []) h = (s, refl)
one_scalar (s ∷ (t ∷ ts)) h = cc

pub ruleset entered = (one_scalar)

-- an exception of the type that is thrown, and one of another

some_before : {A B : Type 0} (o : Option A) (f : A → Option B) → IsSome (with_some o f) → IsSome o
some_before (Some a) f h = refl
some_before None f h = cc

pub thrown_scalar : (p : Tables) (class : ℕ) (v : Value) → class ≡ ref_void p.types → IsSome (entering_of p (Throw (class, v))) → IsSome (scalar_in (Some v))
thrown_scalar p class v is h =
    let same : (class == ref_void p.types) ≡ true = grind (arith, nat_tests) in
    some_before (scalar_in (Some v)) (λ e. Some (ThrowsInto e)) (rw same at h)

pub thrown_enters : (p : Tables) (class : ℕ) (v : Value) (s : Scalar) → class ≡ ref_void p.types → scalar_in (Some v) ≡ Some s → entering_of p (Throw (class, v)) ≡ Some (ThrowsInto s)
thrown_enters p class v s is one =
    let same : (class == ref_void p.types) ≡ true = grind (arith, nat_tests) in
    rw (same, one) refl

pub other_misfits : (p : Tables) (class : ℕ) (v : Value) → (class ≡ ref_void p.types → ⊥) → entering_of p (Throw (class, v)) ≡ Some Misfits
other_misfits p class v other =
    let differ : (class == ref_void p.types) ≡ false = grind (arith, nat_tests) in
    rw differ refl

pub ruleset thrown = (thrown_scalar, thrown_enters, other_misfits)
