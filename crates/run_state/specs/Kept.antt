-- Laws of values that are kept.
use Rattle.std.specs.Prelude.{◌≡◌, ℕ, List, [], ◌∷◌, Option, Some, length, map, slice_get}
use Rattle.std.proofs.Common.{sym, ◌∙◌, ap, arith}
use Rattle.std.proofs.lemmas.List.{length-map}
use Rattle.mu_values.specs.Slots.{TypedValues}
use Rattle.typed_heap.specs.Places.{with_some}
use Rattle.frames.specs.Activations.{Value}
use Rattle.mu_model.specs.Operands.{all_some}
use Rattle.model_numbers.specs.Numbered.{kept_at}
use Rattle.run_state.specs.StepLaws.{with_there}

all_long : {A : Type 0} (os : List (Option A)) (xs : List A) → all_some os ≡ Some xs → length xs ≡ length os
all_long [] xs h = let same : [] ≡ xs = cc in ap length (sym same)
all_long (o ∷ os) xs h =
    let a = with_there o (λ a. with_some (all_some os) (λ more. Some (a ∷ more))) xs h in
    let more = with_there (all_some os) (λ more. Some (a.0 ∷ more)) xs a.2 in
    let same : (a.0 ∷ more.0) ≡ xs = cc in
    let long = all_long os more.0 more.1 in
    ap length (sym same) ∙ omega (arith, long)

-- each value that is kept has its class
pub kept_even : (types : List ℕ) (vars : List Value) (ns : List ℕ) (k : TypedValues) → kept_at types vars ns ≡ Some k → length k.types ≡ length k.values
kept_even types vars ns k h =
    let cs = with_there (all_some (map (slice_get types) ns)) (λ types. with_some (all_some (map (slice_get vars) ns)) (λ values. Some (record { types = types; values = values }))) k h in
    let vs = with_there (all_some (map (slice_get vars) ns)) (λ values. Some (record { types = cs.0; values = values })) k cs.2 in
    let is : TypedValues = record { types = cs.0; values = vs.0 } in
    let same : is ≡ k = cc in
    let types_long = all_long (map (slice_get types) ns) cs.0 cs.1 in
    let values_long = all_long (map (slice_get vars) ns) vs.0 vs.1 in
    let a : length k.types ≡ length cs.0 = ap (λ (k : TypedValues). length k.types) (sym same) in
    let b : length k.values ≡ length vs.0 = ap (λ (k : TypedValues). length k.values) (sym same) in
    a ∙ types_long ∙ length-map ns (slice_get types) ∙ sym (length-map ns (slice_get vars)) ∙ sym values_long ∙ sym b
