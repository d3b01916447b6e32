-- What cells begin with, as it is kept and as it is seen.
use Rattle.std.proofs.Common.{◌≡◌, ℕ, ◌+◌, ◌<◌, ◌^◌, IfSome, List, [], ◌∷◌, ◌++◌, length, map, Option, Some, None, slice_get, refl, subst, ◌∙◌, arith}
use Rattle.std.specs.Prelude.{slice_index_or, slice_set}
use Rattle.std.specs.List.{All}
use Rattle.std.proofs.lemmas.List.{map-set, get_or_append_left}
use Rattle.std.proofs.lemmas.List.Elements.{All-cons, All-head, All-tail, All-nil}
use Rattle.std.proofs.Math.Seq.{get_or-append_seam}
use Rattle.type_definitions.specs.declared.definition.TypeDef.{TypeDef}
use Rattle.mu_values.specs.Constants.{width_of}
use Rattle.mu_values.specs.declared.scalars.Scalar.{Scalar}
use Rattle.mu_values.specs.declared.scalars.Scalar.TheVariants.{Null}
use Rattle.typed_heap.specs.Objects.{zero_of, zeros}
use Rattle.typed_heap.specs.Heap.{AreNarrow}
use Rattle.typed_heap.specs.declared.objects.Initial.{Initial}
use Rattle.typed_heap.specs.declared.objects.Initial.TheVariants as initials
use Rattle.typed_heap.specs.Rows.{initial_of, IsKnown, first_by, firsts}

zero_shown : (given : List Scalar) (o : Option ℕ) → initial_of given (first_by o) ≡ zero_of o
zero_shown given None = refl
zero_shown given (Some w) = refl

pub zeros_shown : (given : List Scalar) (g : List TypeDef) (cs : List ℕ) → map (initial_of given) (firsts g cs) ≡ zeros g cs
zeros_shown given g [] = refl
zeros_shown given g (c ∷ cs) = let here = zero_shown given (width_of (slice_get g c)) in let rest = zeros_shown given g cs in cc

first_known : (many : ℕ) (o : Option ℕ) → IsKnown many (first_by o)
first_known many None = tt
first_known many (Some w) = tt

pub firsts_known : (many : ℕ) (g : List TypeDef) (cs : List ℕ) → All (IsKnown many) (firsts g cs)
firsts_known many g [] = All-nil (IsKnown many)
firsts_known many g (c ∷ cs) = All-cons (IsKnown many) (first_by (width_of (slice_get g c))) (firsts g cs) (first_known many (width_of (slice_get g c))) (firsts_known many g cs)

known_later : (many : ℕ) (i : Initial) → IsKnown many i → IsKnown (many + 1) i
known_later many initials.Null h = tt
known_later many (initials.Zero w) h = tt
known_later many (initials.Given n) h = omega arith

pub known_more : (many : ℕ) (is : List Initial) → All (IsKnown many) is → All (IsKnown (many + 1)) is
known_more many is h k d l = known_later many (slice_index_or is k d) (h k d l)

shown_again : (given : List Scalar) (s : Scalar) (i : Initial) → IsKnown (length given) i → initial_of (given ++ s ∷ []) i ≡ initial_of given i
shown_again given s initials.Null h = refl
shown_again given s (initials.Zero w) h = refl
shown_again given s (initials.Given n) h = get_or_append_left given (s ∷ []) Null n h

all_again : (given : List Scalar) (s : Scalar) (is : List Initial) → All (IsKnown (length given)) is → map (initial_of (given ++ s ∷ [])) is ≡ map (initial_of given) is
all_again given s [] h = refl
all_again given s (i ∷ is) h =
    let here = shown_again given s i (All-head (IsKnown (length given)) i is h) in
    let rest = all_again given s is (All-tail (IsKnown (length given)) i is h) in
    cc

-- one more scalar is given, to one cell
pub given_shown : (given : List Scalar) (s : Scalar) (is : List Initial) (k : ℕ) → All (IsKnown (length given)) is →
    map (initial_of (given ++ s ∷ [])) (slice_set is k (initials.Given (length given))) ≡ slice_set (map (initial_of given) is) k s
given_shown given s is k h =
    let same = all_again given s is h in
    let here : slice_index_or (given ++ s ∷ []) (length given) Null ≡ s = get_or-append_seam given s [] Null in
    map-set (initial_of (given ++ s ∷ [])) is k (initials.Given (length given)) ∙ (let moved : slice_set (map (initial_of (given ++ s ∷ [])) is) k (slice_index_or (given ++ s ∷ []) (length given) Null) ≡ slice_set (map (initial_of given) is) k s = rw (same, here) refl in moved)

narrow_of : (o : Option ℕ) → ((w : ℕ) → o ≡ Some w → w < 2 ^ 32) → IfSome o (λ w. w < 2 ^ 32)
narrow_of None h = tt
narrow_of (Some w) h = h w refl

pub narrow_at : (g : List TypeDef) → AreNarrow g → (c : ℕ) (d : TypeDef) → slice_get g c ≡ Some d → IfSome (width_of (Some d)) (λ w. w < 2 ^ 32)
narrow_at g h c d e = let P : Option TypeDef → Type 0 = λ o. IfSome (width_of o) (λ w. w < 2 ^ 32) in subst P e (narrow_of (width_of (slice_get g c)) (h c))
