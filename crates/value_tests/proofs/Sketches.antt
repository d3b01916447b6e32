-- A definition is added to a graph that is being drawn.
use Rattle.std.proofs.Common.{◌≡◌, ℕ, suc, ◌+◌, ◌<◌, ◌≤◌, List, [], ◌∷◌, ◌++◌, length, take, get_or, arith, refl}
use Rattle.std.specs.Prelude.{Bool, true, false, cond}
use Rattle.std.specs.List.{All}
use Rattle.std.proofs.lemmas.List.{length-append}
use Rattle.std.proofs.lemmas.List.Elements.{All-push, All-append, All-weaker, All-more}
use Rattle.type_definitions.specs.declared.definition.TypeDef.{TypeDef}
use Rattle.type_definitions.specs.declared.definition.TypeDef.TheVariants.{Int, Void, StackRef, ThreadRef}
use Rattle.type_definitions.specs.Definition.{arguments}
use Rattle.type_definitions.specs.Same.{IsGraph}
use Rattle.mu_types.specs.Implied.{is_signature, references, references_from, complete}
use Rattle.value_tests.specs.Sketches.{IsDrawn}

-- how many types refer to a definition
abbrev pub referring : TypeDef → ℕ
referring d = cond (is_signature d) 1 2

refer : (t : ℕ) (d : TypeDef) (b : Bool) → is_signature d ≡ b → length (references t d) ≡ referring d
refer t d true e = rw e refl
refer t d false e = rw e refl

refer_one_more : (t : ℕ) (g : List TypeDef) (d : TypeDef) →
    length (references_from t ((g ++ d ∷ []) ++ Void ∷ [])) ≡ length (references_from t (g ++ Void ∷ [])) + referring d
refer_one_more t [] d =
    omega (arith, length-append (references t d) (references_from (suc t) (Void ∷ [])), refer t d (is_signature d) refl)
refer_one_more t (x ∷ g) d =
    omega (arith, length-append (references t x) (references_from (suc t) ((g ++ d ∷ []) ++ Void ∷ [])), length-append (references t x) (references_from (suc t) (g ++ Void ∷ [])), refer_one_more (suc t) g d)

abbrev alone : List TypeDef → List TypeDef
alone g = g ++ Void ∷ [] ++ Int 1 ∷ Int 32 ∷ StackRef ∷ ThreadRef ∷ []

completed : (g : List TypeDef) → length (complete g) ≡ length g + 5 + length (references_from 0 (g ++ Void ∷ []))
completed g =
    let whole : length (complete g) ≡ length (alone g) + length (references_from 0 (g ++ Void ∷ [])) = length-append (alone g) (references_from 0 (g ++ Void ∷ [])) in
    let five : length (alone g) ≡ length (g ++ Void ∷ []) + 4 = length-append (g ++ Void ∷ []) (Int 1 ∷ Int 32 ∷ StackRef ∷ ThreadRef ∷ []) in
    omega (arith, whole, five, length-append g (Void ∷ []))

one_more : (g : List TypeDef) (d : TypeDef) → length (complete (g ++ d ∷ [])) ≡ length (complete g) + 1 + referring d
one_more g d =
    omega (arith, completed g, completed (g ++ d ∷ []), length-append g (d ∷ []), refer_one_more 0 g d)

referring_few : (d : TypeDef) → referring d ≤ 2
referring_few d = go (is_signature d) refl
  where
    go : (b : Bool) → is_signature d ≡ b → referring d ≤ 2
    go true e = rw e (omega arith)
    go false e = rw e (omega arith)

raised : (a b : ℕ) (xs : List ℕ) → a ≤ b → All (λ y. y < a) xs → All (λ y. y < b) xs
raised a b xs l h = All-weaker (λ y. y < a) (λ y. y < b) (λ y m. omega (arith, m, l)) xs h

all_raised : (a b : ℕ) (ds : List TypeDef) → a ≤ b → All (λ d. All (λ y. y < a) (arguments d)) ds → All (λ d. All (λ y. y < b) (arguments d)) ds
all_raised a b ds l h = All-weaker (λ d. All (λ y. y < a) (arguments d)) (λ d. All (λ y. y < b) (arguments d)) (λ d k. raised a b (arguments d) l k) ds h

pub both_below : (a b : ℕ) (xs ys : List ℕ) → a ≤ b → All (λ y. y < a) xs → All (λ y. y < b) ys → All (λ y. y < b) (xs ++ ys)
both_below a b xs ys l h k = All-append (λ y. y < b) xs ys (raised a b xs l h) k

-- a list so far, and one more
pub more_below : (xs : List ℕ) (k a b : ℕ) → k < length xs → a ≤ b → get_or xs k 0 < b → All (λ y. y < a) (take k xs) → All (λ y. y < b) (take (k + 1) xs)
more_below xs k a b l g m h = All-more (λ y. y < b) xs k 0 l (raised a b (take k xs) g h) m

-- a definition more
pub drawn_more : (g : List TypeDef) (d : TypeDef) (count whole top above : ℕ) → IsDrawn g count whole top → top ≤ above → All (λ y. y < above) (arguments d)
    → IsDrawn (g ++ d ∷ []) (count + 1) (whole + (1 + referring d)) above
drawn_more g d count whole top above h l a = record {
  counted = omega (arith, h.counted, length-append g (d ∷ []));
  completed = omega (arith, h.completed, one_more g d);
  few = omega (arith, h.few, referring_few d);
  below = All-push (λ e. All (λ y. y < above) (arguments e)) g d (all_raised top above g l h.below) a;
}

pub drawn_graph : (g : List TypeDef) (count whole top : ℕ) → IsDrawn g count whole top → top ≤ count → IsGraph g
drawn_graph g count whole top h l = all_raised top (length g) g (omega (arith, h.counted, l)) h.below
