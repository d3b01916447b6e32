-- Laws of the whole graph: where the implied types without arguments stand, and that its ids are in range. Crates above cite them.
use Rattle.std.proofs.Common.{◌≡◌, ℕ, suc, ◌+◌, ◌<◌, ◌≤◌, Bool, true, false, List, [], ◌∷◌, ◌++◌, length, Some, slice_get, sym, ◌∙◌, ap, subst, arith, get_or, cond, add-zero}
use Rattle.std.specs.List.{All}
use Rattle.std.proofs.lemmas.List.Elements.{All-nil, All-cons, All-append}
use Rattle.std.proofs.lemmas.List.{get_or-append-add, length-append, append_assoc}
use Rattle.std.proofs.lemmas.Option.{slice_get-get_or}
use Rattle.type_definitions.specs.Definition.{arguments}
use Rattle.type_definitions.specs.Same.{IsGraph}
use Rattle.type_definitions.specs.declared.definition.TypeDef.{TypeDef}
use Rattle.type_definitions.specs.declared.definition.TypeDef.TheVariants.{Int, Void, Ref, Iref, FuncRef, StackRef, ThreadRef}
use Rattle.mu_types.specs.Implied.{is_signature, references, references_from, complete}
use Rattle.mu_types.specs.References.{IsHeaded}

-- the implied types without arguments stand right after the written definitions
pub headed : (w : List TypeDef) → IsHeaded (complete w) (length w)
headed w =
    let four = Int 1 ∷ Int 32 ∷ StackRef ∷ ThreadRef ∷ [] in
    let refs = references_from 0 (w ++ Void ∷ []) in
    let e : complete w ≡ w ++ (Void ∷ Int 1 ∷ Int 32 ∷ StackRef ∷ ThreadRef ∷ refs) = append_assoc (w ++ Void ∷ []) four refs ∙ append_assoc w (Void ∷ []) (four ++ refs) in
    let at : (k : ℕ) → get_or (complete w) (length w + k) Void ≡ get_or (Void ∷ Int 1 ∷ Int 32 ∷ StackRef ∷ ThreadRef ∷ refs) k Void = λ k. ap (λ (xs : List TypeDef). get_or xs (length w + k) Void) e ∙ get_or-append-add w (Void ∷ Int 1 ∷ Int 32 ∷ StackRef ∷ ThreadRef ∷ refs) k Void in
    let len : length (complete w) ≡ length w + length (Void ∷ Int 1 ∷ Int 32 ∷ StackRef ∷ ThreadRef ∷ refs) = ap (λ (xs : List TypeDef). length xs) e ∙ length-append w (Void ∷ Int 1 ∷ Int 32 ∷ StackRef ∷ ThreadRef ∷ refs) in
    let got : (k : ℕ) → k < 5 → slice_get (complete w) (length w + k) ≡ Some (get_or (Void ∷ Int 1 ∷ Int 32 ∷ StackRef ∷ ThreadRef ∷ refs) k Void) = λ k l. slice_get-get_or (complete w) (length w + k) Void (omega (arith, len, l)) ∙ ap Some (at k) in
    record {
      nothing = subst (λ i. slice_get (complete w) i ≡ Some Void) (add-zero (length w)) (got 0 (omega arith));
      bit = got 1 (omega arith);
      word = got 2 (omega arith);
      stack = got 3 (omega arith);
      thread = got 4 (omega arith);
    }

Within : ℕ → TypeDef → Type 0
Within n d = All (λ y. y < n) (arguments d)

one_within : (n t : ℕ) → t < n → All (λ y. y < n) (t ∷ [])
one_within n t l = All-cons (λ y. y < n) t [] l (All-nil (λ y. y < n))

references_within : (n t : ℕ) (d : TypeDef) → t < n → All (Within n) (references t d)
unfolding Within
references_within n t d l = go (is_signature d)
  where
    go : (b : Bool) → All (λ d. All (λ y. y < n) (arguments d)) (cond b (FuncRef t ∷ []) (Ref t ∷ Iref t ∷ []))
    go true = All-cons (λ d. All (λ y. y < n) (arguments d)) (FuncRef t) [] (one_within n t l) (All-nil (λ d. All (λ y. y < n) (arguments d)))
    go false = All-cons (λ d. All (λ y. y < n) (arguments d)) (Ref t) (Iref t ∷ []) (one_within n t l) (All-cons (λ d. All (λ y. y < n) (arguments d)) (Iref t) [] (one_within n t l) (All-nil (λ d. All (λ y. y < n) (arguments d))))

all_within : (n t : ℕ) (ds : List TypeDef) → t + length ds ≤ n → All (Within n) (references_from t ds)
all_within n t [] l = All-nil (Within n)
all_within n t (d ∷ ds) l = All-append (Within n) (references t d) (references_from (suc t) ds) (references_within n t d (omega arith)) (all_within n (suc t) ds (omega arith))

-- the whole graph of a graph is one
pub complete_is_graph : (w : List TypeDef) → IsGraph w → IsGraph (complete w)
unfolding Within
complete_is_graph w i =
    let four = Int 1 ∷ Int 32 ∷ StackRef ∷ ThreadRef ∷ [] in
    let refs = references_from 0 (w ++ Void ∷ []) in
    let e : complete w ≡ w ++ (Void ∷ Int 1 ∷ Int 32 ∷ StackRef ∷ ThreadRef ∷ refs) = append_assoc (w ++ Void ∷ []) four refs ∙ append_assoc w (Void ∷ []) (four ++ refs) in
    let len : length (complete w) ≡ length w + length (Void ∷ Int 1 ∷ Int 32 ∷ StackRef ∷ ThreadRef ∷ refs) = ap (λ (xs : List TypeDef). length xs) e ∙ length-append w (Void ∷ Int 1 ∷ Int 32 ∷ StackRef ∷ ThreadRef ∷ refs) in
    let n = length (complete w) in
    let base = length-append w (Void ∷ []) in
    let a : All (Within n) w = λ k d l. λ j y m. let h = i k d l j y m in omega (arith, h, len) in
    let b : All (Within n) refs = all_within n 0 (w ++ Void ∷ []) (omega (arith, base, len)) in
    let none : All (λ y. y < n) [] = All-nil (λ y. y < n) in
    let P = Within n in
    let c : All P (Void ∷ Int 1 ∷ Int 32 ∷ StackRef ∷ ThreadRef ∷ refs) = All-cons P Void (Int 1 ∷ Int 32 ∷ StackRef ∷ ThreadRef ∷ refs) none (All-cons P (Int 1) (Int 32 ∷ StackRef ∷ ThreadRef ∷ refs) none
    (All-cons P (Int 32) (StackRef ∷ ThreadRef ∷ refs) none (All-cons P StackRef (ThreadRef ∷ refs) none (All-cons P ThreadRef refs none b)))) in
    subst (λ (xs : List TypeDef). All P xs) (sym e) (All-append P w (Void ∷ Int 1 ∷ Int 32 ∷ StackRef ∷ ThreadRef ∷ refs) a c)
