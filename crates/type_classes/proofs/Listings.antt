-- Of lists of leaves, one level from the one before.
use Rattle.std.proofs.Common.{◌≡◌, ℕ, suc, ◌<◌, ◌≤◌, List, [], ◌∷◌, ◌++◌, length, Some, slice_get, refl, sym, ◌∙◌, ap, arith, get_or, map}
use Rattle.std.specs.Prelude.{slice_index_or, Vec}
use Rattle.std.specs.Global.{Global}
use Rattle.std.specs.List.{All, flat_map}
use Rattle.std.proofs.lemmas.List.{get_or_past, map-append}
use Rattle.std.proofs.lemmas.List.Elements.{All-head, All-tail}
use Rattle.type_definitions.specs.declared.definition.TypeDef.{TypeDef}
use Rattle.type_definitions.specs.declared.definition.TypeDef.TheVariants.{Int, Struct, Array, Hybrid, Void, Ref, Iref, FuncRef, StackRef, ThreadRef, Sig}
use Rattle.type_definitions.specs.Definition.{arguments}
use Rattle.type_definitions.specs.Same.{IsGraph}
use Rattle.type_definitions.specs.Class.{class_of}
use Rattle.type_definitions.specs.Parts.{parts}
use Rattle.type_definitions.specs.Leaves.{leaves_to, leaves_by, leaves_at, times}
use Rattle.type_definitions.specs.Lemmas.Depth.{args_within}
use Rattle.type_definitions.specs.Lemmas.Respect.{map_times, front_all}
use Rattle.mu_types.specs.Rows.{lists}
use Rattle.type_classes.proofs.RowLemmas.{length-lists}
use Rattle.type_classes.specs.Listings.{row_by, IsIdentity, Lists}

pub no_row : (rows : List (Vec ℕ Global)) (n : ℕ) → length rows ≤ n → slice_index_or (lists rows) n [] ≡ []
no_row rows n l = get_or_past (lists rows) n [] (omega (arith, l, length-lists rows))

each_mapped : (C : ℕ → ℕ) (S L : ℕ → List ℕ) (xs : List ℕ) → All (λ p. S p ≡ map C (L p)) xs → flat_map S xs ≡ map C (flat_map L xs)
each_mapped C S L [] h = refl
each_mapped C S L (x ∷ xs) h =
    ap (λ ys. ys ++ flat_map S xs) (All-head (λ p. S p ≡ map C (L p)) x xs h) ∙ (ap (λ ys. map C (L x) ++ ys) (each_mapped C S L xs (All-tail (λ p. S p ≡ map C (L p)) x xs h)) ∙ sym (map-append C (L x) (flat_map L xs)))

-- leaves by the rows of the parts are the classes of the leaves
pub mapped : (C : ℕ → ℕ) (S L : ℕ → List ℕ) (t : ℕ) (d : TypeDef) → All (λ p. S p ≡ map C (L p)) (parts d) → leaves_by S (C t) d ≡ map C (leaves_by L t d)
mapped C S L t (Int width) h = refl
mapped C S L t (Struct fields) h = each_mapped C S L fields h
mapped C S L t (Array element size) h = ap (times size) (All-head (λ p. S p ≡ map C (L p)) element [] h) ∙ sym (map_times C size (L element))
mapped C S L t (Hybrid fixed element) h = each_mapped C S L fixed (front_all (λ p. S p ≡ map C (L p)) fixed element h)
mapped C S L t Void h = refl
mapped C S L t (Ref x) h = refl
mapped C S L t (Iref x) h = refl
mapped C S L t (FuncRef s) h = refl
mapped C S L t StackRef h = refl
mapped C S L t ThreadRef h = refl
mapped C S L t (Sig takes gives) h = refl

parts_are_arguments : (P : ℕ → Type 0) (d : TypeDef) → All P (arguments d) → All P (parts d)
parts_are_arguments P (Int width) h = h
parts_are_arguments P (Struct fields) h = h
parts_are_arguments P (Array element size) h = h
parts_are_arguments P (Hybrid fixed element) h = h
parts_are_arguments P Void h = h
parts_are_arguments P (Ref x) h = λ k e l. absurd (none_below k l)
  where
    none_below : (k : ℕ) → k < 0 → ⊥
    none_below k l = omega arith
parts_are_arguments P (Iref x) h = λ k e l. absurd (none_below k l)
  where
    none_below : (k : ℕ) → k < 0 → ⊥
    none_below k l = omega arith
parts_are_arguments P (FuncRef s) h = λ k e l. absurd (none_below k l)
  where
    none_below : (k : ℕ) → k < 0 → ⊥
    none_below k l = omega arith
parts_are_arguments P StackRef h = h
parts_are_arguments P ThreadRef h = h
parts_are_arguments P (Sig takes gives) h = λ k e l. absurd (none_below k l)
  where
    none_below : (k : ℕ) → k < 0 → ⊥
    none_below k l = omega arith

-- the parts of a type are types of the graph
pub parts_within : (g : List TypeDef) → IsGraph g → (x : ℕ) (d : TypeDef) → slice_get g x ≡ Some d → All (λ p. p < length g) (parts d)
parts_within g i x d e = parts_are_arguments (λ p. p < length g) d (args_within g i x d e)

-- the row of a type one level deeper
pub row_deeper : (g : List TypeDef) → IsGraph g → (k : ℕ) (rows : List (List ℕ)) (number : List ℕ) → IsIdentity number (length g) → Lists g k rows → (x : ℕ) (d : TypeDef) (c : ℕ) (row : List ℕ)
    → slice_get g x ≡ Some d → c ≡ class_of g x → row ≡ leaves_by (row_by rows number) c d → row ≡ map (class_of g) (leaves_to g (suc k) x)
unfolding leaves_to
row_deeper g i k rows number n h x d c row e q r =
    r ∙ (ap (λ w. leaves_by (row_by rows number) w d) q
    ∙ (mapped (class_of g) (row_by rows number) (leaves_to g k) x d (λ j y m. let p = get_or (parts d) j y in let l = parts_within g i x d e j y m in ap (λ w. slice_index_or rows w []) (n p l) ∙ h p l)
    ∙ ap (λ o. map (class_of g) (leaves_at (leaves_to g k) x o)) (sym e)))

pub no_leaves : (g : List TypeDef) (rows : List (List ℕ)) → ((x : ℕ) → slice_index_or rows x [] ≡ []) → Lists g 0 rows
unfolding leaves_to
no_leaves g rows h x l = h x

pub alone : (xs : List ℕ) → length xs ≡ 1 → get_or xs 0 0 ∷ [] ≡ xs
alone [] h = absurd (omega (arith, h))
alone (x ∷ []) h = refl
alone (x ∷ y ∷ xs) h = absurd (omega (arith, h))
