-- Of lists of lists.
use Rattle.std.proofs.Common.{◌≡◌, ℕ, ◌<◌, List, [], ◌∷◌, ◌++◌, length, sym, ◌∙◌, ap, subst, arith, get_or, inl, inr, ◌⊎◌}
use Rattle.std.proofs.Math.ListN.{set}
use Rattle.std.specs.Prelude.{Vec, slice_index_or}
use Rattle.std.specs.Global.{Global}
use Rattle.std.specs.List.{Contains}
use Rattle.std.proofs.lemmas.Bool.{cases_eq}
use Rattle.std.proofs.lemmas.List.{get_or-set_same, get_or-set_other, get_or-map, map-set}
use Rattle.std.proofs.lemmas.List.{length-map}
use Rattle.std.proofs.Math.ListN.{length-set}
use Rattle.std.proofs.lemmas.List.Elements.{Contains-append_left, Contains-push, Contains-push_cases}
use Rattle.mu_types.specs.Rows.{lists, Holds, added}

pub added_kept : {X : Type 0} (rows : List (List X)) (i : ℕ) (x : X) (j : ℕ) (y : X) → i < length rows → Holds rows j y → Holds (added rows i x) j y
added_kept {X} rows i x j y l h = elim (cases_eq j i) [
  | inr n ↦ subst (λ (r : List X). Contains r y) (sym (get_or-set_other rows i j (get_or rows i [] ++ x ∷ []) [] n)) h
  | inl e ↦ subst (λ w. Holds (added rows i x) w y) (sym e) (subst (λ (r : List X). Contains r y) (sym (get_or-set_same rows i (get_or rows i [] ++ x ∷ []) [] l)) (Contains-append_left (get_or rows i []) (x ∷ []) y (subst (λ k. Contains (get_or rows k []) y) e h)))
]

pub added_there : {X : Type 0} (rows : List (List X)) (i : ℕ) (x : X) → i < length rows → Holds (added rows i x) i x
added_there {X} rows i x l = subst (λ (r : List X). Contains r x) (sym (get_or-set_same rows i (get_or rows i [] ++ x ∷ []) [] l)) (Contains-push (get_or rows i []) x)

pub added_only : {X : Type 0} (rows : List (List X)) (i : ℕ) (x : X) (j : ℕ) (y : X) → i < length rows → Holds (added rows i x) j y → Holds rows j y ⊎ ((j ≡ i) × (x ≡ y))
added_only {X} rows i x j y l h = elim (cases_eq j i) [
  | inr n ↦ inl (subst (λ (r : List X). Contains r y) (get_or-set_other rows i j (get_or rows i [] ++ x ∷ []) [] n) h)
  | inl e ↦ elim (Contains-push_cases (get_or rows i []) x y (subst (λ (r : List X). Contains r y) (get_or-set_same rows i (get_or rows i [] ++ x ∷ []) [] l) (subst (λ w. Holds (added rows i x) w y) e h))) [
    | inl k ↦ inl (subst (λ w. Contains (get_or rows w []) y) (sym e) k)
    | inr q ↦ inr (e, q)
  ]
]

pub lists_pushed : {X : Type 0} (rows : List (Vec X Global)) (i : ℕ) (v w : Vec X Global) (x : X) → i < length rows → v ≡ get_or rows i v → w.items ≡ v.items ++ x ∷ [] → lists (set rows i w) ≡ added (lists rows) i x
lists_pushed {X} rows i v w x l e f =
    let g : get_or (lists rows) i [] ≡ v.items = get_or-map (λ (u : Vec X Global). u.items) rows i v [] l ∙ ap (λ (u : Vec X Global). u.items) (sym e) in
    map-set (λ (u : Vec X Global). u.items) rows i w ∙ ap (λ (r : List X). set (lists rows) i r) (f ∙ ap (λ (r : List X). r ++ x ∷ []) (sym g))

pub length-lists : {X : Type 0} (rows : List (Vec X Global)) → length (lists rows) ≡ length rows
length-lists {X} rows = length-map rows (λ (u : Vec X Global). u.items)

pub length-added : {X : Type 0} (rows : List (List X)) (i : ℕ) (x : X) → length (added rows i x) ≡ length rows
length-added rows i x = length-set rows i (get_or rows i [] ++ x ∷ [])

-- the same of rows that are equal to those with x added
pub pushed_kept : {X : Type 0} (rows more : List (List X)) (i : ℕ) (x : X) → more ≡ added rows i x → i < length rows → (j : ℕ) (y : X) → Holds rows j y → Holds more j y
pushed_kept {X} rows more i x e l j y h = subst (λ (r : List (List X)). Holds r j y) (sym e) (added_kept rows i x j y l h)

pub pushed_there : {X : Type 0} (rows more : List (List X)) (i : ℕ) (x : X) → more ≡ added rows i x → i < length rows → Holds more i x
pushed_there {X} rows more i x e l = subst (λ (r : List (List X)). Holds r i x) (sym e) (added_there rows i x l)

pub pushed_only : {X : Type 0} (rows more : List (List X)) (i : ℕ) (x : X) → more ≡ added rows i x → i < length rows → (P : ℕ → X → Type 0) → P i x → (j : ℕ) (y : X) → Holds more j y → Holds rows j y ⊎ P j y
pushed_only {X} rows more i x e l P p j y h = elim (added_only rows i x j y l (subst (λ (r : List (List X)). Holds r j y) e h)) [
  | inl k ↦ inl k
  | inr q ↦ inr (subst (λ w. P w y) (sym q.0) (subst (λ w. P i w) q.1 p))
]

pub lists_emptied : {X : Type 0} (rows : List (Vec X Global)) (i : ℕ) (w : Vec X Global) → w.items ≡ [] → lists (set rows i w) ≡ set (lists rows) i []
lists_emptied {X} rows i w f = map-set (λ (u : Vec X Global). u.items) rows i w ∙ ap (λ (r : List X). set (lists rows) i r) f

-- what is held after a row was emptied was held before, and not in that row
pub emptied_held : {X : Type 0} (rows : List (List X)) (i j : ℕ) (y : X) → i < length rows → Holds (set rows i []) j y → Holds rows j y × ((j ≡ i) → ⊥)
emptied_held {X} rows i j y l h = elim (cases_eq j i) [
  | inl q ↦ let g : Contains [] y = subst (λ (r : List X). Contains r y) (get_or-set_same rows i [] [] l) (subst (λ w. Holds (set rows i []) w y) q h) in absurd (no_item g.0 g.1)
  | inr q ↦ (subst (λ (r : List X). Contains r y) (get_or-set_other rows i j [] [] q) h, q)
]
  where
    no_item : (k : ℕ) → k < 0 → ⊥
    no_item k m = omega arith

pub emptied_kept : {X : Type 0} (rows : List (List X)) (i j : ℕ) (y : X) → ((j ≡ i) → ⊥) → Holds rows j y → Holds (set rows i []) j y
emptied_kept {X} rows i j y q h = subst (λ (r : List X). Contains r y) (sym (get_or-set_other rows i j [] [] q)) h

pub row_is : {X : Type 0} (rows : List (Vec X Global)) (i : ℕ) (v : Vec X Global) → i < length rows → v ≡ get_or rows i v → slice_index_or (lists rows) i [] ≡ v.items
row_is {X} rows i v l e = get_or-map (λ (u : Vec X Global). u.items) rows i v [] l ∙ ap (λ (u : Vec X Global). u.items) (sym e)

pub row_at : {X : Type 0} (rows : List (Vec X Global)) (i : ℕ) (d : Vec X Global) → i < length rows → slice_index_or (lists rows) i [] ≡ (get_or rows i d).items
row_at {X} rows i d l = get_or-map (λ (u : Vec X Global). u.items) rows i d [] l
