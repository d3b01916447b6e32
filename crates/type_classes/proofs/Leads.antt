-- Of what leads into a block, and of what is closed under the same type.
use Rattle.std.proofs.Common.{◌≡◌, ℕ, zero, suc, ◌<◌, List, [], ◌∷◌, length, Some, None, Option, refl, sym, ◌∙◌, ap, subst, arith, ◌⊎◌, inl, inr, get_or, slice_get}
use Rattle.std.specs.Prelude.{slice_index, slice_index_or}
use Rattle.std.specs.List.{Contains}
use Rattle.std.proofs.lemmas.Bool.{cases_eq}
use Rattle.std.proofs.lemmas.Option.{slice_get_within, get_or_from_slice_get, slice_get-get_or}
use Rattle.std.proofs.lemmas.List.Elements.{All-get_or, Contains-get_or}
use Rattle.type_definitions.specs.declared.definition.TypeDef.{TypeDef}
use Rattle.type_definitions.specs.Definition.{arguments}
use Rattle.type_definitions.specs.Same.{IsGraph}
use Rattle.type_definitions.specs.Lemmas.Depth.{args_within, alike_back}
use Rattle.type_definitions.specs.Partition.{arg, arg_of, Keeps}
use Rattle.type_definitions.specs.Lemmas.Partition.{same_arg}
use Rattle.type_classes.specs.declared.edges.Edge.{Edge}
use Rattle.type_classes.specs.Edges.{edge_of}
use Rattle.mu_types.specs.Rows.{Holds, added}
use Rattle.type_classes.proofs.RowLemmas.{emptied_held, emptied_kept, pushed_only}
use Rattle.std.proofs.Math.ListN.{set}
use Rattle.type_classes.specs.Blocks.{HaveMoved, OthersStay}
use Rattle.type_classes.specs.Leads.{LeadsTo, IsClosed, AreClosed, IsBackward, IsForward}

pub arg_within : (g : List TypeDef) → IsGraph g → (x k y : ℕ) → arg g x k ≡ Some y → y < length g
arg_within g i x k y e = go (slice_get g x) refl e
  where
    go : (o : Option TypeDef) → slice_get g x ≡ o → arg_of o k ≡ Some y → y < length g
    go None q e = absurd (cc)
    go (Some d) q e = subst (λ z. z < length g) (get_or_from_slice_get (arguments d) k y 0 e) (All-get_or (λ z. z < length g) (arguments d) k 0 (slice_get_within (arguments d) k y e) (args_within g i x d q))

-- what leads into a block is closed, where the block holds with a type those that are the same
pub gathered_closed : (g : List TypeDef) → IsGraph g → (block : List ℕ) (preds : List (List Edge)) (row : List ℕ) (s : ℕ) (old new : List (List ℕ))
    → Keeps g block → IsBackward g preds
    → ((y : ℕ) → y < length g → slice_index block y ≡ s → Contains row y)
    → ((x k y : ℕ) → arg g x k ≡ Some y → k < length old)
    → ((k x : ℕ) → Holds old k x → Holds new k x)
    → ((k x y : ℕ) → k < length old → Contains row y → slice_index block y ≡ s → Holds preds y (edge_of k x) → Holds new k x)
    → ((k x : ℕ) → Holds new k x → Holds old k x ⊎ LeadsTo g block s x k)
    → AreClosed g old → AreClosed g new
gathered_closed g i block preds row s old new keeps back all wide kept complete sound closed k a b la lb sm h = elim (sound k a h) [
  | inl p ↦ kept k b (closed k a b la lb sm p)
  | inr t ↦
      let z = same_arg g i a b k t.0 la lb sm t.1 in
      let ly = arg_within g i a k t.0 t.1 in
      let lz = arg_within g i b k z.0 z.1 in
      let bz : slice_index block z.0 ≡ s = sym (keeps t.0 z.0 ly lz z.2) ∙ t.2 in
      complete k b z.0 (wide b k z.0 z.1) (all z.0 lz bz) bz (back b k z.0 z.1)
]

at_any : (xs : List ℕ) (k d e : ℕ) → k < length xs → get_or xs k d ≡ get_or xs k e
at_any [] k d e l = absurd (omega arith)
at_any (x ∷ xs) zero d e l = refl
at_any (x ∷ xs) (suc k) d e l = at_any xs k d e (omega arith)

Stands : List ℕ → ℕ → Type 0
Stands xs x = (k : ℕ) × (k < length xs) × (slice_index xs k ≡ x)

stands : (xs : List ℕ) (x : ℕ) → Contains xs x → Stands xs x
unfolding Stands
stands xs x c = (c.0, c.1, at_any xs c.0 0 x c.1 ∙ c.2)

contains : (xs : List ℕ) (x : ℕ) → Stands xs x → Contains xs x
unfolding Stands
contains xs x s = (s.0, s.1, at_any xs s.0 x 0 s.1 ∙ s.2)

either : (xs : List ℕ) (x : ℕ) → Stands xs x ⊎ (Stands xs x → ⊥)
unfolding Stands
either [] x = inr (λ s. absurd (below_none s.0 s.1))
  where
    below_none : (k : ℕ) → k < 0 → ⊥
    below_none k l = omega arith
either (y ∷ ys) x = go (cases_eq y x) (either ys x)
  where
    not_there : (y ≡ x → ⊥) → (Stands ys x → ⊥) → (k : ℕ) → k < length (y ∷ ys) → slice_index (y ∷ ys) k ≡ x → ⊥
    not_there n m zero l e = n e
    not_there n m (suc k) l e = m (k, (omega arith), e)

    go : (y ≡ x) ⊎ (y ≡ x → ⊥) → Stands ys x ⊎ (Stands ys x → ⊥) → Stands (y ∷ ys) x ⊎ (Stands (y ∷ ys) x → ⊥)
    go (inl e) d = inl (0, (omega arith), e)
    go (inr n) (inl s) = inl (let l = s.1 in (suc s.0, (omega arith), s.2))
    go (inr n) (inr m) = inr (λ s. not_there n m s.0 s.1 s.2)

-- moving the closed list of those touched, each by its block, keeps the same types together
pub moved_keeps : (g : List TypeDef) (was touched target block : List ℕ) → IsClosed g touched → HaveMoved was touched target (length touched) block → OthersStay was touched (length touched) block → Keeps g was → Keeps g block
unfolding Stands
moved_keeps g was touched target block closed moved stay keeps a b la lb sm = go (either touched a)
  where
    go : Stands touched a ⊎ (Stands touched a → ⊥) → slice_index block a ≡ slice_index block b
    go (inl s) =
        let t = stands touched b (closed a b la lb sm (contains touched a s)) in
        moved a s.0 s.1 s.2 ∙ ap (λ c. slice_index target c) (keeps a b la lb sm) ∙ sym (moved b t.0 t.1 t.2)
    go (inr n) =
        let m : Stands touched b → ⊥ = λ t. n (stands touched a (closed b a lb la (alike_back g (length g) a b sm) (contains touched b t))) in
        stay a (λ k l e. n (k, l, e)) ∙ keeps a b la lb sm ∙ sym (stay b (λ k l e. m (k, l, e)))

-- an argument, read from the definition
pub arg_in : (g : List TypeDef) (x k y : ℕ) (d : TypeDef) (xs : List ℕ) → x < length g → xs ≡ arguments (get_or g x d) → arg g x k ≡ Some y → (k < length xs) × (get_or xs k 0 ≡ y)
arg_in g x k y d xs l v a =
    let n = get_or g x d in
    let b : slice_get (arguments n) k ≡ Some y = sym (ap (λ o. arg_of o k) (slice_get-get_or g x d l)) ∙ a in
    subst (λ (ys : List ℕ). (k < length ys) × (get_or ys k 0 ≡ y)) (sym v) (slice_get_within (arguments n) k y b, get_or_from_slice_get (arguments n) k y 0 b)

pub arg_bound : (g : List TypeDef) → IsGraph g → (x k : ℕ) (d : TypeDef) (xs : List ℕ) → x < length g → xs ≡ arguments (get_or g x d) → k < length xs → get_or xs k 0 < length g
arg_bound g i x k d xs l v m =
    let n = get_or g x d in
    let a = args_within g i x n (slice_get-get_or g x d l) in
    subst (λ (ys : List ℕ). k < length ys → get_or ys k 0 < length g) (sym v) (λ h. All-get_or (λ z. z < length g) (arguments n) k 0 h a) m

pub arg_from : (g : List TypeDef) (x k y : ℕ) → arg g x k ≡ Some y → x < length g
arg_from g x k y a = go (slice_get g x) refl a
  where
    go : (o : Option TypeDef) → slice_get g x ≡ o → arg_of o k ≡ Some y → x < length g
    go None q e = absurd (cc)
    go (Some d) q e = slice_get_within g x d q

pub emptied_closed : (g : List TypeDef) (rows : List (List ℕ)) (i : ℕ) → i < length rows → AreClosed g rows → AreClosed g (set rows i [])
emptied_closed g rows i l h k a b la lb sm x = let q = emptied_held rows i k a l x in emptied_kept rows i k b q.1 (h k a b la lb sm q.0)

pub row_closed : (g : List TypeDef) (rows : List (List ℕ)) (i : ℕ) (row : List ℕ) → row ≡ get_or rows i [] → AreClosed g rows → IsClosed g row
row_closed g rows i row e h = subst (λ (r : List ℕ). IsClosed g r) (sym e) (h i)

pub row_within : (rows : List (List ℕ)) (i n : ℕ) (row : List ℕ) → row ≡ get_or rows i [] → ((k x : ℕ) → Holds rows k x → x < n) → (k : ℕ) → k < length row → slice_index row k < n
row_within rows i n row e h k l = h i (slice_index row k) (subst (λ (r : List ℕ). Contains r (slice_index row k)) e (Contains-get_or row k 0 l))

pub arg_there : (g : List TypeDef) (x k : ℕ) (d : TypeDef) (xs : List ℕ) → x < length g → xs ≡ arguments (get_or g x d) → k < length xs → arg g x k ≡ Some (get_or xs k 0)
arg_there g x k d xs l v m =
    let n = get_or g x d in
    subst (λ (ys : List ℕ). k < length ys → arg g x k ≡ Some (get_or ys k 0)) (sym v) (λ h. ap (λ o. arg_of o k) (slice_get-get_or g x d l) ∙ slice_get-get_or (arguments n) k 0 h) m

pub pushed_forward : (g : List TypeDef) (rows more : List (List Edge)) (i : ℕ) (e : Edge) → more ≡ added rows i e → i < length rows → arg g e.from e.place ≡ Some i → IsForward g rows → IsForward g more
pushed_forward g rows more i e q l a f y d h = elim (pushed_only rows more i e q l (λ z c. arg g c.from c.place ≡ Some z) a y d h) [ inl k ↦ f y d k | inr b ↦ b ]

pub empty_forward : (g : List TypeDef) (rows : List (List Edge)) → ((x : ℕ) → slice_index_or rows x [] ≡ []) → IsForward g rows
empty_forward g rows h y e c = let d : Contains [] e = subst (λ (r : List Edge). Contains r e) (h y) c in absurd (no_item d.0 d.1)
  where
    no_item : (k : ℕ) → k < 0 → ⊥
    no_item k m = omega arith
