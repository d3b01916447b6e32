-- Lemmas on the outcome of a run's lines.
use Rattle.std.specs.Prelude.{◌≡◌, ◌≢◌, ◌<◌, ◌≤◌, ◌==◌, ℕ, zero, suc, ◌+◌, Bool, true, false, List, [], ◌∷◌, ◌++◌, Option, Some, None, IsSomeAnd, flat_map, drop, length, slice_get, slice_index_or, codes, if◌then◌else◌, refl}
use Rattle.std.proofs.Common.{sym, ◌∙◌, ap, arith, append_assoc, add-one, inl, inr, get_or}
use Rattle.std.proofs.Math.Seq.{drop-cons}
use Rattle.std.proofs.lemmas.Bool.Decides.{eqb_tells}
use Rattle.std.proofs.lemmas.Grind.{flat_map-append}
use Rattle.ir_tree.specs.declared.items.Item.{Item}
use Rattle.mu_values.specs.declared.scalars.Scalar.{Scalar}
use Rattle.mu_values.specs.declared.scalars.Scalar.TheVariants.{Null}
use Rattle.mu_values.specs.declared.cells.CellId.{CellId}
use Rattle.typed_heap.specs.Objects.{HeapObject}
use Rattle.mu_model.specs.declared.lines.Line.{Line}
use Rattle.mu_model.specs.declared.lines.Note.{Note}
use Rattle.run_texts.specs.EventTexts.{Text}
use Rattle.run_texts.specs.Texts.{note_text}
use Rattle.seen_runs.specs.declared.globals.Final.{Final}
use Rattle.seen_runs.specs.Seen.{end_of, thread_ends, line_after, last_after}
use Rattle.seen_runs.specs.Finals.{finals_in, line_end}

-- ---- how threads ended

module _ {X A B : Type 0} (f : A → List B) (g : X → List A) where
  pub flat_map-flat_map : (xs : List X) → flat_map f (flat_map g xs) ≡ flat_map (λ x. flat_map f (g x)) xs
  flat_map-flat_map [] = refl
  flat_map-flat_map (x ∷ xs) = flat_map-append f (g x) (flat_map g xs) ∙ ap (λ more. flat_map f (g x) ++ more) (flat_map-flat_map xs)

abbrev pub ends_so_far : List Item → List Line → ℕ → Text
ends_so_far bundle ls i = flat_map (λ n. note_text bundle n ++ codes "\n") (thread_ends ls i)

-- one thread more
pub ends_more : (bundle : List Item) (steps : List (List Line)) (i : ℕ) (old out new : Text) → out ≡ old ++ ends_so_far bundle (flat_map (λ ls. ls) steps) i → new ≡ out ++ flat_map (flat_map (line_end bundle i)) steps
    → new ≡ old ++ ends_so_far bundle (flat_map (λ ls. ls) steps) (i + 1)
ends_more bundle steps i old out new e h =
    let F : Note → Text = λ n. note_text bundle n ++ codes "\n" in
    let ls : List Line = flat_map (λ ls. ls) steps in
    let both : flat_map (flat_map (line_end bundle i)) steps ≡ flat_map F (flat_map (end_of i) ls) =
    sym (flat_map-flat_map (line_end bundle i) (λ ls. ls) steps) ∙ sym (flat_map-flat_map F (end_of i) ls) in
    h ∙ ap (λ t. t ++ flat_map (flat_map (line_end bundle i)) steps) e ∙ append_assoc old (ends_so_far bundle ls i) (flat_map (flat_map (line_end bundle i)) steps)
    ∙ ap (λ t. old ++ (ends_so_far bundle ls i ++ t)) both
    ∙ ap (λ t. old ++ t) (sym (flat_map-append F (thread_ends ls i) (flat_map (end_of i) ls)))
    ∙ ap (λ m. old ++ ends_so_far bundle ls m) (sym (add-one i))

-- ---- the last scalars

pub after_both : (cell : CellId) (before : Scalar) (ls ms : List Line) → last_after cell before (ls ++ ms) ≡ last_after cell (last_after cell before ls) ms
after_both cell before [] ms = refl
after_both cell before (l ∷ ls) ms = after_both cell (line_after cell before l) ls ms

-- the lines of one step more
pub after_step : (cell : CellId) (now later : Scalar) (all more : List (List Line)) (ls : List Line) → all ≡ ls ∷ more → later ≡ last_after cell now ls → last_after cell later (flat_map (λ ls. ls) more) ≡ last_after cell now (flat_map (λ ls. ls) all)
after_step cell now later all more ls e is = ap (λ s. last_after cell s (flat_map (λ ls. ls) more)) is ∙ sym (after_both cell now ls (flat_map (λ ls. ls) more)) ∙ ap (λ ss. last_after cell now (flat_map (λ ls. ls) ss)) (sym e)

-- the part of a list from place k on begins with the member at k
pub item_next : {A : Type 0} (xs : List A) (k : ℕ) (x d : A) → k < length xs → x ≡ get_or xs k d → drop k xs ≡ x ∷ drop (k + 1) xs
item_next xs k x d l e = drop-cons xs k d l ∙ ap (λ y. y ∷ drop (suc k) xs) (sym e) ∙ ap (λ m. x ∷ drop m xs) (sym (add-one k))

-- ---- the globals

some_here : {A : Type 0} (o : Option A) (P : A → Type 0) → IsSomeAnd o P → (x : A) × (o ≡ Some x) × P x
some_here None P h = absurd h
some_here (Some x) P h = (x, refl, h)

drop_here : {A : Type 0} (xs : List A) (n : ℕ) (x : A) → slice_get xs n ≡ Some x → drop n xs ≡ x ∷ drop (suc n) xs
drop_here [] n x e = cc
drop_here (y ∷ xs) zero x e = let same : y ≡ x = cc in ap (λ z. z ∷ xs) same
drop_here (y ∷ xs) (suc n) x e = drop_here xs n x e

drop_beyond : {A : Type 0} (xs : List A) (n : ℕ) → length xs ≤ n → drop n xs ≡ []
drop_beyond [] zero h = refl
drop_beyond [] (suc n) h = refl
drop_beyond (x ∷ xs) zero h = absurd (omega (arith, h))
drop_beyond (x ∷ xs) (suc n) h = drop_beyond xs n (omega (arith, h))

index_first : (xs : List Scalar) (x d : Scalar) → slice_get xs 0 ≡ Some x → slice_index_or xs 0 d ≡ x
index_first [] x d e = cc
index_first (y ∷ xs) x d e = cc

-- beyond the objects there are none
none_beyond : (n : ℕ) (names : List Text) → finals_in n names [] ≡ []
none_beyond n [] = refl
none_beyond n (name ∷ names) = refl

pub beyond : (os : List HeapObject) (n : ℕ) (fs : List Final) (name : Text) (names : List Text) → length os ≤ n → fs ++ finals_in n names (drop n os) ≡ fs ++ finals_in n (name ∷ names) (drop n os)
beyond os n fs name names h =
    let none = drop_beyond os n h in
    ap (λ os. fs ++ finals_in n names os) none ∙ ap (λ gs. fs ++ gs) (none_beyond n names) ∙ sym (ap (λ os. fs ++ finals_in n (name ∷ names) os) none)

-- a global whose object has another size
pub none_here : (os : List HeapObject) (n size : ℕ) (fs : List Final) (name : Text) (names : List Text) → IsSomeAnd (slice_get os n) (λ (o : HeapObject). length o.leaves ≡ size) → size ≢ 1
    → fs ++ finals_in (n + 1) names (drop (n + 1) os) ≡ fs ++ finals_in n (name ∷ names) (drop n os)
none_here os n size fs name names h other =
    let q = some_here (slice_get os n) (λ (o : HeapObject). length o.leaves ≡ size) h in
    let here = drop_here os n q.0 q.1 in
    let few : (length q.0.leaves == 1) ≡ false = elim (eqb_tells (length q.0.leaves) 1) [ inl t ↦ absurd (other (sym q.2 ∙ t.1)) | inr f ↦ f.0 ] in
    let own : Final = record { name = name; cell = record { object = n; at = 0 }; before = slice_index_or q.0.initial 0 Null } in
    ap (λ m. fs ++ finals_in m names (drop m os)) (add-one n)
    ∙ sym
    (ap (λ os. fs ++ finals_in n (name ∷ names) os) here ∙ ap (λ (b : Bool). fs ++ ((if b then own ∷ [] else []) ++ finals_in (suc n) names (drop (suc n) os))) few)

-- one with one cell
pub one_here : (os : List HeapObject) (n : ℕ) (fs new : List Final) (name : Text) (before : Scalar) (names : List Text) → IsSomeAnd (slice_get os n) (λ (o : HeapObject). length o.leaves ≡ 1) → IsSomeAnd (slice_get os n) (λ (o : HeapObject). slice_get o.initial 0 ≡ Some before)
    → new ≡ fs ++ record { name = name; cell = record { object = n; at = 0 }; before = before } ∷ [] → new ++ finals_in (n + 1) names (drop (n + 1) os) ≡ fs ++ finals_in n (name ∷ names) (drop n os)
one_here os n fs new name before names h first added =
    let q = some_here (slice_get os n) (λ (o : HeapObject). length o.leaves ≡ 1) h in
    let r = some_here (slice_get os n) (λ (o : HeapObject). slice_get o.initial 0 ≡ Some before) first in
    let same : q.0 ≡ r.0 = let at = q.1 in let also = r.1 in cc in
    let starts : slice_index_or q.0.initial 0 Null ≡ before = ap (λ (o : HeapObject). slice_index_or o.initial 0 Null) same ∙ index_first r.0.initial before Null r.2 in
    let here = drop_here os n q.0 q.1 in
    let one : (length q.0.leaves == 1) ≡ true = elim (eqb_tells (length q.0.leaves) 1) [ inl t ↦ t.0 | inr f ↦ absurd (f.1 q.2) ] in
    let own : Scalar → Final = λ v. record { name = name; cell = record { object = n; at = 0 }; before = v } in
    ap (λ gs. gs ++ finals_in (n + 1) names (drop (n + 1) os)) added ∙ append_assoc fs (own before ∷ []) (finals_in (n + 1) names (drop (n + 1) os))
    ∙ ap (λ m. fs ++ (own before ∷ finals_in m names (drop m os))) (add-one n)
    ∙ sym
    (ap (λ os. fs ++ finals_in n (name ∷ names) os) here
    ∙ ap (λ (b : Bool). fs ++ ((if b then own (slice_index_or q.0.initial 0 Null) ∷ [] else []) ++ finals_in (suc n) names (drop (suc n) os))) one
    ∙ ap (λ v. fs ++ (own v ∷ finals_in (suc n) names (drop (suc n) os))) starts)

pub ruleset globals = (beyond, none_here, one_here)
