-- What is seen of a run, as what its lines add up to.
use Rattle.std.specs.Prelude.{◌≡◌, ◌≢◌, ℕ, zero, suc, Bool, ◌==◌, List, [], ◌∷◌, ◌++◌, Option, Some, None, map, flat_map, refl, if◌then◌else◌}
use Rattle.std.proofs.Common.{sym, ◌∙◌, ap, inl, inr}
use Rattle.std.proofs.Math.Path.{fun_ext}
use Rattle.std.proofs.lemmas.Bool.Decides.{eqb_tells}
use Rattle.mu_values.specs.declared.scalars.Scalar.{Scalar}
use Rattle.mu_values.specs.declared.cells.CellId.{CellId}
use Rattle.typed_heap.specs.Objects.{HeapObject}
use Rattle.mem_axioms.specs.Objects.{initial_of}
use Rattle.mu_model.specs.declared.lines.Note.{Note}
use Rattle.mu_model.specs.declared.lines.Note.TheVariants as notes
use Rattle.mu_model.specs.declared.lines.Line.{Line}
use Rattle.mu_model.specs.declared.lines.Line.TheVariants as lines
use Rattle.mu_model.specs.declared.endings.Ending.{Ending}
use Rattle.mu_model.specs.declared.endings.Ending.TheVariants as endings
use Rattle.mu_model.specs.EnteringStacks.{most_threads}
use Rattle.mu_model.specs.Run.{Run, Ends, Breaks, Unfinished, behind}
use Rattle.seen_runs.specs.Seen.{Seen, Over, end_of, thread_ends, line_after, last_after, small_cells, last_scalars, cut, seen_at, seen_of}
use Rattle.local_laws.proofs.Keeping.{NoEnds, IsCut}
use Rattle.local_laws.specs.Lemmas.Forms.{Effect, Stays, Leaves, lines_of}

pub data Shown : Type 0 where
  Nothing : Shown
  Short : Ending → Shown
  -- which ends of a thread its lines tell, and what they make of a cell's scalar
  Whole : (ℕ → List Note) → (CellId → Scalar → Scalar) → Ending → Shown

abbrev pub shown_at : List Line → Ending → Shown
shown_at ls endings.Done = Whole (λ i. flat_map (end_of i) ls) (λ cell v. last_after cell v ls) endings.Done
shown_at ls (endings.AllWaiting is) = Whole (λ i. flat_map (end_of i) ls) (λ cell v. last_after cell v ls) (endings.AllWaiting is)
shown_at ls (endings.Budget n) = Nothing
shown_at ls e = Short e

abbrev pub shown_of : Run → Shown
shown_of (Ends steps ls e) = shown_at (flat_map (λ ls. ls) steps ++ ls) e
shown_of r = Nothing

-- with lines before
abbrev pub add : List Line → Shown → Shown
add ls Nothing = Nothing
add ls (Short e) = Short e
add ls (Whole ends last e) = Whole (λ i. flat_map (end_of i) ls ++ ends i) (λ cell v. last cell (last_after cell v ls)) e

append_assoc : {A : Type 0} (xs ys zs : List A) → (xs ++ ys) ++ zs ≡ xs ++ (ys ++ zs)
append_assoc [] ys zs = refl
append_assoc (x ∷ xs) ys zs = ap (λ ws. x ∷ ws) (append_assoc xs ys zs)

flat_append : {A B : Type 0} (f : A → List B) (xs ys : List A) → flat_map f (xs ++ ys) ≡ flat_map f xs ++ flat_map f ys
flat_append f [] ys = refl
flat_append f (x ∷ xs) ys = ap (λ zs. f x ++ zs) (flat_append f xs ys) ∙ sym (append_assoc (f x) (flat_map f xs) (flat_map f ys))

last_append : (cell : CellId) (v : Scalar) (xs ys : List Line) → last_after cell v (xs ++ ys) ≡ last_after cell (last_after cell v xs) ys
last_append cell v [] ys = refl
last_append cell v (x ∷ xs) ys = last_append cell (line_after cell v x) xs ys

whole_append : (xs ys : List Line) (e : Ending) → Whole (λ i. flat_map (end_of i) (xs ++ ys)) (λ cell v. last_after cell v (xs ++ ys)) e
    ≡ Whole (λ i. flat_map (end_of i) xs ++ flat_map (end_of i) ys) (λ cell v. last_after cell (last_after cell v xs) ys) e
whole_append xs ys e =
    ap (λ ends. Whole ends (λ cell v. last_after cell v (xs ++ ys)) e) (fun_ext (λ i. flat_append (end_of i) xs ys))
    ∙ ap (λ last. Whole (λ i. flat_map (end_of i) xs ++ flat_map (end_of i) ys) last e) (fun_ext (λ cell. fun_ext (λ v. last_append cell v xs ys)))

shown_append : (xs ys : List Line) (e : Ending) → shown_at (xs ++ ys) e ≡ add xs (shown_at ys e)
shown_append xs ys endings.Done = whole_append xs ys endings.Done
shown_append xs ys (endings.AllWaiting is) = whole_append xs ys (endings.AllWaiting is)
shown_append xs ys (endings.Budget n) = refl
shown_append xs ys _ = refl

pub shown_behind : (ls : List Line) (r : Run) → shown_of (behind ls r) ≡ add ls (shown_of r)
shown_behind ls (Ends steps ms e) = ap (λ xs. shown_at xs e) (append_assoc ls (flat_map (λ ls. ls) steps) ms) ∙ shown_append ls (flat_map (λ ls. ls) steps ++ ms) e
shown_behind ls Breaks = refl
shown_behind ls Unfinished = refl

-- ---- lines that go past others

no_ends_none : (i : ℕ) (ls : List Line) → NoEnds i ls → flat_map (end_of i) ls ≡ []
no_ends_none i [] h = refl
no_ends_none i (lines.Event n e ∷ ls) h = no_ends_none i ls h
no_ends_none i (lines.Note n ∷ ls) h = by n h (no_ends_none i ls)
  where
    other : (j : ℕ) (n : Note) → j ≢ i → flat_map (end_of i) ls ≡ [] → (if j == i then n ∷ [] else []) ++ flat_map (end_of i) ls ≡ []
    other j n g e = elim (eqb_tells j i) [
      | inl q ↦ absurd (g q.1)
      | inr q ↦ ap (λ (b : Bool). (if b then n ∷ [] else []) ++ flat_map (end_of i) ls) q.0 ∙ e
    ]

    by : (n : Note) → NoEnds i (lines.Note n ∷ ls) → (NoEnds i ls → flat_map (end_of i) ls ≡ []) → flat_map (end_of i) (lines.Note n ∷ ls) ≡ []
    by (notes.Returned j vs) h more = other j (notes.Returned j vs) h.0 (more h.1)
    by (notes.Exited j) h more = other j (notes.Exited j) h.0 (more h.1)
    by _ h more = more h

-- the lines of a local step go past those of another thread's step
pub add_swap : (i : ℕ) (x : Effect) (ls : List Line) (s : Shown) → NoEnds i ls → add (lines_of i x) (add ls s) ≡ add ls (add (lines_of i x) s)
add_swap i x ls Nothing h = refl
add_swap i x ls (Short e) h = refl
add_swap i (Stays fs) ls (Whole ends last e) h = refl
add_swap i (Leaves vs) ls (Whole ends last e) h = ap (λ ends. Whole ends (λ cell v. last cell (last_after cell v ls)) e) (fun_ext by)
  where
    none : NoEnds i ls
    none = h

    by : (t : ℕ) → ((if i == t then notes.Returned i vs ∷ [] else []) ++ []) ++ (flat_map (end_of t) ls ++ ends t) ≡ flat_map (end_of t) ls ++ (((if i == t then notes.Returned i vs ∷ [] else []) ++ []) ++ ends t)
    by t = elim (eqb_tells i t) [
      | inl q ↦
          let gone : flat_map (end_of t) ls ≡ [] = ap (λ i. flat_map (end_of i) ls) (sym q.1) ∙ no_ends_none i ls none in
          let own : List Note = (if i == t then notes.Returned i vs ∷ [] else []) ++ [] in
          ap (λ xs. own ++ (xs ++ ends t)) gone ∙ sym (ap (λ xs. xs ++ (own ++ ends t)) gone)
      | inr q ↦
          let P : Bool → List Note = λ b. (if b then notes.Returned i vs ∷ [] else []) ++ [] in
          ap (λ b. P b ++ (flat_map (end_of t) ls ++ ends t)) q.0 ∙ sym (ap (λ b. flat_map (end_of t) ls ++ (P b ++ ends t)) q.0)
    ]

pub add_cut : (ls ms : List Line) (e : Ending) → IsCut e → add ls (shown_at ms e) ≡ shown_at ms e
add_cut ls ms endings.Done h = absurd h
add_cut ls ms (endings.AllWaiting is) h = absurd h
add_cut ls ms (endings.Budget n) h = refl
add_cut ls ms _ h = refl

-- ---- what is seen by it

abbrev ends_below : (ℕ → List Note) → ℕ → List Note
ends_below ends zero = []
ends_below ends (suc i) = ends_below ends i ++ ends i

abbrev pub seen_from : ℕ → List HeapObject → Shown → Option Seen
seen_from globals os Nothing = None
seen_from globals os (Short e) = Some (cut e)
seen_from globals os (Whole ends last e) = Some (Over (ends_below ends most_threads) (map (λ cell. last cell (initial_of (map (λ (o : HeapObject). o.initial) os) cell)) (small_cells 0 globals os)) e)

ends_so : (ls : List Line) (n : ℕ) → thread_ends ls n ≡ ends_below (λ i. flat_map (end_of i) ls) n
ends_so ls zero = refl
ends_so ls (suc n) = ap (λ ns. ns ++ flat_map (end_of n) ls) (ends_so ls n)

seen_at_so : (globals : ℕ) (os : List HeapObject) (ls : List Line) (e : Ending) → seen_at globals os ls e ≡ seen_from globals os (shown_at ls e)
seen_at_so globals os ls endings.Done = ap (λ ns. Some (Over ns (last_scalars globals os ls) endings.Done)) (ends_so ls most_threads)
seen_at_so globals os ls (endings.AllWaiting is) = ap (λ ns. Some (Over ns (last_scalars globals os ls) (endings.AllWaiting is))) (ends_so ls most_threads)
seen_at_so globals os ls (endings.Budget n) = refl
seen_at_so globals os ls _ = refl

pub seen_so : (globals : ℕ) (os : List HeapObject) (r : Run) → seen_of globals os r ≡ seen_from globals os (shown_of r)
seen_so globals os (Ends steps ls e) = seen_at_so globals os (flat_map (λ ls. ls) steps ++ ls) e
seen_so globals os Breaks = refl
seen_so globals os Unfinished = refl
