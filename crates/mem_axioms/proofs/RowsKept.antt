-- The rows that a memory of whole logs keeps as its log grows, and its blank ones.
use Rattle.std.proofs.Common.{◌≡◌, ℕ, suc, ◌+◌, ◌-◌, ◌<◌, ◌≤◌, Bool, false, List, [], ◌∷◌, ◌++◌, length, length-append, slice_index_or, replicate, refl, sym, ap, ◌∙◌, inl, inr, ◌⊎◌, arith}
use Rattle.std.proofs.lemmas.List.{get_or_append_left, get_or_push, get_or-replicate, get_or_past, length-replicate}
use Rattle.std.proofs.lemmas.Bool.{cases_lt, cases_eq}
use Rattle.mem_axioms.specs.HappensBefore.{happens_before}
use Rattle.mem_axioms.specs.Flags.{flag, AreRowsOf}
use Rattle.mem_axioms.specs.Blanks.{AreBlanks}
use Rattle.mem_axioms.specs.declared.types.Event.{Event}
use Rattle.mem_axioms.specs.declared.types.Rule.{Rule}
use Rattle.mem_axioms.specs.Lemmas.Steps.{before-older}

pub rows-none : (rule : Rule) → AreRowsOf rule [] []
rows-none rule = record { size = refl; right = λ k i h. absurd (omega arith) }

pub blanks-none : (events : ℕ) → AreBlanks [] events 0
blanks-none events = record { enough = omega arith; long = λ k h. absurd (omega arith); blank = λ k i. refl }

pub blanks-made : (events room : ℕ) → AreBlanks (replicate room (replicate (events + room) false)) events room
blanks-made events room = record {
  enough = omega (arith, length-replicate room (replicate (events + room) false));
  long = λ k h. rw (get_or-replicate room k (replicate (events + room) false) [] (omega (arith, length-replicate room (replicate (events + room) false)))) (omega (arith, length-replicate (events + room) false));
  blank = λ k i. row k i (cases_lt k room);
}
  where
    one : (i : ℕ) → (i < events + room) ⊎ (events + room ≤ i) → flag (replicate (events + room) false) i ≡ false
    one i (inl l) = get_or-replicate (events + room) i false false l
    one i (inr l) = get_or_past (replicate (events + room) false) i false (omega (arith, length-replicate (events + room) false))

    row : (k i : ℕ) → (k < room) ⊎ (room ≤ k) → flag (slice_index_or (replicate room (replicate (events + room) false)) k []) i ≡ false
    row k i (inl l) = rw (get_or-replicate room k (replicate (events + room) false) [] l) (one i (cases_lt i (events + room)))
    row k i (inr l) = rw (get_or_past (replicate room (replicate (events + room) false)) k [] (omega (arith, length-replicate room (replicate (events + room) false)))) refl

pub blanks-less : (all rest : List (List Bool)) (row : List Bool) (events room : ℕ) → all ≡ rest ++ row ∷ [] → 0 < room → AreBlanks all events room → AreBlanks rest (events + 1) (room - 1)
blanks-less all rest row events room p h b = record {
  enough = let e = b.enough in omega (arith, e, sizes);
  long = λ k l. (let u = b.long k (omega (arith, sizes)) in let v = same k l in let w : length (slice_index_or all k []) ≡ length (slice_index_or rest k []) = ap (λ r. length r) v in omega (arith, u, w));
  blank = λ k i. none k i (cases_lt k (length rest));
}
  where
    sizes : length all ≡ length rest + 1
    sizes = ap (λ l. length l) p ∙ length-append rest (row ∷ [])

    same : (k : ℕ) → k < length rest → slice_index_or all k [] ≡ slice_index_or rest k []
    same k l = ap (λ xs. slice_index_or xs k []) p ∙ get_or_append_left rest (row ∷ []) [] k l

    none : (k i : ℕ) → (k < length rest) ⊎ (length rest ≤ k) → flag (slice_index_or rest k []) i ≡ false
    none k i (inl l) = ap (λ r. flag r i) (sym (same k l)) ∙ b.blank k i
    none k i (inr l) = rw (get_or_past rest k [] l) refl

-- the last of the blank rows
pub blanks-last : (all rest : List (List Bool)) (row : List Bool) (events room : ℕ) → all ≡ rest ++ row ∷ [] → AreBlanks all events room → (events + room ≤ length row) × ((i : ℕ) → flag row i ≡ false)
blanks-last all rest row events room p b =
    let here : slice_index_or all (length rest) [] ≡ row = ap (λ xs. slice_index_or xs (length rest) []) p ∙ get_or_push rest row [] (length rest) refl in
    let sizes : length all ≡ length rest + 1 = ap (λ l. length l) p ∙ length-append rest (row ∷ []) in
    let long = b.long (length rest) (omega (arith, sizes)) in
    (rw here at long, λ i. ap (λ r. flag r i) (sym here) ∙ b.blank (length rest) i)

pub rows-more : (rule : Rule) (log : List Event) (rows : List (List Bool)) (e : Event) (row : List Bool) → AreRowsOf rule log rows → ((i : ℕ) → flag row i ≡ happens_before rule (e ∷ log) i (length log)) → AreRowsOf rule (e ∷ log) (rows ++ row ∷ [])
rows-more rule log rows e row r h = record {
  size = let s = r.size in omega (arith, length-append rows (row ∷ []), s);
  right = λ k i l. go k i l (cases_eq k (length log));
}
  where
    go : (k i : ℕ) → k < suc (length log) → (k ≡ length log) ⊎ (k ≡ length log → ⊥) → flag (slice_index_or (rows ++ row ∷ []) k []) i ≡ happens_before rule (e ∷ log) i k
    go k i l (inl p) = rw (p, get_or_push rows row [] (length log) r.size) (h i)
    go k i l (inr n) =
        let b : k < length log = omega arith in
        let s = r.size in
        let c : k < length rows = omega arith in
        rw (get_or_append_left rows (row ∷ []) [] k c) (r.right k i b ∙ sym (before-older rule e log i k b))
