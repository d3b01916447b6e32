-- Rows of objects, and fills that are settled, the newest first.
use Rattle.std.proofs.Common.{◌≡◌, ◌≢◌, ℕ, zero, suc, ◌+◌, ◌-◌, ◌^◌, ◌<◌, ◌≤◌, List, [], ◌∷◌, ◌++◌, ◌⊎◌, inl, inr, length, Option, Some, None, slice_get, refl, sym, ap, subst, ◌∙◌, arith, get_or-set_same, get_or-set_other}
use Rattle.std.specs.Prelude.{slice_set, slice_index_or, replicate}
use Rattle.std.proofs.lemmas.Bool.{cases_order}
use Rattle.std.proofs.lemmas.List.{get_or_default, length-replicate}
use Rattle.std.proofs.lemmas.List.Folds.{sum_by-replicate}
use Rattle.std.proofs.lemmas.List.Sums.{sum_by-set}
use Rattle.typed_heap.specs.Objects.{HeapObject, with_filled}
use Rattle.typed_heap.specs.Heap.{cells_of}
use Rattle.hail_load.specs.declared.fills.Fill.{Fill}
use Rattle.hail_load.specs.Answering.{AreWhole}
use Rattle.hail_load.specs.Fills.{made, Every, Fits, HasRow, entry, row_of, one_if_zero, uncovered, uncovered_in, AreSteps, Walked, blank, cell, Given, AsLong}
use Rattle.hail_load.specs.Gathered.{scalars_in}
use Rattle.hail_load.proofs.Stepping.{set_long, walk_steps, zeros_open}
use Rattle.hail_load.proofs.Cells.{same_objects}
use Rattle.hail_load.proofs.Making.{fits_same, all_same, every_last, made_last, made_blank, made_whole, Covers, covers_or_not, covered_cell, other_cell, made_cell}

-- ---- rows

row_here : (rows : List (List ℕ)) (n m : ℕ) (row : List ℕ) → n < length rows → m ≡ n → row_of (slice_set rows n row) m ≡ row
row_here rows n m row l e = ap (λ (j : ℕ). row_of (slice_set rows n row) j) e ∙ get_or-set_same rows n row [] l

-- the row that is put there
pub row_put : (rows : List (List ℕ)) (n many : ℕ) (row : List ℕ) → n < length rows → row ≡ replicate many 0 → length (row_of (slice_set rows n row) n) ≡ many
row_put rows n many row l e = ap (λ (xs : List ℕ). length xs) (row_here rows n n row l refl ∙ e) ∙ length-replicate many 0

row_elsewhere : (rows : List (List ℕ)) (n m : ℕ) (row : List ℕ) → m ≢ n → row_of (slice_set rows n row) m ≡ row_of rows m
row_elsewhere rows n m row d = get_or-set_other rows n m row [] d

-- rows stay as long
pub rows_kept : (rows new : List (List ℕ)) (fs : List Fill) → length rows ≤ length new → ((n : ℕ) → length (row_of rows n) ≤ length (row_of new n)) → Every (HasRow rows) fs → Every (HasRow new) fs
rows_kept rows new [] l m h = tt
rows_kept rows new (f ∷ fs) l m h =
    (record { there = omega (arith, h.0.there, l); cells = (let so = m f.object in omega (arith, h.0.cells, so)) }, rows_kept rows new fs l m h.1)

-- ---- how many cells are not covered

pub fewer_uncovered : (rows : List (List ℕ)) (n : ℕ) (row : List ℕ) → n < length rows → uncovered_in (slice_set rows n row) + uncovered (row_of rows n) ≡ uncovered_in rows + uncovered row
fewer_uncovered rows n row l = sum_by-set uncovered rows n row [] l

pub row_is : (rows : List (List ℕ)) (n : ℕ) (row : List ℕ) → n < length rows → row ≡ slice_index_or rows n row → row ≡ row_of rows n
row_is rows n row l e = e ∙ get_or_default rows n row [] l

pub row_uncovered : (rows : List (List ℕ)) (n : ℕ) → n < length rows → uncovered (row_of rows n) ≤ uncovered_in rows
row_uncovered rows n l = let put = fewer_uncovered rows n [] l in omega (arith, put)

-- ---- rows that are made

none_long : (xs : List ℕ) → length xs ≡ 0 → uncovered xs ≡ 0
none_long [] e = refl
none_long (x ∷ xs) e = absurd (omega (arith, e))

zeros_uncovered : (many : ℕ) → uncovered (replicate many 0) ≡ many
zeros_uncovered many = let all = sum_by-replicate one_if_zero many 0 in omega (arith, all)

-- what holds of the row of an object and of all other rows
by_row : (P : ℕ → List ℕ → Type 0) (rows : List (List ℕ)) (n : ℕ) (row : List ℕ) → n < length rows → P n row → ((m : ℕ) → P m (row_of rows m)) → (m : ℕ) → P m (row_of (slice_set rows n row) m)
by_row P rows n row l this other m = by (cases_order m n)
  where
    apart : m ≢ n → P m (row_of (slice_set rows n row) m)
    apart d = subst (λ (xs : List ℕ). P m xs) (sym (row_elsewhere rows n m row d)) (other m)

    by : (m ≡ n) ⊎ ((m < n) ⊎ (n < m)) → P m (row_of (slice_set rows n row) m)
    by (inl e) = subst (λ (xs : List ℕ). P m xs) (sym (row_here rows n m row l e)) (subst (λ (j : ℕ). P j row) (sym e) this)
    by (inr (inl e)) = apart (λ t. omega (arith, e, t))
    by (inr (inr e)) = apart (λ t. omega (arith, e, t))

pub row_grown : (was rows : List (List ℕ)) (n : ℕ) (row : List ℕ) → n < length rows → ((m : ℕ) → row_of rows m ≡ row_of was m) → length (row_of rows n) ≡ 0 → (m : ℕ) → length (row_of was m) ≤ length (row_of (slice_set rows n row) m)
row_grown was rows n row l same none =
    by_row (λ m xs. length (row_of was m) ≤ length xs) rows n row l (let is = ap (λ (xs : List ℕ). length xs) (same n) in omega (arith, is, none))
    (λ m. let is = ap (λ (xs : List ℕ). length xs) (same m) in omega (arith, is))

pub row_zeros : (was rows : List (List ℕ)) (n many : ℕ) → n < length rows → ((m : ℕ) → row_of rows m ≡ row_of was m) → ((m k : ℕ) → entry (row_of was m) k ≡ 0) → (m k : ℕ) → entry (row_of (slice_set rows n (replicate many 0)) m) k ≡ 0
row_zeros was rows n many l same none =
    by_row (λ m xs. (k : ℕ) → entry xs k ≡ 0) rows n (replicate many 0) l (λ k. zeros_open many k) (λ m k. ap (λ (xs : List ℕ). entry xs k) (same m) ∙ none m k)

pub row_long : (was rows : List (List ℕ)) (n many : ℕ) (os : List HeapObject) → n < length rows → ((m : ℕ) → row_of rows m ≡ row_of was m) → many ≡ cells_of (slice_get os n) → many < 2 ^ 32 → ((m : ℕ) → AsLong (row_of was m) (slice_get os m)) →
    (m : ℕ) → AsLong (row_of (slice_set rows n (replicate many 0)) m) (slice_get os m)
row_long was rows n many os l same size narrow h =
    let long = length-replicate many 0 in
    by_row (λ m xs. AsLong xs (slice_get os m)) rows n (replicate many 0) l (record { cells = λ k. long ∙ size; narrow = omega (arith, long, narrow) })
    (λ m. subst (λ (xs : List ℕ). AsLong xs (slice_get os m)) (sym (same m)) (h m))

pub row_cells : (rows : List (List ℕ)) (n many : ℕ) → n < length rows → length (row_of rows n) ≡ 0 → uncovered_in (slice_set rows n (replicate many 0)) ≡ uncovered_in rows + many
row_cells rows n many l none = let put = fewer_uncovered rows n (replicate many 0) l in omega (arith, put, none_long (row_of rows n) none, zeros_uncovered many)

-- ---- settling

-- what is covered is what it will be, and what is not is what the fills that are left make of it
pub record Settling (wanted now : List HeapObject) (fs : List Fill) (rows : List (List ℕ)) : Type 0 where
  pub whole : AreWhole now
  pub same : blank now ≡ blank wanted
  pub fits : Every (Fits now) fs
  pub has : Every (HasRow rows) fs
  pub steps : (n : ℕ) → AreSteps (row_of rows n)
  pub covered : (n k : ℕ) → 1 ≤ entry (row_of rows n) k → cell now n k ≡ cell wanted n k
  pub left : (n k : ℕ) → entry (row_of rows n) k ≡ 0 → cell (made now fs) n k ≡ cell wanted n k

none_known : (rows : List (List ℕ)) → ((n k : ℕ) → entry (row_of rows n) k ≡ 0) → (n : ℕ) → AreSteps (row_of rows n)
none_known rows z n k j l m = absurd (let none = z n k in omega (arith, none, l, m))

pub settling_none : (os : List HeapObject) (fs : List Fill) (rows : List (List ℕ)) → AreWhole os → Every (Fits os) fs → Every (HasRow rows) fs → ((n k : ℕ) → entry (row_of rows n) k ≡ 0) → Settling (made os fs) os fs rows
settling_none os fs rows h t u z = record {
  whole = h;
  same = sym (made_blank os fs);
  fits = t;
  has = u;
  steps = none_known rows z;
  covered = λ n k l. absurd (let none = z n k in omega (arith, none, l));
  left = λ n k e. refl;
}

pub settled : (wanted now : List HeapObject) (rows : List (List ℕ)) → Settling wanted now [] rows → now ≡ wanted
settled wanted now rows s = same_objects now wanted s.same by
  where
    by : (n k : ℕ) → cell now n k ≡ cell wanted n k
    by n k = to (cases_order (entry (row_of rows n) k) 0)
      where
        to : (entry (row_of rows n) k ≡ 0) ⊎ ((entry (row_of rows n) k < 0) ⊎ (0 < entry (row_of rows n) k)) → cell now n k ≡ cell wanted n k
        to (inl e) = s.left n k e
        to (inr (inl e)) = absurd (omega (arith, e))
        to (inr (inr e)) = s.covered n k (omega (arith, e))

-- the newest of the fills that are left is settled
pub settling_more : (wanted now new : List HeapObject) (fs : List Fill) (f : Fill) (rows : List (List ℕ)) (row : List ℕ) → Settling wanted now (fs ++ f ∷ []) rows →
    Walked (row_of rows f.object) row f.at (f.at + length (scalars_in f.scalars)) (f.at + length (scalars_in f.scalars)) →
    Given now new (row_of rows f.object) f.object f.at (f.at + length (scalars_in f.scalars)) (scalars_in f.scalars) → Settling wanted new fs (slice_set rows f.object row)
settling_more wanted now new fs f rows row s w g = record {
  whole = g.whole;
  same = g.same ∙ s.same;
  fits = all_same new now fs g.same fits.0;
  has = rows_kept rows (slice_set rows f.object row) fs (omega (arith, set_long rows f.object row)) long has.0;
  steps = steps;
  covered = λ n k l. covered n k l (cases_order (entry (row_of rows n) k) 0) (covers_or_not f n k);
  left = λ n k e. left n k e (covers_or_not f n k);
}
  where
    fits : Every (Fits now) fs × Fits now f
    fits = every_last (Fits now) fs f s.fits

    has : Every (HasRow rows) fs × HasRow rows f
    has = every_last (HasRow rows) fs f s.has

    long : (n : ℕ) → length (row_of rows n) ≤ length (row_of (slice_set rows f.object row) n)
    long n = by (cases_order n f.object)
      where
        other : n ≢ f.object → length (row_of rows n) ≤ length (row_of (slice_set rows f.object row) n)
        other d = let so = ap (λ (xs : List ℕ). length xs) (row_elsewhere rows f.object n row d) in omega (arith, so)

        by : (n ≡ f.object) ⊎ ((n < f.object) ⊎ (f.object < n)) → length (row_of rows n) ≤ length (row_of (slice_set rows f.object row) n)
        by (inl e) =
            let so = ap (λ (xs : List ℕ). length xs) (row_here rows f.object n row has.1.there e) in
            let was = ap (λ (j : ℕ). length (row_of rows j)) e in
            omega (arith, so, was, w.long)
        by (inr (inl e)) = other (λ t. omega (arith, e, t))
        by (inr (inr e)) = other (λ t. omega (arith, e, t))

    steps : (n : ℕ) → AreSteps (row_of (slice_set rows f.object row) n)
    steps n = by (cases_order n f.object)
      where
        other : n ≢ f.object → AreSteps (row_of (slice_set rows f.object row) n)
        other d = subst (λ (xs : List ℕ). AreSteps xs) (sym (row_elsewhere rows f.object n row d)) (s.steps n)

        by : (n ≡ f.object) ⊎ ((n < f.object) ⊎ (f.object < n)) → AreSteps (row_of (slice_set rows f.object row) n)
        by (inl e) = subst (λ (xs : List ℕ). AreSteps xs) (sym (row_here rows f.object n row has.1.there e)) (walk_steps (row_of rows f.object) row f.at (f.at + length (scalars_in f.scalars)) w)
        by (inr (inl e)) = other (λ t. omega (arith, e, t))
        by (inr (inr e)) = other (λ t. omega (arith, e, t))

    -- a cell that the fill does not cover is covered as before
    same_entry : (n k : ℕ) → (Covers f n k → ⊥) → entry (row_of (slice_set rows f.object row) n) k ≡ entry (row_of rows n) k
    same_entry n k out = by (cases_order n f.object)
      where
        other : n ≢ f.object → entry (row_of (slice_set rows f.object row) n) k ≡ entry (row_of rows n) k
        other d = ap (λ (xs : List ℕ). entry xs k) (row_elsewhere rows f.object n row d)

        this : n ≡ f.object → entry row k ≡ entry (row_of rows f.object) k
        this e = by (cases_order k f.at)
          where
            from : f.at ≤ k → entry row k ≡ entry (row_of rows f.object) k
            from a = by (cases_order k (f.at + length (scalars_in f.scalars)))
              where
                by : (k ≡ f.at + length (scalars_in f.scalars)) ⊎ ((k < f.at + length (scalars_in f.scalars)) ⊎ (f.at + length (scalars_in f.scalars) < k)) → entry row k ≡ entry (row_of rows f.object) k
                by (inl b) = w.behind k (omega (arith, b))
                by (inr (inl b)) = absurd (out (record { this = e; from = a; to = b }))
                by (inr (inr b)) = w.behind k (omega (arith, b))

            by : (k ≡ f.at) ⊎ ((k < f.at) ⊎ (f.at < k)) → entry row k ≡ entry (row_of rows f.object) k
            by (inl b) = from (omega (arith, b))
            by (inr (inl b)) = w.before k b
            by (inr (inr b)) = from (omega (arith, b))

        by : (n ≡ f.object) ⊎ ((n < f.object) ⊎ (f.object < n)) → entry (row_of (slice_set rows f.object row) n) k ≡ entry (row_of rows n) k
        by (inl e) = ap (λ (xs : List ℕ). entry xs k) (row_here rows f.object n row has.1.there e) ∙ this e ∙ sym (ap (λ (j : ℕ). entry (row_of rows j) k) e)
        by (inr (inl e)) = other (λ t. omega (arith, e, t))
        by (inr (inr e)) = other (λ t. omega (arith, e, t))

    -- a cell that it does not cover, or that was covered, is as before
    kept : (n k : ℕ) → (Covers f n k → 1 ≤ entry (row_of rows n) k) → cell new n k ≡ cell now n k
    kept n k some = g.kept n k (λ e a b z. let so = some (record { this = e; from = a; to = b }) in let like = ap (λ (j : ℕ). entry (row_of rows j) k) e in omega (arith, so, like, z))

    before_it : (n k : ℕ) → cell (made now (fs ++ f ∷ [])) n k ≡ cell (with_filled (made now fs) f.object f.at (scalars_in f.scalars) (slice_get (made now fs) f.object)) n k
    before_it n k = ap (λ (os : List HeapObject). cell os n k) (made_last now fs f)

    older_whole : AreWhole (made now fs)
    older_whole = made_whole now fs s.whole fits.0

    older_fits : Fits (made now fs) f
    older_fits = fits_same (made now fs) now f (made_blank now fs) fits.1

    covered : (n k : ℕ) → 1 ≤ entry (row_of (slice_set rows f.object row) n) k → (entry (row_of rows n) k ≡ 0) ⊎ ((entry (row_of rows n) k < 0) ⊎ (0 < entry (row_of rows n) k)) → Covers f n k ⊎ (Covers f n k → ⊥) → cell new n k ≡ cell wanted n k
    covered n k l (inr (inl e)) c = absurd (omega (arith, e))
    covered n k l (inr (inr e)) c = kept n k (λ d. omega (arith, e)) ∙ s.covered n k (omega (arith, e))
    covered n k l (inl e) (inr out) = absurd (let so = same_entry n k out in omega (arith, so, e, l))
    covered n k l (inl e) (inl c) =
        let none : entry (row_of rows f.object) k ≡ 0 = sym (ap (λ (j : ℕ). entry (row_of rows j) k) c.this) ∙ e in
        ap (λ (j : ℕ). cell new j k) c.this ∙ g.given k c.from c.to none ∙ sym (covered_cell (made now fs) f n k older_whole older_fits c) ∙ sym (before_it n k) ∙ s.left n k e

    left : (n k : ℕ) → entry (row_of (slice_set rows f.object row) n) k ≡ 0 → Covers f n k ⊎ (Covers f n k → ⊥) → cell (made new fs) n k ≡ cell wanted n k
    left n k e (inl c) =
        absurd (let so = w.covered k c.from c.to in let is = ap (λ (xs : List ℕ). entry xs k) (row_here rows f.object n row has.1.there c.this) in omega (arith, so, is, e))
    left n k e (inr out) =
        made_cell new now fs n k g.whole s.whole g.same (all_same new now fs g.same fits.0) (kept n k (λ c. absurd (out c)))
        ∙ sym (other_cell (made now fs) f n k older_whole older_fits out) ∙ sym (before_it n k) ∙ s.left n k (sym (same_entry n k out) ∙ e)

-- ---- the newest fill

pub popped : (wanted now : List HeapObject) (all fs : List Fill) (f : Fill) (rows : List (List ℕ)) → all ≡ fs ++ f ∷ [] → Settling wanted now all rows → Settling wanted now (fs ++ f ∷ []) rows
popped wanted now all fs f rows e s = subst (λ (gs : List Fill). Settling wanted now gs rows) e s

pub popped_fits : (wanted now : List HeapObject) (all fs : List Fill) (f : Fill) (rows : List (List ℕ)) → all ≡ fs ++ f ∷ [] → Settling wanted now all rows → Fits now f
popped_fits wanted now all fs f rows e s = (every_last (Fits now) fs f (popped wanted now all fs f rows e s).fits).1

pub popped_row : (wanted now : List HeapObject) (all fs : List Fill) (f : Fill) (rows : List (List ℕ)) → all ≡ fs ++ f ∷ [] → Settling wanted now all rows → HasRow rows f
popped_row wanted now all fs f rows e s = (every_last (HasRow rows) fs f (popped wanted now all fs f rows e s).has).1
