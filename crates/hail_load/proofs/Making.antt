-- What fills make of objects.
use Rattle.std.proofs.Common.{◌≡◌, ℕ, zero, suc, ◌+◌, ◌*◌, ◌-◌, ◌^◌, ◌<◌, ◌≤◌, List, [], ◌∷◌, ◌++◌, ◌⊎◌, inl, inr, length, Option, Some, None, slice_get, refl, sym, ap, subst, ◌∙◌, arith, length-append, get_or-set_same, get_or-set_other, ◌≢◌, append_assoc, take, get_or, add-one}
use Rattle.std.specs.Prelude.{slice_set, slice_index_or, replicate}
use Rattle.std.proofs.lemmas.Bool.{cases_order}
use Rattle.std.proofs.lemmas.List.{append-nil, get_or_default}
use Rattle.std.proofs.lemmas.Option.{slice_get_past}
use Rattle.std.proofs.Math.Seq.{take-suc}
use Rattle.std.proofs.lemmas.List.Folds.{sum_by-replicate}
use Rattle.std.proofs.lemmas.List.Sums.{sum_by-set, sum_by-cons}
use Rattle.mu_values.specs.declared.scalars.Scalar.{Scalar}
use Rattle.typed_heap.specs.Objects.{HeapObject, filled, with_filled}
use Rattle.typed_heap.specs.Heap.{HeapContents, cells_of}
use Rattle.hail_load.specs.declared.gathered.Run.{Run}
use Rattle.hail_load.specs.declared.fills.Fill.{Fill}
use Rattle.hail_load.specs.declared.fills.Fills.{Fills}
use Rattle.hail_load.specs.Answering.{AreWhole}
use Rattle.hail_load.specs.Rooms.{KeepsCells}
use Rattle.hail_load.specs.Fills.{fills_of, made, Every, Fits, HasRow, entry, row_of, one_if_zero, uncovered, uncovered_in, AreSteps, Walked, blank, cell, Given, AsLong, Lags}
use Rattle.hail_load.specs.Gathered.{scalars_in, gathered}
use Rattle.hail_load.proofs.Cells.{same_objects, same_long, same_cells, blank_filled, cell_in, cell_out, whole_filled, nothing_filled, both_filled}
use Rattle.hail_load.proofs.Stepping.{set_long, walk_steps, zeros_open}

-- ---- fills

-- where a fill fits depends on what objects are alone
pub fits_same : (os ps : List HeapObject) (f : Fill) → blank os ≡ blank ps → Fits ps f → Fits os f
fits_same os ps f e h = record {
  there = omega (arith, h.there, same_long os ps e);
  cells = omega (arith, h.cells, same_cells os ps f.object e);
  narrow = h.narrow;
}

pub made_last : (os : List HeapObject) (fs : List Fill) (f : Fill) → made os (fs ++ f ∷ []) ≡ with_filled (made os fs) f.object f.at (scalars_in f.scalars) (slice_get (made os fs) f.object)
made_last os [] f = refl
made_last os (g ∷ fs) f = made_last (with_filled os g.object g.at (scalars_in g.scalars) (slice_get os g.object)) fs f

pub made_both : (os : List HeapObject) (fs gs : List Fill) → made os (fs ++ gs) ≡ made (made os fs) gs
made_both os [] gs = refl
made_both os (f ∷ fs) gs = made_both (with_filled os f.object f.at (scalars_in f.scalars) (slice_get os f.object)) fs gs

pub made_blank : (os : List HeapObject) (fs : List Fill) → blank (made os fs) ≡ blank os
made_blank os [] = refl
made_blank os (f ∷ fs) = made_blank (with_filled os f.object f.at (scalars_in f.scalars) (slice_get os f.object)) fs ∙ blank_filled os f.object f.at (scalars_in f.scalars)

pub made_long : (os : List HeapObject) (fs : List Fill) → length (made os fs) ≡ length os
made_long os fs = same_long (made os fs) os (made_blank os fs)

pub all_same : (os ps : List HeapObject) (fs : List Fill) → blank os ≡ blank ps → Every (Fits ps) fs → Every (Fits os) fs
all_same os ps [] e h = h
all_same os ps (f ∷ fs) e h = (fits_same os ps f e h.0, all_same os ps fs e h.1)

-- the objects that a fill is for, once older ones are made
pub fill_whole : (os : List HeapObject) (f : Fill) → AreWhole os → Fits os f → AreWhole (with_filled os f.object f.at (scalars_in f.scalars) (slice_get os f.object))
fill_whole os f h t = whole_filled os f.object f.at (scalars_in f.scalars) h t.there t.cells

pub made_whole : (os : List HeapObject) (fs : List Fill) → AreWhole os → Every (Fits os) fs → AreWhole (made os fs)
made_whole os [] h t = h
made_whole os (f ∷ fs) h t =
    let ps = with_filled os f.object f.at (scalars_in f.scalars) (slice_get os f.object) in
    made_whole ps fs (fill_whole os f h t.0) (all_same ps os fs (blank_filled os f.object f.at (scalars_in f.scalars)) t.1)

-- a new object is not filled yet
more_filled : (os : List HeapObject) (o : HeapObject) (n at : ℕ) (ss : List Scalar) → n < length os → with_filled (os ++ o ∷ []) n at ss (slice_get (os ++ o ∷ []) n) ≡ with_filled os n at ss (slice_get os n) ++ o ∷ []
more_filled [] o n at ss l = absurd (omega (arith, l))
more_filled (p ∷ os) o zero at ss l = refl
more_filled (p ∷ os) o (suc n) at ss l = behind (slice_get (os ++ o ∷ []) n) ∙ ap (λ (ps : List HeapObject). p ∷ ps) (more_filled os o n at ss (omega (arith, l))) ∙ sym (before (slice_get os n))
  where
    behind : (q : Option HeapObject) → with_filled (p ∷ os ++ o ∷ []) (suc n) at ss q ≡ p ∷ with_filled (os ++ o ∷ []) n at ss q
    behind None = refl
    behind (Some r) = refl

    before : (q : Option HeapObject) → with_filled (p ∷ os) (suc n) at ss q ++ o ∷ [] ≡ p ∷ (with_filled os n at ss q ++ o ∷ [])
    before None = refl
    before (Some r) = refl

pub made_more : (os : List HeapObject) (fs : List Fill) (o : HeapObject) → Every (Fits os) fs → made (os ++ o ∷ []) fs ≡ made os fs ++ o ∷ []
made_more os [] o t = refl
made_more os (f ∷ fs) o t =
    let ss = scalars_in f.scalars in
    let ps = with_filled os f.object f.at ss (slice_get os f.object) in
    ap (λ (qs : List HeapObject). made qs fs) (more_filled os o f.object f.at ss t.0.there) ∙ made_more ps fs o (all_same ps os fs (blank_filled os f.object f.at ss) t.1)

fits_more : (os : List HeapObject) (o : HeapObject) (f : Fill) → Fits os f → Fits (os ++ o ∷ []) f
fits_more os o f t = record {
  there = omega (arith, t.there, length-append os (o ∷ []));
  cells = subst (λ (p : Option HeapObject). f.at + length (scalars_in f.scalars) ≤ cells_of p) (sym (get_more os f.object t.there)) t.cells;
  narrow = t.narrow;
}
  where
    get_more : (ps : List HeapObject) (n : ℕ) → n < length ps → slice_get (ps ++ o ∷ []) n ≡ slice_get ps n
    get_more [] n l = absurd (omega (arith, l))
    get_more (p ∷ ps) zero l = refl
    get_more (p ∷ ps) (suc n) l = get_more ps n (omega (arith, l))

pub all_more : (os : List HeapObject) (o : HeapObject) (fs : List Fill) → Every (Fits os) fs → Every (Fits (os ++ o ∷ [])) fs
all_more os o [] h = h
all_more os o (f ∷ fs) h = (fits_more os o f h.0, all_more os o fs h.1)

pub every_last : (P : Fill → Type 0) (fs : List Fill) (f : Fill) → Every P (fs ++ f ∷ []) → Every P fs × P f
every_last P [] f h = (tt, h.0)
every_last P (g ∷ fs) f h = let more = every_last P fs f h.1 in ((h.0, more.0), more.1)

pub every_both : (P : Fill → Type 0) (fs gs : List Fill) → Every P fs → Every P gs → Every P (fs ++ gs)
every_both P [] gs h i = i
every_both P (f ∷ fs) gs h i = (h.0, every_both P fs gs h.1 i)

pub no_fills : (fs : List Fill) → length fs ≡ 0 → fs ≡ []
no_fills [] e = refl
no_fills (f ∷ fs) e = absurd (omega (arith, e))

-- ---- runs

-- the fills of runs are one fill with the scalars of all
pub made_runs : (os : List HeapObject) (n at : ℕ) (rs : List Run) → AreWhole os → n < length os → at + length (gathered rs) ≤ cells_of (slice_get os n) → made os (fills_of n at rs) ≡ with_filled os n at (gathered rs) (slice_get os n)
made_runs os n at [] h there l = sym (nothing_filled os n at h there (omega (arith, l)))
made_runs os n at (r ∷ rs) h there l =
    let ss = scalars_in r in
    let ps = with_filled os n at ss (slice_get os n) in
    let long = length-append ss (gathered rs) in
    let same = blank_filled os n at ss in
    let first : at + length ss ≤ cells_of (slice_get os n) = omega (arith, l, long) in
    made_runs ps n (at + length ss) rs (whole_filled os n at ss h there first) (omega (arith, there, same_long ps os same)) (omega (arith, l, long, same_cells ps os n same))
    ∙ both_filled os n at ss (gathered rs) h there l

pub runs_fit : (os : List HeapObject) (n at : ℕ) (rs : List Run) → n < length os → at + length (gathered rs) ≤ cells_of (slice_get os n) → at + length (gathered rs) < 2 ^ 32 → Every (Fits os) (fills_of n at rs)
runs_fit os n at [] there l m = tt
runs_fit os n at (r ∷ rs) there l m =
    let long = length-append (scalars_in r) (gathered rs) in
    (record { there = there; cells = omega (arith, l, long); narrow = omega (arith, m, long) }, runs_fit os n (at + length (scalars_in r)) rs there (omega (arith, l, long)) (omega (arith, m, long)))

pub runs_have_row : (rows : List (List ℕ)) (n at : ℕ) (rs : List Run) → n < length rows → at + length (gathered rs) ≤ length (row_of rows n) → Every (HasRow rows) (fills_of n at rs)
runs_have_row rows n at [] there l = tt
runs_have_row rows n at (r ∷ rs) there l =
    let long = length-append (scalars_in r) (gathered rs) in
    (record { there = there; cells = omega (arith, l, long) }, runs_have_row rows n (at + length (scalars_in r)) rs there (omega (arith, l, long)))

-- ---- cells

pub record Covers (f : Fill) (n k : ℕ) : Type 0 where
  pub this : n ≡ f.object
  pub from : f.at ≤ k
  pub to : k < f.at + length (scalars_in f.scalars)

pub covers_or_not : (f : Fill) (n k : ℕ) → Covers f n k ⊎ (Covers f n k → ⊥)
covers_or_not f n k = by (cases_order n f.object) (cases_order k f.at) (cases_order k (f.at + length (scalars_in f.scalars)))
  where
    by : (n ≡ f.object) ⊎ ((n < f.object) ⊎ (f.object < n)) → (k ≡ f.at) ⊎ ((k < f.at) ⊎ (f.at < k)) →
        (k ≡ f.at + length (scalars_in f.scalars)) ⊎ ((k < f.at + length (scalars_in f.scalars)) ⊎ (f.at + length (scalars_in f.scalars) < k)) → Covers f n k ⊎ (Covers f n k → ⊥)
    by (inr (inl a)) b c = inr (λ d. omega (arith, a, d.this))
    by (inr (inr a)) b c = inr (λ d. omega (arith, a, d.this))
    by (inl a) (inr (inl b)) c = inr (λ d. omega (arith, b, d.from))
    by (inl a) b (inl c) = inr (λ d. omega (arith, c, d.to))
    by (inl a) b (inr (inr c)) = inr (λ d. omega (arith, c, d.to))
    by (inl a) (inl b) (inr (inl c)) = inl (record { this = a; from = omega (arith, b); to = c })
    by (inl a) (inr (inr b)) (inr (inl c)) = inl (record { this = a; from = omega (arith, b); to = c })

pub covered_cell : (os : List HeapObject) (f : Fill) (n k : ℕ) → AreWhole os → Fits os f → Covers f n k →
    cell (with_filled os f.object f.at (scalars_in f.scalars) (slice_get os f.object)) n k ≡ slice_get (scalars_in f.scalars) (k - f.at)
covered_cell os f n k h t c =
    ap (λ (j : ℕ). cell (with_filled os f.object f.at (scalars_in f.scalars) (slice_get os f.object)) j k) c.this
    ∙ cell_in os f.object f.at k (scalars_in f.scalars) h t.there t.cells c.from c.to

pub other_cell : (os : List HeapObject) (f : Fill) (n k : ℕ) → AreWhole os → Fits os f → (Covers f n k → ⊥) →
    cell (with_filled os f.object f.at (scalars_in f.scalars) (slice_get os f.object)) n k ≡ cell os n k
other_cell os f n k h t out = cell_out os f.object f.at n k (scalars_in f.scalars) h t.there t.cells (λ a b c. out (record { this = a; from = b; to = c }))

filled_cell : (os ps : List HeapObject) (f : Fill) (n k : ℕ) → AreWhole os → AreWhole ps → Fits os f → Fits ps f → cell os n k ≡ cell ps n k →
    cell (with_filled os f.object f.at (scalars_in f.scalars) (slice_get os f.object)) n k ≡ cell (with_filled ps f.object f.at (scalars_in f.scalars) (slice_get ps f.object)) n k
filled_cell os ps f n k h i t u e = by (covers_or_not f n k)
  where
    by : Covers f n k ⊎ (Covers f n k → ⊥) → cell (with_filled os f.object f.at (scalars_in f.scalars) (slice_get os f.object)) n k ≡ cell (with_filled ps f.object f.at (scalars_in f.scalars) (slice_get ps f.object)) n k
    by (inl c) = covered_cell os f n k h t c ∙ sym (covered_cell ps f n k i u c)
    by (inr o) = other_cell os f n k h t o ∙ e ∙ sym (other_cell ps f n k i u o)

-- what fills make of a cell depends on that cell alone
pub made_cell : (os ps : List HeapObject) (fs : List Fill) (n k : ℕ) → AreWhole os → AreWhole ps → blank os ≡ blank ps → Every (Fits os) fs → cell os n k ≡ cell ps n k → cell (made os fs) n k ≡ cell (made ps fs) n k
made_cell os ps [] n k h i same t e = e
made_cell os ps (f ∷ fs) n k h i same t e =
    let ss = scalars_in f.scalars in
    let qs = with_filled os f.object f.at ss (slice_get os f.object) in
    let rs = with_filled ps f.object f.at ss (slice_get ps f.object) in
    let u = fits_same ps os f (sym same) t.0 in
    let like : blank qs ≡ blank rs = blank_filled os f.object f.at ss ∙ same ∙ sym (blank_filled ps f.object f.at ss) in
    made_cell qs rs fs n k (fill_whole os f h t.0) (fill_whole ps f i u) like (all_same qs os fs (blank_filled os f.object f.at ss) t.1) (filled_cell os ps f n k h i t.0 u e)

-- ---- runs, one after the other

gathered_last : (rs : List Run) (r : Run) → gathered (rs ++ r ∷ []) ≡ gathered rs ++ scalars_in r
gathered_last [] r = append-nil (scalars_in r)
gathered_last (q ∷ rs) r = ap (λ (ss : List Scalar). scalars_in q ++ ss) (gathered_last rs r) ∙ sym (append_assoc (scalars_in q) (gathered rs) (scalars_in r))

fills_last : (n at to : ℕ) (rs : List Run) (r : Run) → to ≡ at + length (gathered rs) → fills_of n at (rs ++ r ∷ []) ≡ fills_of n at rs ++ record { object = n; at = to; scalars = r } ∷ []
fills_last n at to [] r e = let same : at ≡ to = omega (arith, e) in ap (λ (j : ℕ). (let f : Fill = record { object = n; at = j; scalars = r } in f) ∷ []) same
fills_last n at to (q ∷ rs) r e =
    let long = length-append (scalars_in q) (gathered rs) in
    ap (λ (fs : List Fill). (let f : Fill = record { object = n; at = at; scalars = q } in f) ∷ fs) (fills_last n (at + length (scalars_in q)) to rs r (omega (arith, e, long)))

run_more : (rs : List Run) (i : ℕ) (d : Run) → i < length rs → take (i + 1) rs ≡ take i rs ++ get_or rs i d ∷ []
run_more rs i d l = ap (λ n. take n rs) (add-one i) ∙ take-suc rs i d l

pub gathered_more : (rs : List Run) (i many : ℕ) (d : Run) → i < length rs → many ≡ length (scalars_in (get_or rs i d)) → length (gathered (take (i + 1) rs)) ≡ length (gathered (take i rs)) + many
gathered_more rs i many d l e =
    ap (λ (qs : List Run). length (gathered qs)) (run_more rs i d l) ∙ ap (λ (ss : List Scalar). length ss) (gathered_last (take i rs) (get_or rs i d)) ∙ length-append (gathered (take i rs)) (scalars_in (get_or rs i d))
    ∙ ap (λ k. length (gathered (take i rs)) + k) (sym e)

pub fills_more : (old now new : List Fill) (n at to : ℕ) (rs : List Run) (i : ℕ) (d : Run) → i < length rs → to ≡ at + length (gathered (take i rs)) → now ≡ old ++ fills_of n at (take i rs) →
    new ≡ now ++ record { object = n; at = to; scalars = get_or rs i d } ∷ [] → new ≡ old ++ fills_of n at (take (i + 1) rs)
fills_more old now new n at to rs i d l f g e =
    let last : List Fill = record { object = n; at = to; scalars = get_or rs i d } ∷ [] in
    e ∙ ap (λ (fs : List Fill). fs ++ last) g ∙ append_assoc old (fills_of n at (take i rs)) last
    ∙ ap (λ (fs : List Fill). old ++ fs) (sym (ap (λ (qs : List Run). fills_of n at qs) (run_more rs i d l) ∙ fills_last n at to (take i rs) (get_or rs i d) f))

-- so many of them have no more scalars
pub gathered_part : (rs : List Run) (i : ℕ) → length (gathered (take i rs)) ≤ length (gathered rs)
gathered_part [] zero = omega arith
gathered_part [] (suc i) = omega arith
gathered_part (r ∷ rs) zero = omega arith
gathered_part (r ∷ rs) (suc i) =
    let more = gathered_part rs i in
    omega (arith, more, length-append (scalars_in r) (gathered (take i rs)), length-append (scalars_in r) (gathered rs))

-- ---- heaps

-- fills that are added
pub lags_more : (h : HeapContents) (f g : Fills) (gs : List Fill) → Lags h f → g.rows.items ≡ f.rows.items → g.cells ≡ f.cells → g.fills.items ≡ f.fills.items ++ gs → Every (Fits h.objects) gs → Every (HasRow f.rows.items) gs → Lags h g
lags_more h f g gs l rows cells fills fits has = record {
  whole = l.whole;
  fits = subst (λ (fs : List Fill). Every (Fits h.objects) fs) (sym fills) (every_both (Fits h.objects) f.fills.items gs l.fits fits);
  rows = subst (λ (fs : List Fill). Every (HasRow g.rows.items) fs) (sym fills)
      (subst (λ (xs : List (List ℕ)). Every (HasRow xs) (f.fills.items ++ gs)) (sym rows) (every_both (HasRow f.rows.items) f.fills.items gs l.rows has));
  none = subst (λ (xs : List (List ℕ)). (n k : ℕ) → entry (row_of xs n) k ≡ 0) (sym rows) l.none;
  cells = cells ∙ l.cells ∙ sym (ap (λ (xs : List (List ℕ)). uncovered_in xs) rows);
  room = omega (arith, cells, l.room);
  few = (let long = ap (λ (xs : List (List ℕ)). length xs) rows in omega (arith, long, l.few));
  long = subst (λ (xs : List (List ℕ)). (n : ℕ) → AsLong (row_of xs n) (slice_get h.objects n)) (sym rows) l.long;
}

pub runs_added : (os : List HeapObject) (fs new : List Fill) (n at : ℕ) (rs : List Run) → AreWhole os → Every (Fits os) fs → n < length os → at + length (gathered rs) ≤ cells_of (slice_get os n) → new ≡ fs ++ fills_of n at rs →
    made os new ≡ with_filled (made os fs) n at (gathered rs) (slice_get (made os fs) n)
runs_added os fs new n at rs h t there l e =
    ap (λ (gs : List Fill). made os gs) e ∙ made_both os fs (fills_of n at rs)
    ∙ made_runs (made os fs) n at rs (made_whole os fs h t) (omega (arith, there, made_long os fs)) (omega (arith, l, same_cells (made os fs) os n (made_blank os fs)))

-- an object that is not there
pub past_filled : (os : List HeapObject) (fs : List Fill) (n at : ℕ) (ss : List Scalar) → length os ≤ n → made os fs ≡ with_filled (made os fs) n at ss (slice_get (made os fs) n)
past_filled os fs n at ss l = ap (λ (p : Option HeapObject). with_filled (made os fs) n at ss p) (sym (slice_get_past (made os fs) n (omega (arith, l, made_long os fs))))

no_row : (o : Option HeapObject) → AsLong [] o
no_row o = record { cells = λ l. absurd (omega (arith, l)); narrow = omega arith }

-- objects that keep their cells
pub long_kept : (os ps : List HeapObject) (rows : List (List ℕ)) → KeepsCells os ps → ((n : ℕ) → AsLong (row_of rows n) (slice_get os n)) → (n : ℕ) → AsLong (row_of rows n) (slice_get ps n)
long_kept os ps rows keeps h n =
    let l = h n in
    record { cells = λ k. (let is = l.cells k in is ∙ sym (keeps n (omega (arith, k, is)))); narrow = l.narrow }

-- how many cells have rows
uncovered_low : (row : List ℕ) → uncovered row ≤ length row
uncovered_low [] = omega arith
uncovered_low (zero ∷ row) = let more = uncovered_low row in omega (arith, more, sum_by-cons one_if_zero 0 row)
uncovered_low (suc k ∷ row) = let more = uncovered_low row in omega (arith, more, sum_by-cons one_if_zero (suc k) row)

pub cells_low : (rows : List (List ℕ)) → ((n : ℕ) → length (row_of rows n) < 2 ^ 32) → uncovered_in rows ≤ 4294967295 * length rows
cells_low [] h = omega arith
cells_low (r ∷ rows) h =
    let more = cells_low rows (λ n. h (suc n)) in
    let first = h 0 in
    omega (arith, more, first, uncovered_low r, sum_by-cons uncovered r rows)

-- nothing is filled yet
pub lags_none : (h : HeapContents) (f : Fills) → AreWhole h.objects → f.fills.items ≡ [] → f.rows.items ≡ [] → f.cells ≡ 0 → Lags h f
lags_none h f whole fills rows cells = record {
  whole = whole;
  fits = subst (λ (fs : List Fill). Every (Fits h.objects) fs) (sym fills) tt;
  rows = subst (λ (fs : List Fill). Every (HasRow f.rows.items) fs) (sym fills) tt;
  none = subst (λ (xs : List (List ℕ)). (n k : ℕ) → entry (row_of xs n) k ≡ 0) (sym rows) (λ n k. refl);
  cells = cells ∙ sym (ap (λ (xs : List (List ℕ)). uncovered_in xs) rows);
  room = omega (arith, cells);
  few = (let long = ap (λ (xs : List (List ℕ)). length xs) rows in omega (arith, long));
  long = subst (λ (xs : List (List ℕ)). (n : ℕ) → AsLong (row_of xs n) (slice_get h.objects n)) (sym rows) (λ n. no_row (slice_get h.objects n));
}
