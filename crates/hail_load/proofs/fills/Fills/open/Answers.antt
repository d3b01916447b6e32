use Rattle.std.proofs.Common.{◌≡◌, ◌+◌, ◌<◌, ◌≤◌, ℕ, List, length, slice_get, sym, ap, subst, ◌∙◌, arith}
use Rattle.std.specs.Prelude.{slice_set, replicate}
use Rattle.typed_heap.specs.Objects.{HeapObject}
use Rattle.hail_load.specs.Answering.{AreWhole}
use Rattle.hail_load.specs.Fills.{row_of, entry, uncovered_in, AsLong, Every, Fits}
use Rattle.hail_load.proofs.Stepping.{set_long}
use Rattle.hail_load.proofs.Settling.{row_is, row_grown, row_zeros, row_cells, rows_kept, row_long, row_put}
use Rattle.hail_load.proofs.Making.{cells_low}
use Rattle.hail_load.proofs.fills.Fills.open.Goals as goal

pub returns-clause-lags : goal.returns-clause-lags
returns-clause-lags c =
    let was = c.args.self.now.rows.items in
    let rows = c.reach.new.rows.items in
    let n = c.args.object in
    let size = c.cells_in-size.result in
    let there : n < length rows = c.in_ok-reach.ensures.there in
    let row = row_is rows n c.index.result.now there c.index.ensures in
    let long = ap (λ (xs : List ℕ). length xs) row in
    let none : length (row_of rows n) ≡ 0 = omega (arith, long, c.len.ensures, c.if-len-gt0.false) in
    let new = slice_set rows n c.in_ok-self.field-0 in
    let put : new ≡ slice_set rows n (replicate size 0) = ap (λ (xs : List ℕ). slice_set rows n xs) c.in_ok-self.ensures in
    let most : length rows ≤ length c.args.heap.now.objects = c.reach.ensures.few (length c.args.heap.now.objects) c.requires.lags.few c.requires.object in
    let cells : uncovered_in new ≡ uncovered_in rows + size = ap (λ (xs : List (List ℕ)). uncovered_in xs) put ∙ row_cells rows n size there none in
    let many = set_long rows n c.in_ok-self.field-0 in
    record {
      whole = subst (λ (os : List HeapObject). AreWhole os) (sym c.reserve.ensures.objects) c.requires.lags.whole;
      fits = subst (λ (os : List HeapObject). Every (Fits os) c.args.self.now.fills.items) (sym c.reserve.ensures.objects) c.requires.lags.fits;
      rows = rows_kept was new c.args.self.now.fills.items (omega (arith, many, c.reach.ensures.more)) (row_grown was rows n c.in_ok-self.field-0 there c.reach.ensures.same none) c.requires.lags.rows;
      none = subst (λ (xs : List (List ℕ)). (m k : ℕ) → entry (row_of xs m) k ≡ 0) (sym put) (row_zeros was rows n size there c.reach.ensures.same c.requires.lags.none);
      cells = grind (arith, cells, c.reach.ensures.cells, c.requires.lags.cells);
      room = c.in_ok-reserve.ensures.room;
      few = grind (arith, many, most, c.reserve.ensures.objects);
      long = subst (λ (os : List HeapObject). (m : ℕ) → AsLong (row_of new m) (slice_get os m)) (sym c.reserve.ensures.objects)
          (subst (λ (xs : List (List ℕ)). (m : ℕ) → AsLong (row_of xs m) (slice_get c.args.heap.now.objects m)) (sym put)
          (row_long was rows n size c.args.heap.now.objects there c.reach.ensures.same c.cells_in-size.ensures.is (omega (arith, c.cells_in-size.ensures.is, c.cells_in-size.ensures.narrow)) c.requires.lags.long));
    }

pub overflow_add-cells : goal.overflow_add-cells
overflow_add-cells c =
    let was = c.args.self.now.rows.items in
    let low = cells_low was (λ n. (c.requires.lags.long n).narrow) in
    omega (arith, low, c.requires.lags.cells, c.requires.lags.few, c.cells_in-size.ensures.few, c.cells_in-size.ensures.is, c.cells_in-size.ensures.narrow)

pub returns-then-len-gt0-clause-row : goal.returns-then-len-gt0-clause-row
returns-then-len-gt0-clause-row c =
    let n = c.args.object in
    let row = ap (λ (xs : List ℕ). length xs) (row_is c.reach.new.rows.items n c.index.result.now c.in_ok-reach.ensures.there c.index.ensures) in
    let same = ap (λ (xs : List ℕ). length xs) (c.reach.ensures.same n) in
    same ∙ (c.requires.lags.long n).cells (omega (arith, row, same, c.len.ensures, c.if-len-gt0.true))

pub returns-clause-row : goal.returns-clause-row
returns-clause-row c = row_put c.reach.new.rows.items c.args.object c.cells_in-size.result c.in_ok-self.field-0 c.in_ok-reach.ensures.there c.in_ok-self.ensures ∙ c.cells_in-size.ensures.is
