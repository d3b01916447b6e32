use Rattle.std.proofs.Common.{◌≡◌, ◌∷◌, [], Option, Some, List, slice_get, ◌+◌, ◌-◌, ◌<◌, ◌≤◌, length, refl, sym, ap, subst, ◌∙◌, arith}
use Rattle.std.specs.Prelude.{IfSome, max, min}
use Rattle.mu_values.specs.declared.scalars.Scalar.{Scalar}
use Rattle.typed_heap.specs.Objects.{with_filled}
use Rattle.hail_load.specs.Fills.{entry, Walked, Given, uncovered}
use Rattle.hail_load.specs.Gathered.{scalars_in}
use Rattle.hail_load.proofs.Stepping.{walk_none, walk_more, cover_new, cover_again}
use Rattle.hail_load.proofs.Cells.{given_none, given_passed, given_one, found_at}
use Rattle.hail_load.proofs.Making.{fits_same}
use Rattle.hail_load.proofs.fills.settle_cells.Goals as goal

pub each-init : goal.each-init
each-init c =
    let f = c.args.fill.now in
    let ss = scalars_in f.scalars in
    let none : f.at ≡ f.at + 0 = omega arith in
    record {
      row = subst (λ to. Walked c.args.row.now c.args.row.now f.at to (f.at + length ss)) none (walk_none c.args.row.now f.at (f.at + length ss) c.requires.steps);
      given = subst (λ to. Given c.args.heap.now.objects c.args.heap.now.objects c.args.row.now f.object f.at to ss) none (given_none c.args.heap.now.objects c.args.row.now f.object f.at ss c.requires.whole);
      left = refl;
      room = omega arith;
      many = omega arith;
    }

pub settle_cell-requires-clause-fits : goal.settle_cell-requires-clause-fits
settle_cell-requires-clause-fits c = fits_same c.each.heap.objects c.args.heap.now.objects c.args.fill.now c.each.invariant.given.same c.requires.fits

pub each-preserved-then-known-eq0 : goal.each-preserved-then-known-eq0
each-preserved-then-known-eq0 c =
    let f = c.args.fill.now in
    let ss = scalars_in f.scalars in
    let old = c.args.row.now in
    let row = c.each.row in
    let i = f.at + c.each.n in
    let next = f.at + (c.each.n + 1) in
    let end = f.at + length ss in
    let many : c.len-many.result ≡ length ss = c.len-many.ensures in
    let none : entry row i ≡ 0 = c.if-known-eq0.true in
    let x : c.max.result ≡ max (entry row i) (c.len-many.result - c.each.n) = c.max.ensures in
    let some : 1 ≤ c.max.result = omega (arith, x, c.each-test.true) in
    let within : i < length row = omega (arith, many, c.each-test.true, c.requires.row, c.each.invariant.row.long) in
    let same : entry row i ≡ entry old i = c.each.invariant.row.behind i (omega arith) in
    let found = found_at ss c.each.n (omega (arith, many, c.each-test.true)) in
    let fits = fits_same c.each.heap.objects c.args.heap.now.objects f c.each.invariant.given.same c.requires.fits in
    let at_it : i - f.at ≡ c.each.n = omega arith in
    let set = subst (λ (p : Option Scalar). IfSome p (λ s. c.settle_cell.new.heap.objects ≡ with_filled c.each.heap.objects f.object i (s ∷ []) (slice_get c.each.heap.objects f.object))) found.1 c.settle_cell.ensures.objects in
    let up : i + 1 ≡ next = omega arith in
    let fewer = cover_new row i c.max.result within none some in
    record {
      row = walk_more old row f.at i next end c.max.result c.requires.steps c.each.invariant.row (omega arith) (omega arith) (omega (arith, many, c.each-test.true)) c.requires.row some
          (λ j a b. absurd (omega (arith, a, b))) (λ j a b. absurd (omega (arith, a, b, x, none, many, c.each-test.true)));
      given = subst (λ to. Given c.args.heap.now.objects c.settle_cell.new.heap.objects old f.object f.at to ss) up
          (given_one c.args.heap.now.objects c.each.heap.objects c.settle_cell.new.heap.objects old f.object f.at i ss found.0 c.each.invariant.given (omega arith) (sym same ∙ none) (ap (λ j. slice_get ss j) at_it ∙ found.1) fits.there
          (omega (arith, fits.cells, many, c.each-test.true)) set);
      left = c.settle_cell.ensures.left ∙ c.each.invariant.left;
      room = omega (arith, fewer, c.settle_cell.ensures.room, c.each.invariant.room);
      many = omega (arith, c.each-test.true);
    }

pub each-preserved : goal.each-preserved
each-preserved c =
    let f = c.args.fill.now in
    let ss = scalars_in f.scalars in
    let old = c.args.row.now in
    let row = c.each.row in
    let i = f.at + c.each.n in
    let next = f.at + (c.each.n + c.min.result) in
    let end = f.at + length ss in
    let many : c.len-many.result ≡ length ss = c.len-many.ensures in
    let known : 1 ≤ entry row i = omega (arith, c.if-known-eq0.false) in
    let x : c.max.result ≡ max (entry row i) (c.len-many.result - c.each.n) = c.max.ensures in
    let y : c.min.result ≡ min (entry row i) (c.len-many.result - c.each.n) = c.min.ensures in
    let some : 1 ≤ c.max.result = omega (arith, x, known) in
    let step : 1 ≤ c.min.result = omega (arith, y, known, c.each-test.true) in
    let short : c.min.result ≤ entry row i = omega (arith, y) in
    let left : c.each.n + c.min.result ≤ c.len-many.result = omega (arith, y, c.each-test.true) in
    let within : i < length row = omega (arith, many, c.each-test.true, c.requires.row, c.each.invariant.row.long) in
    let same : entry row i ≡ entry old i = c.each.invariant.row.behind i (omega arith) in
    let like = cover_again row i c.max.result within known some in
    record {
      row = walk_more old row f.at i next end c.max.result c.requires.steps c.each.invariant.row (omega arith) (omega (arith, step)) (omega (arith, left, many)) c.requires.row some
          (λ j a b. omega (arith, b, short)) (λ j a b. omega (arith, a, b, x, many, c.each-test.true));
      given = given_passed c.args.heap.now.objects c.each.heap.objects old f.object f.at i next ss c.each.invariant.given (λ k a b. c.requires.steps i k a (omega (arith, b, short, same))) (omega arith);
      left = c.each.invariant.left;
      room = omega (arith, like, c.each.invariant.room);
      many = left;
    }
