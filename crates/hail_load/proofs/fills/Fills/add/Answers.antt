use Rattle.std.proofs.Common.{◌≡◌, ◌+◌, ◌<◌, ◌≤◌, ◌^◌, ℕ, List, ◌++◌, length, slice_get, ap, ◌∙◌, arith}
use Rattle.typed_heap.specs.Objects.{HeapObject}
use Rattle.typed_heap.specs.Heap.{cells_of}
use Rattle.hail_load.specs.declared.fills.Fill.{Fill}
use Rattle.hail_load.specs.Fills.{fills_of, made, row_of}
use Rattle.hail_load.specs.Gathered.{gathered}
use Rattle.hail_load.proofs.Making.{lags_more, past_filled, runs_added, runs_fit, runs_have_row}
use Rattle.hail_load.proofs.fills.Fills.add.Goals as goal

pub returns-then-object-objects-clause-filled : goal.returns-then-object-objects-clause-filled
returns-then-object-objects-clause-filled c =
    past_filled c.args.heap.now.objects c.args.self.now.fills.items c.args.spot.object c.args.spot.at (gathered c.args.runs.now) (omega (arith, c.objects.ensures, c.if-object-objects.true))

pub returns-clause-lags : goal.returns-clause-lags
returns-clause-lags c =
    let n = c.args.spot.object in
    let at = c.args.spot.at in
    let rs = c.args.runs.now in
    let os = c.open.new.heap.objects in
    let rows = c.open.new.self.rows.items in
    let same = ap (λ (xs : List HeapObject). cells_of (slice_get xs n)) c.open.ensures.objects in
    let cells : at + length (gathered rs) ≤ cells_of (slice_get os n) = omega (arith, c.requires.room, same) in
    let narrow : at + length (gathered rs) < 2 ^ 32 = omega (arith, c.requires.room, c.open.ensures.narrow) in
    let long = ap (λ (xs : List HeapObject). length xs) c.open.ensures.objects in
    let there : n < length os = omega (arith, long, c.objects.ensures, c.if-object-objects.false) in
    let fits : at + length (gathered rs) ≤ length (row_of rows n) = omega (arith, c.in_ok-open.ensures.row, c.requires.room) in
    lags_more c.open.new.heap c.open.new.self c.push_all.new.self (fills_of n at rs) c.open.ensures.lags c.push_all.ensures.rows c.push_all.ensures.cells c.in_ok-push_all.ensures.fills (runs_fit os n at rs there cells narrow)
    (runs_have_row rows n at rs c.in_ok-open.ensures.there fits)

pub returns-clause-filled : goal.returns-clause-filled
returns-clause-filled c =
    let n = c.args.spot.object in
    let at = c.args.spot.at in
    let rs = c.args.runs.now in
    let os = c.args.heap.now.objects in
    let there : n < length os = omega (arith, c.objects.ensures, c.if-object-objects.false) in
    let new = c.in_ok-push_all.ensures.fills ∙ ap (λ (fs : List Fill). fs ++ fills_of n at rs) c.open.ensures.fills in
    ap (λ (xs : List HeapObject). made xs c.push_all.new.self.fills.items) c.open.ensures.objects ∙ runs_added os c.args.self.now.fills.items c.push_all.new.self.fills.items n at rs c.requires.lags.whole c.requires.lags.fits there c.requires.room new
