use Rattle.std.proofs.Common.{◌≡◌, ◌<◌, ◌%◌, false, length, sym, arith}
use Rattle.std.proofs.lemmas.Bool.Decides.{nat_tests, Decides-eqb}
use Rattle.std.proofs.lemmas.Slice.Eq.{slice_eq-Decides}
use Rattle.typed_heap.specs.Fits.{begins}
use Rattle.typed_heap.specs.Lemmas.Runs.{no_runs, begin_otherwise}
use Rattle.typed_heap.proofs.Repeating.{same_tells}
use Rattle.typed_heap.proofs.fitting.are_runs.Goals as goal

pub returns-then-found-run-ne0 : goal.returns-then-found-run-ne0
returns-then-found-run-ne0 c =
    let some : 0 < length c.args.run.now = grind (arith, nat_tests) in
    no_runs c.args.run.now c.args.found.now some (λ h. let w = h.whole in absurd (omega (arith, c.if-found-run-ne0.true)))

pub returns-then-not-begins : goal.returns-then-not-begins
returns-then-not-begins c =
    let some : 0 < length c.args.run.now = grind (arith, nat_tests) in
    let any : 0 < length c.args.found.now = grind (arith, nat_tests) in
    let whole : length c.args.found.now % length c.args.run.now ≡ 0 = omega (arith, c.if-found-run-ne0.false) in
    begin_otherwise c.args.run.now c.args.found.now some any whole (sym c.if-not-begins.ensures.begins)

pub returns : goal.returns
returns c =
    let some : 0 < length c.args.run.now = grind (arith, nat_tests) in
    let whole : length c.args.found.now % length c.args.run.now ≡ 0 = omega (arith, c.if-found-run-ne0.false) in
    let told = c.telling-telling in
    same_tells c.args.run.now c.args.found.now c.args.rhythm.fixed c.args.rhythm.run told.result c.eq.result some whole c.requires (sym c.if-not-begins.ensures.begins) told.ensures.long told.ensures.few told.ensures.enough
    (slice_eq-Decides Decides-eqb _ _ _ c.eq.ensures)
