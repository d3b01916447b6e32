use Rattle.std.proofs.Common.{◌≡◌, ◌+◌, [], List, ℕ, length, refl, sym, ap, subst, ◌∙◌, arith}
use Rattle.hail_load.specs.declared.fills.Fill.{Fill}
use Rattle.hail_load.specs.Fills.{made, uncovered, AreSteps, Walked, Given}
use Rattle.hail_load.specs.Gathered.{scalars_in}
use Rattle.hail_load.proofs.Making.{no_fills}
use Rattle.hail_load.proofs.Settling.{Settling, settling_none, settled, settling_more, fewer_uncovered, popped, popped_fits, popped_row, row_is, row_uncovered}
use Rattle.hail_load.proofs.fills.Fills.settle.Goals as goal

pub each-init : goal.each-init
each-init c = record {
  settling = settling_none c.args.heap.now.objects c.args.self.fills.items c.args.self.rows.items c.requires.whole c.requires.fits c.requires.rows c.requires.none;
  left = refl;
  room = omega (arith, c.requires.cells, c.requires.room);
}

pub index_mut-requires : goal.index_mut-requires
index_mut-requires c =
    let has = popped_row (made c.args.heap.now.objects c.args.self.fills.items) c.each.heap.objects c.each.fills.items c.pop.new.self.items c.in-Some.fill c.each.rows.items c.in-Some.ensures.items c.each.invariant.settling in
    grind (arith, has.there)

pub settle-requires-clause-fits : goal.settle-requires-clause-fits
settle-requires-clause-fits c = popped_fits (made c.args.heap.now.objects c.args.self.fills.items) c.each.heap.objects c.each.fills.items c.pop.new.self.items c.in-Some.fill c.each.rows.items c.in-Some.ensures.items c.each.invariant.settling

pub settle-requires-clause-row : goal.settle-requires-clause-row
settle-requires-clause-row c =
    let has = popped_row (made c.args.heap.now.objects c.args.self.fills.items) c.each.heap.objects c.each.fills.items c.pop.new.self.items c.in-Some.fill c.each.rows.items c.in-Some.ensures.items c.each.invariant.settling in
    let long = ap (λ (xs : List ℕ). length xs) (row_is c.each.rows.items c.in-Some.fill.object c.index_mut.result.now has.there c.index_mut.ensures.value) in
    omega (arith, has.cells, long)

pub settle-requires-clause-room : goal.settle-requires-clause-room
settle-requires-clause-room c =
    let has = popped_row (made c.args.heap.now.objects c.args.self.fills.items) c.each.heap.objects c.each.fills.items c.pop.new.self.items c.in-Some.fill c.each.rows.items c.in-Some.ensures.items c.each.invariant.settling in
    let same = ap (λ (xs : List ℕ). uncovered xs) (row_is c.each.rows.items c.in-Some.fill.object c.index_mut.result.now has.there c.index_mut.ensures.value) in
    omega (arith, same, row_uncovered c.each.rows.items c.in-Some.fill.object has.there, c.each.invariant.room)

pub settle-requires-clause-steps : goal.settle-requires-clause-steps
settle-requires-clause-steps c =
    let has = popped_row (made c.args.heap.now.objects c.args.self.fills.items) c.each.heap.objects c.each.fills.items c.pop.new.self.items c.in-Some.fill c.each.rows.items c.in-Some.ensures.items c.each.invariant.settling in
    subst (λ (xs : List ℕ). AreSteps xs) (sym (row_is c.each.rows.items c.in-Some.fill.object c.index_mut.result.now has.there c.index_mut.ensures.value)) (c.each.invariant.settling.steps c.in-Some.fill.object)

pub each-preserved : goal.each-preserved
each-preserved c =
    let wanted = made c.args.heap.now.objects c.args.self.fills.items in
    let os = c.each.heap.objects in
    let rows = c.each.rows.items in
    let f = c.in-Some.fill in
    let ss = scalars_in f.scalars in
    let end = f.at + length ss in
    let all = popped wanted os c.each.fills.items c.pop.new.self.items f rows c.in-Some.ensures.items c.each.invariant.settling in
    let has = popped_row wanted os c.each.fills.items c.pop.new.self.items f rows c.in-Some.ensures.items c.each.invariant.settling in
    let row = row_is rows f.object c.index_mut.result.now has.there c.index_mut.ensures.value in
    let walked = subst (λ (xs : List ℕ). Walked xs c.settle.new.self f.at end end) row c.settle.ensures.row in
    let given = subst (λ (xs : List ℕ). Given os c.settle.new.heap.objects xs f.object f.at end ss) row c.settle.ensures.given in
    let same = ap (λ (xs : List ℕ). uncovered xs) row in
    let put = fewer_uncovered rows f.object c.settle.new.self has.there in
    record {
      settling = settling_more wanted os c.settle.new.heap.objects c.pop.new.self.items f rows c.settle.new.self all walked given;
      left = c.settle.ensures.left ∙ c.each.invariant.left;
      room = omega (arith, put, same, c.settle.ensures.room, c.each.invariant.room);
    }

pub returns-clause-objects : goal.returns-clause-objects
returns-clause-objects c =
    let wanted = made c.args.heap.now.objects c.args.self.fills.items in
    let none : c.each.fills.items ≡ [] = no_fills c.each.fills.items (omega (arith, c.in_default.ensures.cases.0)) in
    settled wanted c.each.heap.objects c.each.rows.items (subst (λ (fs : List Fill). Settling wanted c.each.heap.objects fs c.each.rows.items) none c.each.invariant.settling)
