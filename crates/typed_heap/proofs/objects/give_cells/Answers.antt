use Rattle.std.proofs.Common.{◌≡◌, ℕ, ◌+◌, ◌<◌, List, length, map, drop, ap, ◌∙◌, add-zero, arith}
use Rattle.std.proofs.lemmas.List.{length-map}
use Rattle.mu_values.specs.declared.scalars.Scalar.{Scalar}
use Rattle.typed_heap.specs.Objects.{replaced}
use Rattle.typed_heap.specs.Rows.{initial_of}
use Rattle.typed_heap.specs.Lemmas.Filled.{range_is_one, replaced_next, replaced_end}
use Rattle.typed_heap.proofs.objects.give_cells.Goals as goal

pub loop-i-init : goal.loop-i-init
loop-i-init c = record {
  begins = ap (λ (k : ℕ). replaced (map (initial_of c.args.given.now.items) c.args.initials.now) k c.args.scalars.now) (add-zero c.args.from);
  own = c.requires.own;
  room = omega arith;
}

pub loop-i-preserved : goal.loop-i-preserved
loop-i-preserved c =
    let old = map (initial_of c.loop-i.given.items) c.loop-i.initials in
    let within : c.args.from + c.loop-i.i < length old = omega (arith, length-map c.loop-i.initials (initial_of c.loop-i.given.items), c.requires.cells) in
    record {
      begins = ap (λ (xs : List Scalar). replaced xs (c.args.from + (c.loop-i.i + 1)) (drop (c.loop-i.i + 1) c.args.scalars.now)) c.give_cell.ensures.begins
          ∙ replaced_next old c.args.from c.loop-i.i c.args.scalars.now (omega arith) within
          ∙ c.loop-i.invariant.begins;
      own = c.give_cell.ensures.own;
      room = omega (arith, c.loop-i.invariant.room, c.give_cell.ensures.room);
    }

pub returns-clause-begins : goal.returns-clause-begins
returns-clause-begins c = replaced_end (map (initial_of c.loop-i.given.items) c.loop-i.initials) _ (c.args.from + c.loop-i.i) c.loop-i.i c.args.scalars.now (omega arith) c.loop-i.invariant.begins

pub give_cell-requires-clause-one : goal.give_cell-requires-clause-one
give_cell-requires-clause-one c = range_is_one c.args.scalars.now c.loop-i.i (omega arith)
