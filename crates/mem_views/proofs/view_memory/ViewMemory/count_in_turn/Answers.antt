use Rattle.std.proofs.Common.{◌≡◌, sym, ap, length, List, ℕ, arith}
use Rattle.mem_axioms.specs.Objects.{initial_of}
use Rattle.mem_views.specs.Differing.{differs_from}
use Rattle.mem_views.proofs.Reading.{below-floor}
use Rattle.mem_views.proofs.Counted.{one_if, one-further}
use Rattle.mem_views.proofs.view_memory.ViewMemory.count_in_turn.Goals.{then-differs, else-differs}
use Rattle.mem_views.proofs.view_memory.ViewMemory.count_in_turn.Goals as goal

pub loop-position-init : goal.loop-position-init
loop-position-init g c =
    let memory = c.args.self.now in
    let none = ap (λ (positions : List ℕ). length positions) (below-floor (initial_of memory.objects.values) memory.tape.events c.args.others.cell c.args.others.floor c.args.others.scalar) in
    record { counted = sym none; few = omega arith; cost = omega arith }

pub loop-position-preserved : goal.loop-position-preserved
loop-position-preserved g c =
    let memory = c.args.self.now in
    let test = differs_from (initial_of memory.objects.values) memory.tape.events c.args.others.cell c.args.others.floor c.args.others.scalar in
    let i = c.loop-position.invariant in
    let from = c.loop-position.auto.position in
    let more = one-further test c.loop-position.position c.differs.result c.differs.ensures.differs in
    let look = c.differs.ensures.cost in
    elim c.if-differs.branch [
      | then-differs w ↦ (let one : one_if c.differs.result ≡ 1 = ap one_if w.if-differs.true in let count = w.count-is in
          record { counted = omega (arith, more, one, i.counted, count); few = omega (arith, i.few, count); cost = omega (arith, i.cost, look, from) })
      | else-differs w ↦ (let none : one_if c.differs.result ≡ 0 = ap one_if w.if-differs.false in let count = w.count-is in
          record { counted = omega (arith, more, none, i.counted, count); few = omega (arith, i.few, count); cost = omega (arith, i.cost, look, from) })
    ]
