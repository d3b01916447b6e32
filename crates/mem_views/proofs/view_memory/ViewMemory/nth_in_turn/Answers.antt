use Rattle.std.proofs.Common.{◌≡◌, ◌∙◌, ◌+◌, ◌-◌, sym, ap, length, List, ℕ, arith}
use Rattle.mem_axioms.specs.Objects.{initial_of}
use Rattle.mem_axioms.specs.Reads.{below}
use Rattle.mem_views.specs.Differing.{differs_from}
use Rattle.mem_views.proofs.Reading.{below-floor}
use Rattle.mem_views.proofs.Counted.{one_if, one-older, nth-passing}
use Rattle.mem_views.proofs.view_memory.ViewMemory.nth_in_turn.Goals.{then-differs+else-newer-n, else-differs}
use Rattle.mem_views.proofs.view_memory.ViewMemory.nth_in_turn.Goals as goal

pub returns-then-newer-n-clause-nth : goal.returns-then-newer-n-clause-nth
returns-then-newer-n-clause-nth g c =
    let memory = c.args.self.now in
    let test = differs_from (initial_of memory.objects.values) memory.tape.events c.args.others.cell c.args.others.floor c.args.others.scalar in
    let i = c.loop-index.invariant in
    let t = c.loop-index-test.true in
    let older = one-older test c.args.last c.loop-index.index c.differs.result (omega (arith, t)) c.differs.ensures.differs in
    let one : one_if c.differs.result ≡ 1 = ap one_if c.if-differs.true in
    let n = c.if-newer-n.true in
    nth-passing test (c.args.last + 1) c.args.n (c.args.last - c.loop-index.index) (omega (arith, t)) (sym c.differs.ensures.differs ∙ c.if-differs.true) (omega (arith, older, one, n, i.counted))

pub loop-index-preserved : goal.loop-index-preserved
loop-index-preserved g c =
    let memory = c.args.self.now in
    let test = differs_from (initial_of memory.objects.values) memory.tape.events c.args.others.cell c.args.others.floor c.args.others.scalar in
    let i = c.loop-index.invariant in
    let t = c.loop-index-test.true in
    let older = one-older test c.args.last c.loop-index.index c.differs.result (omega (arith, t)) c.differs.ensures.differs in
    let next : c.args.last + 1 - (c.loop-index.index + 1) ≡ c.args.last - c.loop-index.index = omega (arith, t) in
    let there = ap (λ (k : ℕ). length (below test k)) next in
    let look = c.differs.ensures.cost in
    elim c.if-differs.branch [
      | then-differs+else-newer-n w ↦ (let one : one_if c.differs.result ≡ 1 = ap one_if w.if-differs.true in let newer = w.newer-is in let n = w.if-newer-n.false in
          record { counted = omega (arith, older, one, there, i.counted, newer); few = omega (arith, i.few, newer, n); cost = omega (arith, i.cost, look) })
      | else-differs w ↦ (let none : one_if c.differs.result ≡ 0 = ap one_if w.if-differs.false in let newer = w.newer-is in
          record { counted = omega (arith, older, none, there, i.counted, newer); few = omega (arith, i.few, newer); cost = omega (arith, i.cost, look) })
    ]

pub unreachable-requires : goal.unreachable-requires
unreachable-requires g c =
    let memory = c.args.self.now in
    let test = differs_from (initial_of memory.objects.values) memory.tape.events c.args.others.cell c.args.others.floor c.args.others.scalar in
    let i = c.loop-index.invariant in
    let t = c.loop-index-test.false in
    let e = c.loop-index.auto.index-end in
    let f = c.requires.floor in
    let n = c.requires.n in
    let end : c.args.last + 1 - c.loop-index.index ≡ c.args.others.floor = omega (arith, t, e, f) in
    let there = ap (λ (k : ℕ). length (below test k)) end in
    let none = ap (λ (positions : List ℕ). length positions) (below-floor (initial_of memory.objects.values) memory.tape.events c.args.others.cell c.args.others.floor c.args.others.scalar) in
    omega (arith, there, none, n, i.counted, i.few)
