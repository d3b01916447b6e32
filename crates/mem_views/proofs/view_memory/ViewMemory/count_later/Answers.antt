use Rattle.std.proofs.Common.{◌≡◌, suc, arith}
use Rattle.view_parts.specs.Lemmas.ValuesKept.{untouched-newest, history-newest, newest-few}
use Rattle.mem_views.proofs.view_memory.ViewMemory.count_later.Goals as goal

pub count_others-requires-clause-end : goal.count_others-requires-clause-end
count_others-requires-clause-end g c =
    let n = history-newest c.args.self.now.rule c.args.self.now.tape.events c.args.cell c.in-Some.kept.now (rw c.in-Some.is at c.requires.kept) in
    let e = c.requires.end in
    omega (arith, n, e)

pub returns-in-Some-clause-count : goal.returns-in-Some-clause-count
returns-in-Some-clause-count g c = rw (rw c.in-Some.is at c.requires.kept).values at c.count_others.ensures.count

pub returns-in-Some-clause-cost : goal.returns-in-Some-clause-cost
returns-in-Some-clause-cost g c d l =
    let n = history-newest c.args.self.now.rule c.args.self.now.tape.events c.args.cell c.in-Some.kept.now (rw c.in-Some.is at c.requires.kept) in
    let f = newest-few c.args.self.now.tape.events c.args.cell in
    let cost = c.count_others.ensures.cost (suc d) (omega (arith, n, f, l)) in
    omega (arith, cost)

pub returns-in-None-clause-count : goal.returns-in-None-clause-count
returns-in-None-clause-count g c =
    let z = untouched-newest c.args.self.now.tape.events c.args.cell (rw c.in-None.is at c.requires.kept) in
    let r = c.requires in
    let same : c.args.end ≡ c.args.from = omega (arith, z, r.later, r.from, r.end) in
    rw same (omega arith)
