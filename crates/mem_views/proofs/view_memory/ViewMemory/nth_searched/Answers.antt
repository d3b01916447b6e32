use Rattle.std.proofs.Common.{◌≡◌, ◌∙◌, ◌+◌, ◌-◌, suc, ap, take, ℕ, arith}
use Rattle.mem_axioms.specs.Logs.{newest}
use Rattle.mem_axioms.specs.Objects.{initial_of}
use Rattle.write_history.specs.Occurrences.{occurrences}
use Rattle.mem_views.specs.Differing.{differs_from}
use Rattle.view_parts.specs.Holding.{values_of}
use Rattle.view_parts.specs.Lemmas.FloorFound.{form-of}
use Rattle.view_parts.specs.Lemmas.ValuesKept.{untouched-newest, history-newest, newest-few}
use Rattle.mem_views.proofs.Counted.{below-few}
use Rattle.mem_views.proofs.OthersFound.{nth-only, count-few, count-all, nth-later, nth-first}
use Rattle.mem_views.proofs.view_memory.ViewMemory.nth_searched.Goals as goal

pub returns-in_default-clause-nth : goal.returns-in_default-clause-nth
returns-in_default-clause-nth g c =
    let memory = c.args.self.now in
    let test = differs_from (initial_of memory.objects.values) memory.tape.events c.args.others.cell c.args.others.floor c.args.others.scalar in
    nth-only test c.args.last c.args.n (c.requires.last ∙ untouched-newest memory.tape.events c.args.others.cell (rw c.in_default.is at c.requires.kept)) c.requires.n

pub overflow_add-n : goal.overflow_add-n
overflow_add-n g c =
    let memory = c.args.self.now in
    let test = differs_from (initial_of memory.objects.values) memory.tape.events c.args.others.cell c.args.others.floor c.args.others.scalar in
    let few = below-few test (c.args.last + 1) in
    let n = c.requires.n in
    let last = c.requires.few in
    let one = c.placeholder.ensures.at_most in
    omega (arith, few, n, last, one)

pub other_at-requires : goal.other_at-requires
other_at-requires g c =
    let values = c.in-Some.kept.now.history.values in
    let size = history-newest c.args.self.now.rule c.args.self.now.tape.events c.args.others.cell c.in-Some.kept.now (rw c.in-Some.is at c.requires.kept) in
    let last = c.requires.last in
    let all = count-all c.args.others.scalar values (c.args.last + 1) (omega (arith, size, last)) in
    let few = count-few c.args.others.scalar values (c.args.last + 1) in
    let same = c.count_below-same.ensures.count in
    let more = c.if-n-placeholder.true in
    omega (arith, size, last, all, few, same, more)

pub returns-then-n-placeholder-clause-nth : goal.returns-then-n-placeholder-clause-nth
returns-then-n-placeholder-clause-nth g c =
    let memory = c.args.self.now in
    let initial = initial_of memory.objects.values in
    let log = memory.tape.events in
    let cell = c.args.others.cell in
    let scalar = c.args.others.scalar in
    let form = form-of memory.rule initial log memory.log_holds.sound.axioms in
    let last = c.requires.last in
    let low = rw last at c.requires.floor in
    let n = rw last at c.requires.n in
    let few = count-few scalar (values_of log cell) (newest log cell + 1) in
    let at = ap (λ (k : ℕ). occurrences scalar (take (k + 1) (values_of log cell))) last in
    let same = rw (rw c.in-Some.is at c.requires.kept).values at c.count_below-same.ensures.count in
    let differing = c.args.last + 1 - c.count_below-same.result in
    let d : differing + occurrences scalar (take (newest log cell + 1) (values_of log cell)) ≡ newest log cell + 1 = omega (arith, same, at, few, last) in
    let m = rw c.placeholder.ensures.is at c.if-n-placeholder.true in
    let o = rw (rw c.in-Some.is at c.requires.kept).values at c.other_at.ensures.other in
    let found = nth-later initial log cell scalar form c.args.others.floor c.args.n low differing c.other_at.result d m n o in
    rw last found.0

pub returns-then-n-placeholder-clause-at_most : goal.returns-then-n-placeholder-clause-at_most
returns-then-n-placeholder-clause-at_most g c =
    let memory = c.args.self.now in
    let initial = initial_of memory.objects.values in
    let log = memory.tape.events in
    let cell = c.args.others.cell in
    let scalar = c.args.others.scalar in
    let form = form-of memory.rule initial log memory.log_holds.sound.axioms in
    let last = c.requires.last in
    let low = rw last at c.requires.floor in
    let n = rw last at c.requires.n in
    let few = count-few scalar (values_of log cell) (newest log cell + 1) in
    let at = ap (λ (k : ℕ). occurrences scalar (take (k + 1) (values_of log cell))) last in
    let same = rw (rw c.in-Some.is at c.requires.kept).values at c.count_below-same.ensures.count in
    let differing = c.args.last + 1 - c.count_below-same.result in
    let d : differing + occurrences scalar (take (newest log cell + 1) (values_of log cell)) ≡ newest log cell + 1 = omega (arith, same, at, few, last) in
    let m = rw c.placeholder.ensures.is at c.if-n-placeholder.true in
    let o = rw (rw c.in-Some.is at c.requires.kept).values at c.other_at.ensures.other in
    let found = nth-later initial log cell scalar form c.args.others.floor c.args.n low differing c.other_at.result d m n o in
    rw last found.1

pub returns-then-n-placeholder-clause-cost : goal.returns-then-n-placeholder-clause-cost
returns-then-n-placeholder-clause-cost g c d l =
    let size = history-newest c.args.self.now.rule c.args.self.now.tape.events c.args.others.cell c.in-Some.kept.now (rw c.in-Some.is at c.requires.kept) in
    let few = newest-few c.args.self.now.tape.events c.args.others.cell in
    let first = c.count_below-same.ensures.cost (suc d) (omega (arith, size, few, l)) in
    let second = c.other_at.ensures.cost (suc d) (omega (arith, size, few, l)) in
    omega (arith, first, second)

pub returns-clause-nth : goal.returns-clause-nth
returns-clause-nth g c =
    let memory = c.args.self.now in
    let initial = initial_of memory.objects.values in
    let log = memory.tape.events in
    let cell = c.args.others.cell in
    let scalar = c.args.others.scalar in
    let form = form-of memory.rule initial log memory.log_holds.sound.axioms in
    let last = c.requires.last in
    let low = rw last at c.requires.floor in
    let n = rw last at c.requires.n in
    let few = count-few scalar (values_of log cell) (newest log cell + 1) in
    let at = ap (λ (k : ℕ). occurrences scalar (take (k + 1) (values_of log cell))) last in
    let same = rw (rw c.in-Some.is at c.requires.kept).values at c.count_below-same.ensures.count in
    let differing = c.args.last + 1 - c.count_below-same.result in
    let d : differing + occurrences scalar (take (newest log cell + 1) (values_of log cell)) ≡ newest log cell + 1 = omega (arith, same, at, few, last) in
    let m = rw c.placeholder.ensures.is at c.if-n-placeholder.false in
    rw last (nth-first initial log cell scalar form c.args.others.floor c.args.n low differing d m n)

pub returns-clause-cost : goal.returns-clause-cost
returns-clause-cost g c d l =
    let size = history-newest c.args.self.now.rule c.args.self.now.tape.events c.args.others.cell c.in-Some.kept.now (rw c.in-Some.is at c.requires.kept) in
    let few = newest-few c.args.self.now.tape.events c.args.others.cell in
    let first = c.count_below-same.ensures.cost (suc d) (omega (arith, size, few, l)) in
    omega (arith, first)
