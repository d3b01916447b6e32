use Rattle.std.proofs.Common.{◌∙◌, sym, ap, slice_get, Some, List, ℕ, ◌-◌, arith}
use Rattle.mem_axioms.specs.Objects.{initial_of}
use Rattle.mem_views.proofs.Reading.{floor-low, options-count, reads-count, reads-nth, reads-differing}
use Rattle.mem_views.proofs.view_memory.ViewMemory.nth_read.Goals as goal

pub overflow_sub-result : goal.overflow_sub-result
overflow_sub-result g c =
    let memory = c.args.self.now in
    let count = reads-count memory.rule (initial_of memory.objects.values) memory.tape.events c.args.read.thread c.args.read.cell c.args.read.order memory.log_holds.sound.axioms in
    let n = rw c.in-None.is at c.requires.n in
    let newest = c.newest-newest.ensures.newest in
    omega (arith, count, n, newest)

pub nth_differing-requires-clause-floor : goal.nth_differing-requires-clause-floor
nth_differing-requires-clause-floor g c =
    let memory = c.args.self.now in
    let low = floor-low memory.rule (initial_of memory.objects.values) memory.tape.events c.args.read.thread c.args.read.cell c.args.read.order memory.log_holds.sound.axioms in
    let floor = c.floor-floor.ensures.floor in
    let newest = c.newest-newest.ensures.newest in
    omega (arith, low, floor, newest)

pub nth_differing-requires-clause-n : goal.nth_differing-requires-clause-n
nth_differing-requires-clause-n g c =
    let memory = c.args.self.now in
    let all = reads-differing memory.rule (initial_of memory.objects.values) memory.tape.events c.args.read.thread c.args.read.cell c.args.read.order memory.log_holds.sound.axioms c.in-Some.scalar in
    let n = rw c.in-Some.is at c.requires.n in
    let m = rw all at n in
    rw (c.floor-floor.ensures.floor, c.newest-newest.ensures.newest) m

pub returns-in-None-clause-nth : goal.returns-in-None-clause-nth
returns-in-None-clause-nth g c =
    let memory = c.args.self.now in
    let nth = reads-nth memory.rule (initial_of memory.objects.values) memory.tape.events c.args.read.thread c.args.read.cell c.args.read.order memory.log_holds.sound.axioms c.args.n (rw c.in-None.is at c.requires.n) in
    rw c.in-None.is (nth ∙ ap (λ (newest : ℕ). Some (newest - c.args.n)) (sym c.newest-newest.ensures.newest))

pub returns-in-Some-clause-nth : goal.returns-in-Some-clause-nth
returns-in-Some-clause-nth g c =
    let memory = c.args.self.now in
    let all = reads-differing memory.rule (initial_of memory.objects.values) memory.tape.events c.args.read.thread c.args.read.cell c.args.read.order memory.log_holds.sound.axioms c.in-Some.scalar in
    rw c.in-Some.is (ap (λ (positions : List ℕ). slice_get positions c.args.n) all ∙ (rw (c.floor-floor.ensures.floor, c.newest-newest.ensures.newest) at c.nth_differing.ensures.nth))

pub returns-in-Some-clause-cost : goal.returns-in-Some-clause-cost
returns-in-Some-clause-cost g c d l =
    let memory = c.args.self.now in
    let floor = c.floor-floor.ensures.floor in
    let newest = c.newest-newest.ensures.newest in
    let first = c.floor-floor.ensures.cost d l in
    let rest = c.nth_differing.ensures.cost d l in
    let count = options-count memory.rule (initial_of memory.objects.values) memory.tape.events c.args.read.thread c.args.read.cell c.args.read.order memory.log_holds.sound.axioms in
    rw c.in-Some.is (omega (arith, first, rest, floor, newest, count))
