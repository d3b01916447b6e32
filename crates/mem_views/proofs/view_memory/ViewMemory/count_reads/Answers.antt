use Rattle.std.proofs.Common.{◌∙◌, sym, ap, length, List, ℕ, arith}
use Rattle.mem_axioms.specs.Objects.{initial_of}
use Rattle.mem_views.proofs.Reading.{floor-low, options-count, reads-count, reads-differing}
use Rattle.mem_views.proofs.view_memory.ViewMemory.count_reads.Goals as goal

pub overflow_sub-result : goal.overflow_sub-result
overflow_sub-result g c =
    let memory = c.args.self.now in
    let low = floor-low memory.rule (initial_of memory.objects.values) memory.tape.events c.args.read.thread c.args.read.cell c.args.read.order memory.log_holds.sound.axioms in
    let floor = c.floor-floor.ensures.floor in
    let newest = c.newest-newest.ensures.newest in
    omega (arith, low, floor, newest)

pub count_others-requires-clause-floor : goal.count_others-requires-clause-floor
count_others-requires-clause-floor g c =
    let memory = c.args.self.now in
    let low = floor-low memory.rule (initial_of memory.objects.values) memory.tape.events c.args.read.thread c.args.read.cell c.args.read.order memory.log_holds.sound.axioms in
    let floor = c.floor-floor.ensures.floor in
    let newest = c.newest-newest.ensures.newest in
    omega (arith, low, floor, newest)

pub returns-in-None-clause-count : goal.returns-in-None-clause-count
returns-in-None-clause-count g c =
    let memory = c.args.self.now in
    let initial = initial_of memory.objects.values in
    let low = floor-low memory.rule initial memory.tape.events c.args.read.thread c.args.read.cell c.args.read.order memory.log_holds.sound.axioms in
    let count = reads-count memory.rule initial memory.tape.events c.args.read.thread c.args.read.cell c.args.read.order memory.log_holds.sound.axioms in
    let floor = c.floor-floor.ensures.floor in
    let newest = c.newest-newest.ensures.newest in
    rw c.in-None.is (omega (arith, low, count, floor, newest))

pub returns-in-Some-clause-count : goal.returns-in-Some-clause-count
returns-in-Some-clause-count g c =
    let memory = c.args.self.now in
    let initial = initial_of memory.objects.values in
    rw c.in-Some.is ((rw (c.floor-floor.ensures.floor, c.newest-newest.ensures.newest) at c.count_others.ensures.count)
    ∙ sym (ap (λ (positions : List ℕ). length positions) (reads-differing memory.rule initial memory.tape.events c.args.read.thread c.args.read.cell c.args.read.order memory.log_holds.sound.axioms c.in-Some.scalar)))

pub returns-in-Some-clause-cost : goal.returns-in-Some-clause-cost
returns-in-Some-clause-cost g c d l =
    let memory = c.args.self.now in
    let floor = c.floor-floor.ensures.floor in
    let newest = c.newest-newest.ensures.newest in
    let first = c.floor-floor.ensures.cost d l in
    let rest = c.count_others.ensures.cost d l in
    let count = options-count memory.rule (initial_of memory.objects.values) memory.tape.events c.args.read.thread c.args.read.cell c.args.read.order memory.log_holds.sound.axioms in
    rw c.in-Some.is (omega (arith, first, rest, floor, newest, count))
