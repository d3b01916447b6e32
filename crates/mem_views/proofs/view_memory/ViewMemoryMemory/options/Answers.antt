use Rattle.std.proofs.Common.{◌∙◌, ◌+◌, sym, ap, length, ℕ, Option, arith}
use Rattle.mu_values.specs.declared.scalars.Scalar.{Scalar}
use Rattle.mem_axioms.specs.Objects.{initial_of}
use Rattle.mem_axioms.specs.Choices.{options}
use Rattle.mem_axioms.specs.Reads.{reads, excluded_by}
use Rattle.mem_axioms.specs.Lemmas.Offers.{count-load, count-swap, count-success, count-failure, some-load, some-compare}
use Rattle.mem_views.specs.Differing.{looks_bound}
use Rattle.mem_views.proofs.Budget.{looks-within, reads-within}
use Rattle.mem_views.proofs.view_memory.ViewMemoryMemory.options.Goals as goal

pub returns-in-Load-clause-count : goal.returns-in-Load-clause-count
returns-in-Load-clause-count g c =
    let memory = c.args.self.now in
    rw c.in-Load.is (c.count_reads.ensures.count ∙ count-load memory.rule (initial_of memory.objects.values) (memory.tape.events) c.args.thread c.args.cell c.in-Load.order)

pub returns-in-Load-clause-some : goal.returns-in-Load-clause-some
returns-in-Load-clause-some g c =
    let memory = c.args.self.now in
    let some = some-load memory.rule (initial_of memory.objects.values) (memory.tape.events) c.args.thread c.args.cell memory.log_holds.sound.axioms c.in-Load.order in
    let count = c.count_reads.ensures.count in
    omega (arith, some, count)

pub returns-in-Swap-clause-count : goal.returns-in-Swap-clause-count
returns-in-Swap-clause-count g c =
    let memory = c.args.self.now in
    rw c.in-Swap.is (count-swap memory.rule (initial_of memory.objects.values) (memory.tape.events) c.args.thread c.args.cell)

pub returns-then-may_succeed-clause-count : goal.returns-then-may_succeed-clause-count
returns-then-may_succeed-clause-count g c =
    let memory = c.args.self.now in
    let log = memory.tape.events in
    let initial = initial_of memory.objects.values in
    let count = c.count_reads-failures.ensures.count ∙ ap (λ (excluded : Option Scalar). length (reads memory.rule initial log c.args.thread c.args.cell c.in-Compare.failure excluded)) c.excluded.ensures in
    rw c.in-Compare.is (ap (λ (n : ℕ). n + 1) count ∙ count-success memory.rule initial log c.args.thread c.args.cell c.in-Compare.success c.in-Compare.failure c.in-Compare.expected c.in-Compare.weak (sym c.may_succeed.ensures.may ∙ c.if-may_succeed.true))

pub returns-else-may_succeed-clause-count : goal.returns-else-may_succeed-clause-count
returns-else-may_succeed-clause-count g c =
    let memory = c.args.self.now in
    let log = memory.tape.events in
    let initial = initial_of memory.objects.values in
    let count = c.count_reads-failures.ensures.count ∙ ap (λ (excluded : Option Scalar). length (reads memory.rule initial log c.args.thread c.args.cell c.in-Compare.failure excluded)) c.excluded.ensures in
    rw c.in-Compare.is (count ∙ count-failure memory.rule initial log c.args.thread c.args.cell c.in-Compare.success c.in-Compare.failure c.in-Compare.expected c.in-Compare.weak (sym c.may_succeed.ensures.may ∙ c.if-may_succeed.false))

pub returns-else-may_succeed-clause-some : goal.returns-else-may_succeed-clause-some
returns-else-may_succeed-clause-some g c =
    let memory = c.args.self.now in
    let log = memory.tape.events in
    let initial = initial_of memory.objects.values in
    let count = c.count_reads-failures.ensures.count ∙ ap (λ (excluded : Option Scalar). length (reads memory.rule initial log c.args.thread c.args.cell c.in-Compare.failure excluded)) c.excluded.ensures in
    let some = some-compare memory.rule initial log c.args.thread c.args.cell memory.log_holds.sound.axioms c.in-Compare.failure c.in-Compare.expected c.in-Compare.weak (sym c.may_succeed.ensures.may ∙ c.if-may_succeed.false) in
    omega (arith, some, count)

pub returns-in-Load-clause-cost : goal.returns-in-Load-clause-cost
returns-in-Load-clause-cost g c d l =
    let log = c.args.self.now.tape.events in
    let steps = c.count_reads.ensures.cost d l in
    let w = reads-within log d 0 0 (omega arith) in
    rw c.in-Load.is (let b = w.0 in omega (arith, steps, b))

pub returns-in-Load-clause-cost_of_many : goal.returns-in-Load-clause-cost_of_many
returns-in-Load-clause-cost_of_many g c d l =
    let log = c.args.self.now.tape.events in
    let steps = c.count_reads.ensures.cost d l in
    let w = reads-within log d 0 0 (omega arith) in
    let b = w.1 in omega (arith, steps, b)

pub returns-in-Swap-clause-cost : goal.returns-in-Swap-clause-cost
returns-in-Swap-clause-cost g c d l =
    let log = c.args.self.now.tape.events in
    let w = reads-within log d 0 0 (omega arith) in
    rw c.in-Swap.is (let b = w.0 in omega (arith, b))

pub returns-in-Swap-clause-cost_of_many : goal.returns-in-Swap-clause-cost_of_many
returns-in-Swap-clause-cost_of_many g c d l =
    let log = c.args.self.now.tape.events in
    let w = reads-within log d 0 0 (omega arith) in
    let b = w.1 in omega (arith, b)

pub returns-then-may_succeed-clause-cost : goal.returns-then-may_succeed-clause-cost
returns-then-may_succeed-clause-cost g c d l =
    let log = c.args.self.now.tape.events in
    let positions = length (options c.args.self.now.rule (initial_of c.args.self.now.objects.values) c.args.self.now.tape.events c.args.thread c.args.cell c.in-Compare.failure) in
    let steps = rw c.excluded.ensures at (c.count_reads-failures.ensures.cost d l) in
    let test = c.may_succeed.ensures.cost in
    let w = reads-within log d positions (looks_bound d positions (excluded_by c.in-Compare.weak c.in-Compare.expected)) (looks-within d positions c.in-Compare.weak c.in-Compare.expected) in
    rw c.in-Compare.is (let b = w.0 in omega (arith, steps, test, b))

pub returns-then-may_succeed-clause-cost_of_many : goal.returns-then-may_succeed-clause-cost_of_many
returns-then-may_succeed-clause-cost_of_many g c d l =
    let log = c.args.self.now.tape.events in
    let positions = length (options c.args.self.now.rule (initial_of c.args.self.now.objects.values) c.args.self.now.tape.events c.args.thread c.args.cell c.in-Compare.failure) in
    let steps = rw c.excluded.ensures at (c.count_reads-failures.ensures.cost d l) in
    let test = c.may_succeed.ensures.cost in
    let w = reads-within log d positions (looks_bound d positions (excluded_by c.in-Compare.weak c.in-Compare.expected)) (looks-within d positions c.in-Compare.weak c.in-Compare.expected) in
    let b = w.1 in omega (arith, steps, test, b)

pub returns-else-may_succeed-clause-cost : goal.returns-else-may_succeed-clause-cost
returns-else-may_succeed-clause-cost g c d l =
    let log = c.args.self.now.tape.events in
    let positions = length (options c.args.self.now.rule (initial_of c.args.self.now.objects.values) c.args.self.now.tape.events c.args.thread c.args.cell c.in-Compare.failure) in
    let steps = rw c.excluded.ensures at (c.count_reads-failures.ensures.cost d l) in
    let test = c.may_succeed.ensures.cost in
    let w = reads-within log d positions (looks_bound d positions (excluded_by c.in-Compare.weak c.in-Compare.expected)) (looks-within d positions c.in-Compare.weak c.in-Compare.expected) in
    rw c.in-Compare.is (let b = w.0 in omega (arith, steps, test, b))

pub returns-else-may_succeed-clause-cost_of_many : goal.returns-else-may_succeed-clause-cost_of_many
returns-else-may_succeed-clause-cost_of_many g c d l =
    let log = c.args.self.now.tape.events in
    let positions = length (options c.args.self.now.rule (initial_of c.args.self.now.objects.values) c.args.self.now.tape.events c.args.thread c.args.cell c.in-Compare.failure) in
    let steps = rw c.excluded.ensures at (c.count_reads-failures.ensures.cost d l) in
    let test = c.may_succeed.ensures.cost in
    let w = reads-within log d positions (looks_bound d positions (excluded_by c.in-Compare.weak c.in-Compare.expected)) (looks-within d positions c.in-Compare.weak c.in-Compare.expected) in
    let b = w.1 in omega (arith, steps, test, b)
