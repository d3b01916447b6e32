use Rattle.std.proofs.Common.{◌≡◌, ◌∙◌, ◌-◌, sym, ap, map, length, slice_get, List, Option, Some, false, arith}
use Rattle.mu_values.specs.declared.scalars.Scalar.{Scalar}
use Rattle.mem_axioms.specs.Objects.{initial_of}
use Rattle.mem_axioms.specs.Choices.{chosen_at, options}
use Rattle.mem_axioms.specs.Reads.{reads, excluded_by}
use Rattle.mem_axioms.specs.declared.types.Chosen.{Chosen}
use Rattle.mem_axioms.specs.Lemmas.Offers.{choices-load, choices-swap, count-load, count-swap, count-success, count-failure, nth-success, nth-after, nth-failure}
use Rattle.mem_views.specs.Differing.{looks_bound}
use Rattle.mem_views.proofs.Budget.{looks-within, reads-within}
use Rattle.mem_views.proofs.view_memory.ViewMemoryMemory.choose.Goals as goal

pub read_chosen-requires-clause-n : goal.read_chosen-requires-clause-n
read_chosen-requires-clause-n g c =
    let memory = c.args.self.now in
    let n = rw c.in-Load.is at c.requires.n in
    let count = count-load memory.rule (initial_of memory.objects.values) (memory.tape.events) c.args.thread c.args.cell c.in-Load.order in
    omega (arith, n, count)

pub returns-in-Load-clause-chosen : goal.returns-in-Load-clause-chosen
returns-in-Load-clause-chosen g c =
    let memory = c.args.self.now in
    rw c.in-Load.is (ap (λ (options : List Chosen). slice_get options c.args.n) (choices-load memory.rule (initial_of memory.objects.values) (memory.tape.events) c.args.thread c.args.cell c.in-Load.order) ∙ c.read_chosen.ensures.chosen)

pub returns-in-Swap-clause-chosen : goal.returns-in-Swap-clause-chosen
returns-in-Swap-clause-chosen g c =
    let memory = c.args.self.now in
    let log = memory.tape.events in
    let initial = initial_of memory.objects.values in
    let n = rw c.in-Swap.is at c.requires.n in
    let count = count-swap memory.rule initial log c.args.thread c.args.cell in
    let zero : c.args.n ≡ 0 = omega (arith, n, count) in
    rw (c.in-Swap.is, zero) (ap (λ (options : List Chosen). slice_get options 0) (choices-swap memory.rule initial log c.args.thread c.args.cell) ∙ ap Some (sym c.update_chosen.ensures.chosen))

pub read_chosen-requires-then-not-may_succeed-clause-n : goal.read_chosen-requires-then-not-may_succeed-clause-n
read_chosen-requires-then-not-may_succeed-clause-n g c =
    let memory = c.args.self.now in
    let n = rw c.in-Compare.is at c.requires.n in
    let fails = sym c.may_succeed.ensures.may ∙ c.if-not-may_succeed.true in
    let count = count-failure memory.rule (initial_of memory.objects.values) (memory.tape.events) c.args.thread c.args.cell c.in-Compare.success c.in-Compare.failure c.in-Compare.expected c.in-Compare.weak fails in
    rw c.excluded.ensures (omega (arith, n, count))

pub returns-then-not-may_succeed-clause-chosen : goal.returns-then-not-may_succeed-clause-chosen
returns-then-not-may_succeed-clause-chosen g c =
    let memory = c.args.self.now in
    let log = memory.tape.events in
    let initial = initial_of memory.objects.values in
    let fails = sym c.may_succeed.ensures.may ∙ c.if-not-may_succeed.true in
    rw c.in-Compare.is (nth-failure memory.rule initial log c.args.thread c.args.cell c.in-Compare.success c.in-Compare.failure c.in-Compare.expected c.in-Compare.weak c.args.n fails
    ∙ (ap (λ (excluded : Option Scalar). slice_get (map (chosen_at initial log c.args.cell false) (reads memory.rule initial log c.args.thread c.args.cell c.in-Compare.failure excluded)) c.args.n) (sym c.excluded.ensures) ∙ c.read_chosen-then-not-may_succeed.ensures.chosen))

pub returns-then-n-eq0-clause-chosen : goal.returns-then-n-eq0-clause-chosen
returns-then-n-eq0-clause-chosen g c =
    let memory = c.args.self.now in
    let succeeds = sym c.may_succeed.ensures.may ∙ c.if-not-may_succeed.false in
    rw (c.in-Compare.is, c.if-n-eq0.true)
    (nth-success memory.rule (initial_of memory.objects.values) (memory.tape.events) c.args.thread c.args.cell c.in-Compare.success c.in-Compare.failure c.in-Compare.expected c.in-Compare.weak succeeds ∙ ap Some (sym c.update_chosen-then-n-eq0.ensures.chosen))

pub read_chosen-requires-in-Compare-clause-n : goal.read_chosen-requires-in-Compare-clause-n
read_chosen-requires-in-Compare-clause-n g c =
    let memory = c.args.self.now in
    let n = rw c.in-Compare.is at c.requires.n in
    let succeeds = sym c.may_succeed.ensures.may ∙ c.if-not-may_succeed.false in
    let count = count-success memory.rule (initial_of memory.objects.values) (memory.tape.events) c.args.thread c.args.cell c.in-Compare.success c.in-Compare.failure c.in-Compare.expected c.in-Compare.weak succeeds in
    rw c.excluded.ensures (omega (arith, n, count))

pub returns-else-n-eq0-clause-chosen : goal.returns-else-n-eq0-clause-chosen
returns-else-n-eq0-clause-chosen g c =
    let memory = c.args.self.now in
    let log = memory.tape.events in
    let initial = initial_of memory.objects.values in
    let succeeds = sym c.may_succeed.ensures.may ∙ c.if-not-may_succeed.false in
    rw c.in-Compare.is (nth-after memory.rule initial log c.args.thread c.args.cell c.in-Compare.success c.in-Compare.failure c.in-Compare.expected c.in-Compare.weak c.args.n succeeds (omega arith)
    ∙ (ap (λ (excluded : Option Scalar). slice_get (map (chosen_at initial log c.args.cell false) (reads memory.rule initial log c.args.thread c.args.cell c.in-Compare.failure excluded)) (c.args.n - 1)) (sym c.excluded.ensures) ∙ c.read_chosen-in-Compare.ensures.chosen))

pub returns-in-Load-clause-cost : goal.returns-in-Load-clause-cost
returns-in-Load-clause-cost g c d l =
    let log = c.args.self.now.tape.events in
    let steps = c.read_chosen.ensures.cost d l in
    let w = reads-within log d 0 0 (omega arith) in
    rw c.in-Load.is (let b = w.0 in omega (arith, steps, b))

pub returns-in-Load-clause-cost_of_many : goal.returns-in-Load-clause-cost_of_many
returns-in-Load-clause-cost_of_many g c d l =
    let log = c.args.self.now.tape.events in
    let steps = c.read_chosen.ensures.cost d l in
    let w = reads-within log d 0 0 (omega arith) in
    let b = w.1 in omega (arith, steps, b)

pub returns-in-Swap-clause-cost : goal.returns-in-Swap-clause-cost
returns-in-Swap-clause-cost g c d l =
    let log = c.args.self.now.tape.events in
    let steps = c.update_chosen.ensures.cost in
    let w = reads-within log d 0 0 (omega arith) in
    rw c.in-Swap.is (let b = w.0 in omega (arith, b, steps))

pub returns-in-Swap-clause-cost_of_many : goal.returns-in-Swap-clause-cost_of_many
returns-in-Swap-clause-cost_of_many g c d l =
    let log = c.args.self.now.tape.events in
    let steps = c.update_chosen.ensures.cost in
    let w = reads-within log d 0 0 (omega arith) in
    let b = w.1 in omega (arith, b, steps)

pub returns-then-not-may_succeed-clause-cost : goal.returns-then-not-may_succeed-clause-cost
returns-then-not-may_succeed-clause-cost g c d l =
    let log = c.args.self.now.tape.events in
    let positions = length (options c.args.self.now.rule (initial_of c.args.self.now.objects.values) c.args.self.now.tape.events c.args.thread c.args.cell c.in-Compare.failure) in
    let steps = rw c.excluded.ensures at (c.read_chosen-then-not-may_succeed.ensures.cost d l) in
    let test = c.may_succeed.ensures.cost in
    let w = reads-within log d positions (looks_bound d positions (excluded_by c.in-Compare.weak c.in-Compare.expected)) (looks-within d positions c.in-Compare.weak c.in-Compare.expected) in
    rw c.in-Compare.is (let b = w.0 in omega (arith, steps, test, b))

pub returns-then-not-may_succeed-clause-cost_of_many : goal.returns-then-not-may_succeed-clause-cost_of_many
returns-then-not-may_succeed-clause-cost_of_many g c d l =
    let log = c.args.self.now.tape.events in
    let positions = length (options c.args.self.now.rule (initial_of c.args.self.now.objects.values) c.args.self.now.tape.events c.args.thread c.args.cell c.in-Compare.failure) in
    let steps = rw c.excluded.ensures at (c.read_chosen-then-not-may_succeed.ensures.cost d l) in
    let test = c.may_succeed.ensures.cost in
    let w = reads-within log d positions (looks_bound d positions (excluded_by c.in-Compare.weak c.in-Compare.expected)) (looks-within d positions c.in-Compare.weak c.in-Compare.expected) in
    let b = w.1 in omega (arith, steps, test, b)

pub returns-then-n-eq0-clause-cost : goal.returns-then-n-eq0-clause-cost
returns-then-n-eq0-clause-cost g c d l =
    let log = c.args.self.now.tape.events in
    let positions = length (options c.args.self.now.rule (initial_of c.args.self.now.objects.values) c.args.self.now.tape.events c.args.thread c.args.cell c.in-Compare.failure) in
    let test = c.may_succeed.ensures.cost in
    let steps = c.update_chosen-then-n-eq0.ensures.cost in
    let w = reads-within log d positions 0 (omega arith) in
    rw c.in-Compare.is (let b = w.0 in omega (arith, steps, test, b))

pub returns-then-n-eq0-clause-cost_of_many : goal.returns-then-n-eq0-clause-cost_of_many
returns-then-n-eq0-clause-cost_of_many g c d l =
    let log = c.args.self.now.tape.events in
    let positions = length (options c.args.self.now.rule (initial_of c.args.self.now.objects.values) c.args.self.now.tape.events c.args.thread c.args.cell c.in-Compare.failure) in
    let test = c.may_succeed.ensures.cost in
    let steps = c.update_chosen-then-n-eq0.ensures.cost in
    let w = reads-within log d positions 0 (omega arith) in
    let b = w.1 in omega (arith, steps, test, b)

pub returns-else-n-eq0-clause-cost : goal.returns-else-n-eq0-clause-cost
returns-else-n-eq0-clause-cost g c d l =
    let log = c.args.self.now.tape.events in
    let positions = length (options c.args.self.now.rule (initial_of c.args.self.now.objects.values) c.args.self.now.tape.events c.args.thread c.args.cell c.in-Compare.failure) in
    let steps = rw c.excluded.ensures at (c.read_chosen-in-Compare.ensures.cost d l) in
    let test = c.may_succeed.ensures.cost in
    let w = reads-within log d positions (looks_bound d positions (excluded_by c.in-Compare.weak c.in-Compare.expected)) (looks-within d positions c.in-Compare.weak c.in-Compare.expected) in
    rw c.in-Compare.is (let b = w.0 in omega (arith, steps, test, b))

pub returns-else-n-eq0-clause-cost_of_many : goal.returns-else-n-eq0-clause-cost_of_many
returns-else-n-eq0-clause-cost_of_many g c d l =
    let log = c.args.self.now.tape.events in
    let positions = length (options c.args.self.now.rule (initial_of c.args.self.now.objects.values) c.args.self.now.tape.events c.args.thread c.args.cell c.in-Compare.failure) in
    let steps = rw c.excluded.ensures at (c.read_chosen-in-Compare.ensures.cost d l) in
    let test = c.may_succeed.ensures.cost in
    let w = reads-within log d positions (looks_bound d positions (excluded_by c.in-Compare.weak c.in-Compare.expected)) (looks-within d positions c.in-Compare.weak c.in-Compare.expected) in
    let b = w.1 in omega (arith, steps, test, b)
