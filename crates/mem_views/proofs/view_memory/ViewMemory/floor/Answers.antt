use Rattle.std.proofs.Common.{◌≡◌, ◌∙◌, sym, length, slice_index, false}
use Rattle.std.specs.Prelude.{◌+◌, ◌*◌, replicate}
use Rattle.mem_axioms.specs.Form.{is_value_at}
use Rattle.mem_axioms.specs.Objects.{initial_of}
use Rattle.mem_views.proofs.Budget.{four-within}
use Rattle.view_parts.specs.Lemmas.CellKept.{cell-few}
use Rattle.mem_views.proofs.ThreadsMade.{made-small, made-few, cell-made}
use Rattle.mem_axioms.specs.Events.{is_seq_cst}
use Rattle.clocks.specs.Tables.{table_at}
use Rattle.clocks.specs.Zeros.{zeros-at}
use Rattle.view_parts.specs.Lemmas.NoneFound.{known-found, no-fence, one-of-three}
use Rattle.view_parts.specs.Lemmas.FloorFound.{untouched-floor, floor-found, before-known, form-of, coherent-of}
use Rattle.mem_views.proofs.view_memory.ViewMemory.floor.Goals as goal

pub returns-in_default-clause-floor : goal.returns-in_default-clause-floor
returns-in_default-clause-floor g c = untouched-floor c.args.self.now.rule c.args.self.now.tape.events c.args.thread c.args.cell c.args.order (rw c.in_default.is at c.requires.kept)

pub greatest_of_kinds-requires-clause-few : goal.greatest_of_kinds-requires-clause-few
greatest_of_kinds-requires-clause-few g c =
    let memory = c.args.self.now in
    rw c.deref-2.ensures.value (made-small memory.rule memory.objects.values memory.tape.events memory.made.items memory.log_holds memory.made_holds)

pub greatest_of_kinds-requires-clause-made : goal.greatest_of_kinds-requires-clause-made
greatest_of_kinds-requires-clause-made g c =
    let memory = c.args.self.now in
    rw c.deref-2.ensures.value (cell-made memory.rule memory.objects.values memory.tape.events memory.made.items c.args.cell c.in-Some.kept.now memory.log_holds memory.made_holds (rw c.in-Some.is at c.requires.kept))

pub returns-clause-floor : goal.returns-clause-floor
returns-clause-floor g c =
    let memory = c.args.self.now in
    let log = memory.tape.events in
    floor-found memory.rule (is_value_at (initial_of memory.objects.values)) log c.args.thread c.args.cell c.args.order c.in-Some.kept.now c.of-known.result.now c.below-below.result c.fences_before-before.result c.greatest_of_kinds.result c.limit-limit.result
    (form-of memory.rule (initial_of memory.objects.values) log memory.log_holds.sound.axioms) (coherent-of memory.rule (initial_of memory.objects.values) log memory.log_holds.sound.axioms) (rw c.in-Some.is at c.requires.kept) (λ y ey at. memory.log_holds.small ey.thread (memory.log_holds.threads y ey at))
    (λ u. c.of-known.ensures u ∙ memory.rows_hold.threads c.args.thread u) c.limit-limit.ensures.limit c.below-below.ensures
    (λ u. c.fences_before-before.ensures u ∙ before-known memory.rule log c.args.thread c.args.order memory.rows c.limit-limit.result memory.rows_hold c.limit-limit.ensures.limit u)
    c.greatest_of_kinds.ensures.found

pub returns-clause-cost : goal.returns-clause-cost
returns-clause-cost g c d l =
    let memory = c.args.self.now in
    let log = memory.tape.events in
    four-within log (length memory.made.items) d c.args.steps.now c.limit-limit.new.steps c.greatest_of_kinds.new.steps (made-few log memory.made.items memory.made_holds) (c.limit-limit.ensures.cost d l)
    (rw c.deref-2.ensures.value at (c.greatest_of_kinds.ensures.cost d (cell-few memory.rule log c.args.cell c.in-Some.kept.now d (rw c.in-Some.is at c.requires.kept) l)))

pub found_floor-requires-clause-few : goal.found_floor-requires-clause-few
found_floor-requires-clause-few g c =
    let memory = c.args.self.now in
    rw c.deref.ensures.value (made-small memory.rule memory.objects.values memory.tape.events memory.made.items memory.log_holds memory.made_holds)

pub found_floor-requires-clause-made : goal.found_floor-requires-clause-made
found_floor-requires-clause-made g c =
    let memory = c.args.self.now in
    rw c.deref.ensures.value (cell-made memory.rule memory.objects.values memory.tape.events memory.made.items c.args.cell c.in-Some.kept.now memory.log_holds memory.made_holds (rw c.in-Some.is at c.requires.kept))

pub returns-then-not-seq_cst-clause-floor : goal.returns-then-not-seq_cst-clause-floor
returns-then-not-seq_cst-clause-floor g c =
    let memory = c.args.self.now in
    let log = memory.tape.events in
    let zero : c.limit-limit.result ≡ 0 = c.if-limit-eq0.true in
    let relaxed : is_seq_cst c.args.order ≡ false = sym c.if-not-seq_cst.ensures in
    floor-found memory.rule (is_value_at (initial_of memory.objects.values)) log c.args.thread c.args.cell c.args.order c.in-Some.kept.now c.of-known.result.now (replicate 64 0) (replicate 64 0) c.found_floor.result c.limit-limit.result
    (form-of memory.rule (initial_of memory.objects.values) log memory.log_holds.sound.axioms) (coherent-of memory.rule (initial_of memory.objects.values) log memory.log_holds.sound.axioms) (rw c.in-Some.is at c.requires.kept) (λ y ey at. memory.log_holds.small ey.thread (memory.log_holds.threads y ey at))
    (λ u. c.of-known.ensures u ∙ memory.rows_hold.threads c.args.thread u) c.limit-limit.ensures.limit (λ u l. zeros-at 64 u ∙ sym zero)
    (λ u. zeros-at 64 u ∙ (no-fence (is_seq_cst c.args.order) c.limit-limit.result (slice_index memory.rows.joined u) (table_at memory.rows.before c.limit-limit.result u) relaxed zero
    ∙ before-known memory.rule log c.args.thread c.args.order memory.rows c.limit-limit.result memory.rows_hold c.limit-limit.ensures.limit u))
    (known-found memory.rule log c.args.cell c.in-Some.kept.now c.of-known.result.now c.found_floor.result (rw c.in-Some.is at c.requires.kept) c.found_floor.ensures.found)

pub returns-then-not-seq_cst-clause-cost : goal.returns-then-not-seq_cst-clause-cost
returns-then-not-seq_cst-clause-cost g c d l =
    let memory = c.args.self.now in
    let log = memory.tape.events in
    four-within log (length memory.made.items) d c.args.steps.now c.limit-limit.new.steps c.found_floor.new.steps (made-few log memory.made.items memory.made_holds) (c.limit-limit.ensures.cost d l)
    (one-of-three c.limit-limit.new.steps c.found_floor.new.steps (length memory.made.items * (d + 1))
    (rw c.deref.ensures.value at (c.found_floor.ensures.cost d (cell-few memory.rule log c.args.cell c.in-Some.kept.now d (rw c.in-Some.is at c.requires.kept) l))))
