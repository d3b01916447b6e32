use Rattle.std.proofs.Common.{◌≡◌, ◌∙◌, sym, ap, suc, length, reverse, List, ℕ, arith}
use Rattle.mem_axioms.specs.Logs.{newest}
use Rattle.mem_axioms.specs.Objects.{initial_of}
use Rattle.mem_axioms.specs.Scalars.{scalars_of}
use Rattle.mem_axioms.specs.declared.types.Event.{Event}
use Rattle.mem_axioms.specs.Lemmas.Offers.{reads-at}
use Rattle.mem_axioms.proofs.log_memory.LogMemory.count_reads.Goals as goal

pub returns-clause-count : goal.returns-clause-count
returns-clause-count c =
    let memory = c.args.self.now in
    let log = reverse memory.events.items in
    let n : c.newest_position-position-end.result ≡ newest log c.args.cell = c.newest_position-position-end.ensures.newest ∙ ap (λ (events : List Event). newest (reverse events) c.args.cell) c.deref.ensures.value in
    let end : c.loop-position.position ≡ suc (newest log c.args.cell) = omega (arith, n) in
    c.loop-position.invariant.counted
    ∙ ap (λ (positions : List ℕ). length positions) (sym (reads-at memory.rule (initial_of (scalars_of memory.objects.items)) log c.args.thread c.args.cell c.args.order c.args.excluded c.loop-position.position end))
