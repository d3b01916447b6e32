use Rattle.std.proofs.Common.{arith}
use Rattle.mem_axioms.specs.Objects.{initial_of}
use Rattle.view_parts.specs.Lemmas.FloorFound.{form-of}
use Rattle.mem_views.proofs.Counted.{counted-all}
use Rattle.mem_views.proofs.view_memory.ViewMemory.count_differing.Goals as goal

pub returns-clause-count : goal.returns-clause-count
returns-clause-count g c =
    let memory = c.args.self.now in
    let initial = initial_of memory.objects.values in
    let form = form-of memory.rule initial memory.tape.events memory.log_holds.sound.axioms in
    let from = c.greater-from.ensures in
    let first = c.count_initial-initial.ensures.count in
    let r = c.requires in
    let all = counted-all initial memory.tape.events c.args.others.cell c.args.others.floor c.args.others.scalar form c.greater-from.result c.args.end c.count_later.result from (omega (arith, from, r.floor, r.some)) r.end c.count_later.ensures.count in
    omega (arith, all, first)
