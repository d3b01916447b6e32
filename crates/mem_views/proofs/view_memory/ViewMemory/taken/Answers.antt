use Rattle.std.proofs.Common.{◌∙◌, sym}
use Rattle.clock_laws.specs.Clocks.{views}
use Rattle.view_parts.specs.Lemmas.Gained.{none-taken, untaken-are, taken-are}
use Rattle.mem_views.proofs.view_memory.ViewMemory.taken.Goals as goal

pub returns-in_default : goal.returns-in_default
returns-in_default c u = sym (none-taken (views c.args.self.now.rule c.args.self.now.tape.events) c.args.event.now c.in_default.ensures u)

pub returns-in-None : goal.returns-in-None
returns-in-None c u =
    sym (untaken-are c.args.self.now.rule c.args.self.now.tape.events c.in-Some._cell c.args.event.now (rw c.in-None.is at (c.requires.views c.in-Some._cell c.in-Some.ensures)) c.in-Some.ensures u)

pub returns-in-Some-kept : goal.returns-in-Some-kept
returns-in-Some-kept c u =
    let memory = c.args.self.now in
    let clocks = rw c.in-Some-kept.is at (c.requires.clocks c.in-Some._cell c.in-Some.ensures) in
    c.taken_from.ensures u ∙ taken-are memory.rule memory.tape.events memory.clocks c.in-Some._cell c.in-Some-kept.kept.now c.args.event.now clocks c.in-Some.ensures u
