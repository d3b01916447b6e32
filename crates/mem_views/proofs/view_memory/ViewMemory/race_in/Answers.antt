use Rattle.std.proofs.Common.{Some, None, length, arith}
use Rattle.mem_axioms.specs.Form.{is_value_at}
use Rattle.mem_axioms.specs.Objects.{initial_of}
use Rattle.mem_axioms.specs.Races.{race}
use Rattle.mem_views.proofs.Budget.{one-within}
use Rattle.view_parts.specs.Lemmas.CellKept.{cell-few}
use Rattle.mem_views.proofs.ThreadsMade.{made-small, made-few, cell-made}
use Rattle.view_parts.specs.Lemmas.RaceFound.{race-found, one-lower, one-positive, none-lower}
use Rattle.mem_views.proofs.Fitting.{race-facts}
use Rattle.mem_views.proofs.view_memory.ViewMemory.race_in.Goals as goal

pub first_racing-requires-clause-few : goal.first_racing-requires-clause-few
first_racing-requires-clause-few g c =
    let memory = c.args.self.now in
    rw c.deref.ensures.value (made-small memory.rule memory.objects.values memory.tape.events memory.made.items memory.log_holds memory.made_holds)

pub first_racing-requires-clause-made : goal.first_racing-requires-clause-made
first_racing-requires-clause-made g c =
    let memory = c.args.self.now in
    rw c.deref.ensures.value (cell-made memory.rule memory.objects.values memory.tape.events memory.made.items c.args.cell c.args.kept.now memory.log_holds memory.made_holds c.requires.holds)

pub overflow_sub-result : goal.overflow_sub-result
overflow_sub-result g c =
    let memory = c.args.self.now in
    let log = memory.tape.events in
    let objects = memory.objects.values in
    let facts = race-facts memory.rule objects log c.args.cell c.args.event.now c.args.kept.now c.args.known.now memory.log_holds c.requires.holds c.requires.fits c.requires.access c.requires.known in
    one-positive (race memory.rule log c.args.event.now) c.in-Some.first (race-found memory.rule (is_value_at (initial_of objects)) log c.args.cell c.args.event.now c.args.kept.now c.args.known.now facts (Some c.in-Some.first) c.in-Some.ensures.found)

pub returns-in-Some-clause-race : goal.returns-in-Some-clause-race
returns-in-Some-clause-race g c =
    let memory = c.args.self.now in
    let log = memory.tape.events in
    let objects = memory.objects.values in
    let facts = race-facts memory.rule objects log c.args.cell c.args.event.now c.args.kept.now c.args.known.now memory.log_holds c.requires.holds c.requires.fits c.requires.access c.requires.known in
    one-lower (race memory.rule log c.args.event.now) c.in-Some.first (race-found memory.rule (is_value_at (initial_of objects)) log c.args.cell c.args.event.now c.args.kept.now c.args.known.now facts (Some c.in-Some.first) c.in-Some.ensures.found)

pub returns-in-None-clause-race : goal.returns-in-None-clause-race
returns-in-None-clause-race g c =
    let memory = c.args.self.now in
    let log = memory.tape.events in
    let objects = memory.objects.values in
    let facts = race-facts memory.rule objects log c.args.cell c.args.event.now c.args.kept.now c.args.known.now memory.log_holds c.requires.holds c.requires.fits c.requires.access c.requires.known in
    none-lower (race memory.rule log c.args.event.now) (race-found memory.rule (is_value_at (initial_of objects)) log c.args.cell c.args.event.now c.args.kept.now c.args.known.now facts None c.in-None.ensures.found)

pub returns-in-Some-clause-cost : goal.returns-in-Some-clause-cost
returns-in-Some-clause-cost g c d l =
    let memory = c.args.self.now in
    let log = memory.tape.events in
    let made = made-few log memory.made.items memory.made_holds in
    let within = one-within log (length memory.made.items) d made in
    let cost = rw c.deref.ensures.value at (c.first_racing.ensures.cost d (cell-few memory.rule log c.args.cell c.args.kept.now d c.requires.holds l)) in
    omega (arith, within, cost)

pub returns-in-None-clause-cost : goal.returns-in-None-clause-cost
returns-in-None-clause-cost g c d l =
    let memory = c.args.self.now in
    let log = memory.tape.events in
    let made = made-few log memory.made.items memory.made_holds in
    let within = one-within log (length memory.made.items) d made in
    let cost = rw c.deref.ensures.value at (c.first_racing.ensures.cost d (cell-few memory.rule log c.args.cell c.args.kept.now d c.requires.holds l)) in
    omega (arith, within, cost)
