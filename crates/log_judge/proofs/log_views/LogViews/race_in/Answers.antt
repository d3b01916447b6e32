use Rattle.std.proofs.Common.{Some, None}
use Rattle.mem_axioms.specs.Form.{is_only_value}
use Rattle.mem_axioms.specs.Races.{race}
use Rattle.view_parts.specs.Answers.{RaceFacts}
use Rattle.view_parts.specs.Lemmas.RaceFound.{race-found, one-lower, one-positive, none-lower}
use Rattle.log_judge.proofs.Listed.{threads-small, cell-listed}
use Rattle.log_judge.proofs.log_views.LogViews.race_in.Goals as goal

pub first_racing-requires-clause-few : goal.first_racing-requires-clause-few
first_racing-requires-clause-few g c =
    let memory = c.args.self.now in
    rw c.deref.ensures.value (threads-small memory.threads.items memory.tape.events memory.threads_hold)

pub first_racing-requires-clause-made : goal.first_racing-requires-clause-made
first_racing-requires-clause-made g c =
    let memory = c.args.self.now in
    rw c.deref.ensures.value (cell-listed memory.threads.items memory.tape.events c.args.cell c.args.kept.now memory.threads_hold c.requires.holds)

pub overflow_sub-result : goal.overflow_sub-result
overflow_sub-result g c =
    let memory = c.args.self.now in
    let log = memory.tape.events in
    let facts : RaceFacts memory.rule is_only_value log c.args.cell c.args.event.now c.args.kept.now c.knew-known.result = record { form = c.requires.faultless.form; fits = c.requires.fits; access = c.requires.access; knows = c.knew-known.ensures; holds = c.requires.holds } in
    one-positive (race memory.rule log c.args.event.now) c.in-Some.first (race-found memory.rule is_only_value log c.args.cell c.args.event.now c.args.kept.now c.knew-known.result facts (Some c.in-Some.first) c.in-Some.ensures.found)

pub returns-in-Some : goal.returns-in-Some
returns-in-Some g c =
    let memory = c.args.self.now in
    let log = memory.tape.events in
    let facts : RaceFacts memory.rule is_only_value log c.args.cell c.args.event.now c.args.kept.now c.knew-known.result = record { form = c.requires.faultless.form; fits = c.requires.fits; access = c.requires.access; knows = c.knew-known.ensures; holds = c.requires.holds } in
    one-lower (race memory.rule log c.args.event.now) c.in-Some.first (race-found memory.rule is_only_value log c.args.cell c.args.event.now c.args.kept.now c.knew-known.result facts (Some c.in-Some.first) c.in-Some.ensures.found)

pub returns : goal.returns
returns g c =
    let memory = c.args.self.now in
    let log = memory.tape.events in
    let facts : RaceFacts memory.rule is_only_value log c.args.cell c.args.event.now c.args.kept.now c.knew-known.result = record { form = c.requires.faultless.form; fits = c.requires.fits; access = c.requires.access; knows = c.knew-known.ensures; holds = c.requires.holds } in
    none-lower (race memory.rule log c.args.event.now) (race-found memory.rule is_only_value log c.args.cell c.args.event.now c.args.kept.now c.knew-known.result facts None c.in-None.ensures.found)
