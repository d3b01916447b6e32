use Rattle.view_parts.specs.Lemmas.RaceFound.{other-no-race, untouched-no-race}
use Rattle.mem_views.proofs.view_memory.ViewMemory.race_of.Goals as goal

pub returns-in_default-clause-race : goal.returns-in_default-clause-race
returns-in_default-clause-race g c = other-no-race c.args.self.now.rule c.args.self.now.tape.events c.args.event.now c.in_default.ensures

pub race_in-requires-clause-holds : goal.race_in-requires-clause-holds
race_in-requires-clause-holds g c = rw c.in-Some-kept.is at (c.requires.views c.in-Some.cell c.in-Some.ensures)

pub returns-in-None-clause-race : goal.returns-in-None-clause-race
returns-in-None-clause-race g c =
    untouched-no-race c.args.self.now.rule c.args.self.now.tape.events c.args.event.now c.in-Some.cell c.in-Some.ensures (rw c.in-None.is at (c.requires.views c.in-Some.cell c.in-Some.ensures))
