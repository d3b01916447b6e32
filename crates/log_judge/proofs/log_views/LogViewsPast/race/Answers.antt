use Rattle.view_parts.specs.Lemmas.RaceFound.{other-no-race, untouched-no-race}
use Rattle.log_judge.proofs.log_views.LogViewsPast.race.Goals as goal

pub returns-in_default : goal.returns-in_default
returns-in_default c = other-no-race c.args.self.now.rule c.args.self.now.tape.events c.args.event.now c.in_default.ensures

pub returns-in-None : goal.returns-in-None
returns-in-None c = untouched-no-race c.args.self.now.rule c.args.self.now.tape.events c.args.event.now c.in-Some.cell c.in-Some.ensures c.in-None.ensures.views
