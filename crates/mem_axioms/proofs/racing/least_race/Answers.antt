use Rattle.std.proofs.Common.{◌∙◌, ap, reverse, arith}
use Rattle.std.proofs.lemmas.List.{take_all}
use Rattle.mem_axioms.specs.Logs.{least_event}
use Rattle.mem_axioms.specs.Races.{races, race}
use Rattle.mem_axioms.proofs.racing.least_race.Goals as goal

pub returns : goal.returns
unfolding race
returns c =
    c.loop-i.invariant ∙ ap (λ past. least_event (races c.args.rule (reverse c.args.events.now) c.args.next.now) (reverse past)) (take_all c.loop-i.i c.args.events.now (omega arith))
