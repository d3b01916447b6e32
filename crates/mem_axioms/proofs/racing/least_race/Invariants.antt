use Rattle.std.proofs.Common.{◌≡◌, reverse, take}
use Rattle.mem_axioms.specs.Logs.{least_event}
use Rattle.mem_axioms.specs.Races.{races}
use Rattle.mem_axioms.proofs.racing.least_race.Given as goal

abbrev pub invariant-loop-i : goal.invariant-loop-i
invariant-loop-i l = l.least ≡ least_event (races l.rule (reverse l.events) l.next) (reverse (take l.i l.events))
