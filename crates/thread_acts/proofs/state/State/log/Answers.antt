use Rattle.std.proofs.Common.{refl, ap}
use Rattle.frames.specs.Chains.{chain_of}
use Rattle.memory_acts.specs.AccessViews.{logs_race, logs_on}
use Rattle.thread_acts.proofs.state.State.log.Goals as goal

pub returns-in-Some-clause-ok : goal.returns-in-Some-clause-ok
returns-in-Some-clause-ok g c =
    logs_race c.args.self.now _ c.args.event _ _ _ _ _ _ _ c.self.view_is c.reserve.ensures.same_log c.reserve.ensures.same_rule c.in-Some.ensures.race c.race_ending.ensures (c.ended.ensures.is _)

pub returns-in-None-clause-ok : goal.returns-in-None-clause-ok
returns-in-None-clause-ok g c =
    logs_on c.args.self.now _ c.args.event c.args.options c.args.place.block c.args.place.at _ c.args.out.now.values _ _ _ _ _ _ _ _ c.self.view_is c.requires.left c.reserve.ensures.same_log c.reserve.ensures.same_rule c.in-None.ensures.race (c.in-None.ensures.added refl)
    c.in-None.ensures.same_rule (ap chain_of c.stand.ensures) c.take_picks.ensures.picks c.take_picks.ensures.skip c.self.invariant.1 c.in_ok-lines.ensures
