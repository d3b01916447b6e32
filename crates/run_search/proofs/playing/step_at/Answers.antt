use Rattle.std.proofs.Common.{[]}
use Rattle.std.specs.Prelude.{List, flat_map}
use Rattle.mu_model.specs.declared.lines.Line.{Line}
use Rattle.mu_model.specs.Programs.{named}
use Rattle.run_search.specs.Steps.{went_at, ended_at, rule_at, if_none, if_some}
use Rattle.run_search.proofs.playing.step_at.Goals as goal

pub step-requires-clause-there : goal.step-requires-clause-there
step-requires-clause-there g c =
    rule_at (named c.args.code.now) c.args.machine.now c.set_picks-left.new.self c.set_picks-left.new.self c.set_picks-left.new.self c.in_ok-picks.picks c.set_picks-left.result c.args.place [] []
    c.in_ok-picks.ensures c.set_picks-left.ensures.new c.requires.rules

pub returns-clause-went : goal.returns-clause-went
returns-clause-went g c =
    if_none _ _
    (went_at (named c.args.code.now) c.args.machine.now c.set_picks-left.new.self c.step.new.machine c.set_picks.new.self c.in_ok-picks.picks c.set_picks-left.result c.args.place
    (flat_map (λ (ls : List Line). ls) c.args.kept.now.items) (flat_map (λ (ls : List Line). ls) c.step.new.kept.items) c.in_ok-picks.ensures c.set_picks-left.ensures.new c.set_picks-left.ensures.left c.set_picks.ensures.new)
    c.in_ok-ending.ending c.in_ok-ending.ensures.went

pub returns-clause-ended : goal.returns-clause-ended
returns-clause-ended g c =
    if_some _ _
    (ended_at (named c.args.code.now) c.args.machine.now c.set_picks-left.new.self c.step.new.machine c.set_picks.new.self c.in_ok-picks.picks c.set_picks-left.result c.args.place
    (flat_map (λ (ls : List Line). ls) c.args.kept.now.items) (flat_map (λ (ls : List Line). ls) c.step.new.kept.items) c.in_ok-picks.ensures c.set_picks-left.ensures.new)
    c.in_ok-ending.ending c.in_ok-ending.ensures.ended
