use Rattle.std.specs.Prelude.{List, flat_map}
use Rattle.mu_model.specs.declared.lines.Line.{Line}
use Rattle.mu_model.specs.Programs.{named}
use Rattle.run_search.specs.Spent.{run_cut}
use Rattle.run_search.proofs.playing.play_whole.Goals as goal

pub returns-clause-run : goal.returns-clause-run
returns-clause-run g c =
    run_cut c.picks_are_only_picked_from.ensures.runs (named c.args.code.now) c.args.steps c.args.machine.configuration c.play.new.schedule.items c.drop_zeros.new.schedule.items (flat_map (λ (ls : List Line). ls) c.play.new.kept.items) c.in_ok-ending.ending
    c.drop_zeros.ensures c.in_ok-ending.ensures.run
