use Rattle.std.specs.Prelude.{List, [], ◌∷◌, flat_map}
use Rattle.mu_model.specs.declared.lines.Line.{Line}
use Rattle.mu_model.specs.Programs.{named}
use Rattle.run_search.specs.Steps.{WentAt, first_steps, first_no_end}
use Rattle.run_search.proofs.playing.first_step.Goals as goal

pub returns-in-Ok-None-clause-went : goal.returns-in-Ok-None-clause-went
returns-in-Ok-None-clause-went g c =
    first_steps (named c.args.code.now) c.args.machine.now.configuration c.step_at.new.machine.configuration c.args.place c.runnable.result (flat_map (λ (ls : List Line). ls) c.args.kept.now.items)
    (flat_map (λ (ls : List Line). ls) c.step_at.new.kept.items) c.args.schedule.now.items c.push_pick.new.schedule.items c.local_runs_go_on.ensures.first c.local_runs_go_on.ensures.schedules c.requires.least c.runnable.ensures
    c.in_ok-push_pick.ensures (rw c.in-Ok-None.field-0-is at c.in-Ok-None.ensures.went)

pub returns-in-Ok-None-clause-left : goal.returns-in-Ok-None-clause-left
returns-in-Ok-None-clause-left g c =
    let w : WentAt (named c.args.code.now) c.args.machine.now.configuration c.step_at.new.machine.configuration (c.args.place ∷ []) (flat_map (λ (ls : List Line). ls) c.args.kept.now.items) (flat_map (λ (ls : List Line). ls) c.step_at.new.kept.items) =
    rw c.in-Ok-None.field-0-is at c.in-Ok-None.ensures.went in
    w.same

pub unreachable-requires : goal.unreachable-requires
unreachable-requires g c =
    first_no_end (named c.args.code.now) c.args.machine.now.configuration c.args.place (flat_map (λ (ls : List Line). ls) c.args.kept.now.items) (flat_map (λ (ls : List Line). ls) c.step_at.new.kept.items) c.in-Ok-Some._ending
    c.local_runs_go_on.ensures.first_ends c.requires.least (rw c.in-Ok-Some.field-0-is at c.in-Ok-Some.ensures.ended)
