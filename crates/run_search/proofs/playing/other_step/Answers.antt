use Rattle.std.proofs.Common.{◌≢◌, ◌∙◌, ◌++◌, ◌≤◌, drop, length, sym, ap, subst}
use Rattle.std.specs.Prelude.{List, flat_map}
use Rattle.mu_model.specs.declared.lines.Line.{Line}
use Rattle.mu_model.specs.Outcomes.{Stuck}
use Rattle.mu_model.specs.Programs.{named}
use Rattle.mu_step.specs.Running.{Running}
use Rattle.odometer.specs.Odometer.{digits}
use Rattle.odometer.specs.declared.picks.Pick.{Pick}
use Rattle.run_search.specs.Playing.{answered_step, WentOn, CameToEnd}
use Rattle.run_search.specs.Steps.{longer, added, other_goes, other_left, other_ends, if_none, if_some}
use Rattle.run_search.proofs.Beginning.{if_ok, always_ok}
use Rattle.run_search.proofs.playing.other_step.Goals as goal

pub push_numbers-requires : goal.push_numbers-requires
push_numbers-requires g c =
    subst (λ (ps : List Pick). c.how_many-before.result ≤ length ps) (sym c.deref-2.ensures.value)
    (longer c.args.made.now.items c.note_step.new.made.items _ c.how_many-before.result c.in_ok-note_step.ensures.picks (c.how_many-before.ensures ∙ ap length c.deref.ensures.value))

pub step-requires-clause-same : goal.step-requires-clause-same
step-requires-clause-same g c = ap (λ (m : Running). m.bundle) c.note_step.ensures.same ∙ c.requires.same

pub step-requires-clause-fresh : goal.step-requires-clause-fresh
step-requires-clause-fresh g c = ap (λ (m : Running). m.ended) c.note_step.ensures.same ∙ c.requires.fresh

pub step-requires-clause-there : goal.step-requires-clause-there
step-requires-clause-there g c = subst (λ (m : Running). answered_step (named c.args.code.now) m.configuration ≢ Stuck) (sym c.note_step.ensures.same) c.requires.there

pub returns-clause-picks : goal.returns-clause-picks
returns-clause-picks g c = always_ok _ c.step.result c.in_ok-note_step.ensures.picks

pub returns-clause-left : goal.returns-clause-left
returns-clause-left g c =
    if_ok _ _
    (λ ending. if_none _ _
    (λ w. c.in_ok-note_step.ensures.left
    ∙ other_left (named c.args.code.now) c.args.machine.now.configuration (flat_map (λ (ls : List Line). ls) c.args.kept.now.items) (flat_map (λ (ls : List Line). ls) c.step.new.kept.items) c.args.schedule.now.items c.push_numbers.new.schedule.items
    c.requires.none (added c.args.made.now.items c.note_step.new.made.items _ c.how_many-before.result c.in_ok-note_step.ensures.picks (c.how_many-before.ensures ∙ ap length c.deref.ensures.value) c.args.schedule.now.items c.push_numbers.new.schedule.items (c.in_ok-push_numbers.ensures ∙ ap (λ (ps : List Pick). c.args.schedule.now.items ++ digits (drop c.how_many-before.result ps)) c.deref-2.ensures.value))
    c.step.new.machine.configuration c.local_runs_go_on.ensures.any
    (subst (λ (m : Running). WentOn (named c.args.code.now) m.configuration c.step.new.machine.configuration (flat_map (λ (ls : List Line). ls) c.args.kept.now.items) (flat_map (λ (ls : List Line). ls) c.step.new.kept.items)) c.note_step.ensures.same w)) ending)
    c.step.result c.step.ensures.went

pub returns-clause-went : goal.returns-clause-went
returns-clause-went g c =
    if_ok _ _
    (λ ending. if_none _ _
    (λ w. other_goes (named c.args.code.now) c.args.machine.now.configuration (flat_map (λ (ls : List Line). ls) c.args.kept.now.items) (flat_map (λ (ls : List Line). ls) c.step.new.kept.items) c.args.schedule.now.items
    c.push_numbers.new.schedule.items c.requires.none (added c.args.made.now.items c.note_step.new.made.items _ c.how_many-before.result c.in_ok-note_step.ensures.picks (c.how_many-before.ensures ∙ ap length c.deref.ensures.value) c.args.schedule.now.items c.push_numbers.new.schedule.items (c.in_ok-push_numbers.ensures ∙ ap (λ (ps : List Pick). c.args.schedule.now.items ++ digits (drop c.how_many-before.result ps)) c.deref-2.ensures.value))
    c.step.new.machine.configuration c.local_runs_go_on.ensures.any c.local_runs_go_on.ensures.schedules
    (subst (λ (m : Running). WentOn (named c.args.code.now) m.configuration c.step.new.machine.configuration (flat_map (λ (ls : List Line). ls) c.args.kept.now.items) (flat_map (λ (ls : List Line). ls) c.step.new.kept.items)) c.note_step.ensures.same w)) ending)
    c.step.result c.step.ensures.went

pub returns-clause-ended : goal.returns-clause-ended
returns-clause-ended g c =
    if_ok _ _
    (λ ending. if_some _ _
    (λ e w. other_ends (named c.args.code.now) c.args.machine.now.configuration (flat_map (λ (ls : List Line). ls) c.args.kept.now.items) (flat_map (λ (ls : List Line). ls) c.step.new.kept.items) c.args.schedule.now.items
    c.push_numbers.new.schedule.items c.requires.none (added c.args.made.now.items c.note_step.new.made.items _ c.how_many-before.result c.in_ok-note_step.ensures.picks (c.how_many-before.ensures ∙ ap length c.deref.ensures.value) c.args.schedule.now.items c.push_numbers.new.schedule.items (c.in_ok-push_numbers.ensures ∙ ap (λ (ps : List Pick). c.args.schedule.now.items ++ digits (drop c.how_many-before.result ps)) c.deref-2.ensures.value))
    e c.local_runs_go_on.ensures.any_ends c.local_runs_go_on.ensures.schedules_end
    (subst (λ (m : Running). CameToEnd (named c.args.code.now) m.configuration (flat_map (λ (ls : List Line). ls) c.args.kept.now.items) (flat_map (λ (ls : List Line). ls) c.step.new.kept.items) e) c.note_step.ensures.same w)) ending)
    c.step.result c.step.ensures.ended
