use Rattle.std.proofs.Common.{◌+◌, sym, ◌∙◌, ap, subst}
use Rattle.std.specs.Prelude.{List, flat_map}
use Rattle.mu_model.specs.declared.lines.Line.{Line}
use Rattle.mu_model.specs.Programs.{named}
use Rattle.run_search.specs.Given.{Given}
use Rattle.run_search.specs.Steps.{AllEnd}
use Rattle.run_search.proofs.Beginning.{if_ok, always_ok, path_so, leaf_so, shown_so}
use Rattle.run_search.proofs.player.Player.run.Goals as goal

pub play_whole-requires-clause-same : goal.play_whole-requires-clause-same
play_whole-requires-clause-same c = c.in_ok-machine.ensures.bundle ∙ ap (λ (g : Given). g.bundle) (sym c.self.view_is)

pub play_whole-requires-clause-ends : goal.play_whole-requires-clause-ends
play_whole-requires-clause-ends c =
    subst (λ (g : Given). AllEnd (named g.bundle) (g.budget + 1) c.in_ok-machine.machine.configuration) (sym c.self.view_is) c.in_ok-machine.ensures.ends

pub play_whole-requires-clause-picks : goal.play_whole-requires-clause-picks
play_whole-requires-clause-picks c = c.in_ok-machine.ensures.picks ∙ c.in_ok-picks.ensures

pub play_whole-requires-clause-kept : goal.play_whole-requires-clause-kept
play_whole-requires-clause-kept c = ap (λ (ks : List (List Line)). flat_map (λ ls. ls) ks) c.new-kept.ensures.items

pub returns-clause-path : goal.returns-clause-path
returns-clause-path c =
    always_ok _ c.seen_text.result
    (path_so _ c.args.self.now c.in_ok-picks.picks c.args.numbers.now c.in_ok-machine.machine.configuration c.self.view_is c.in_ok-picks.ensures c.in_ok-machine.ensures.first c.play_whole.new.made.items
    c.in_ok-ending.ensures.path)

pub returns-clause-text : goal.returns-clause-text
returns-clause-text c =
    if_ok _ _
    (λ says h e. leaf_so _ c.args.self.now c.in_ok-picks.picks c.args.numbers.now c.in_ok-machine.machine.configuration c.self.view_is c.in_ok-picks.ensures c.in_ok-machine.ensures.first c.requires
    c.play_whole.new.kept.items _ _ c.in_ok-ending.ending _ c.as_slice-finals.ensures.value c.as_slice-lines.ensures.value c.in_ok-ending.ensures.leaf (h e)) c.seen_text.result c.seen_text.ensures.seen

pub returns-clause-silent : goal.returns-clause-silent
returns-clause-silent c =
    if_ok _ _
    (λ says h e. leaf_so _ c.args.self.now c.in_ok-picks.picks c.args.numbers.now c.in_ok-machine.machine.configuration c.self.view_is c.in_ok-picks.ensures c.in_ok-machine.ensures.first c.requires
    c.play_whole.new.kept.items _ _ c.in_ok-ending.ending _ c.as_slice-finals.ensures.value c.as_slice-lines.ensures.value c.in_ok-ending.ensures.leaf (h e)) c.seen_text.result c.seen_text.ensures.budget

pub returns-clause-shown : goal.returns-clause-shown
returns-clause-shown c =
    if_ok _ _
    (λ says h e. shown_so _ c.args.self.now c.in_ok-picks.picks c.args.numbers.now c.in_ok-machine.machine.configuration c.self.view_is c.in_ok-picks.ensures c.in_ok-machine.ensures.first c.requires
    c.play_whole.new.schedule.items c.play_whole.new.kept.items _ _ c.in_ok-ending.ending _ c.as_slice-finals.ensures.value c.as_slice-lines.ensures.value c.in_ok-ending.ensures.run (h e)) c.seen_text.result c.seen_text.ensures.seen
