use Rattle.std.proofs.Common.{ap, ◌∙◌}
use Rattle.mu_model.specs.Programs.{named}
use Rattle.run_state.specs.Options.{step_options}
use Rattle.run_search.proofs.Noting.{on_ok, picks_so, left_so}
use Rattle.run_search.proofs.playing.note_step.Goals as goal

pub returns-clause-picks : goal.returns-clause-picks
returns-clause-picks g c =
    on_ok _ _
    (picks_so (named c.args.code.now) c.args.machine.now.configuration c.args.numbers.now c.args.made.now.items c.note.new.made.items c.threads-many.result c.in_ok-options.options
    (record {
      at = c.requires.left;
      threads_are = c.threads-many.ensures;
      options_are = c.in_ok-options.ensures.count ∙ ap (λ b. step_options (named b) c.args.machine.now.configuration) c.requires.same;
      noted = c.in_ok-note.ensures.made;
      left = c.in_ok-note.ensures.left;
    }) c.note-2.new.made.items) c.note-2.result c.note-2.ensures.made

pub returns-clause-left : goal.returns-clause-left
returns-clause-left g c =
    on_ok _ _
    (left_so (named c.args.code.now) c.args.machine.now.configuration c.args.numbers.now c.args.made.now.items c.note.new.made.items c.threads-many.result c.in_ok-options.options
    (record {
      at = c.requires.left;
      threads_are = c.threads-many.ensures;
      options_are = c.in_ok-options.ensures.count ∙ ap (λ b. step_options (named b) c.args.machine.now.configuration) c.requires.same;
      noted = c.in_ok-note.ensures.made;
      left = c.in_ok-note.ensures.left;
    }) c.note-2.new.made.items) c.note-2.result c.note-2.ensures.left
