use Rattle.std.proofs.Common.{◌∙◌, refl}
use Rattle.view_parts.specs.Lemmas.Gained.{gains-are}
use Rattle.log_judge.proofs.log_views.LogViews.known_before.Goals as goal

pub returns : goal.returns
returns c u =
    let memory = c.args.self.now in
    let log = memory.tape.events in
    let event = c.args.event.now in
    c.gain.ensures u
    ∙ rw (c.of.ensures u, memory.rows_hold.threads event.thread u, gains-are memory.rule log memory.rows c.args.taken.now memory.rows_hold event c.requires u) refl
