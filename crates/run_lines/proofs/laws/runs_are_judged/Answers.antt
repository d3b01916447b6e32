use Rattle.mu_model.specs.Programs.{named}
use Rattle.run_lines.proofs.laws.runs_are_judged.Goals as goal

pub returns : goal.returns
returns c = λ bytes bundle read names checked s name n fits entered modest steps ls e ends.
    let readable = c.runs_are_readable.ensures bytes bundle read names checked s name n fits entered modest steps ls e ends in
    let left = c.runs_leave_sound_logs.ensures bytes bundle read names checked s name n fits entered steps ls e ends in
    c.logs_get_yes.ensures.text (named bundle) s n bundle steps ls e left readable.numbered readable.lines readable.few
