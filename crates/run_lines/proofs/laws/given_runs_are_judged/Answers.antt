use Rattle.hail_load.specs.Texts.{hail_commands}
use Rattle.run_lines.proofs.laws.given_runs_are_judged.Goals as goal

pub returns : goal.returns
returns c = λ bytes bundle read names checked s name n given entered steps ls e ends.
    c.runs_are_judged.ensures bytes bundle read names checked s name n
    (c.loaded_settings_fit.ensures bytes bundle read names checked s (hail_commands given.text) s.cells given.objects given.client) entered
    (c.loaded_settings_are_modest.ensures.modest bytes bundle read names checked s given.text given.short given.objects given.cells given.budget) steps ls e ends
