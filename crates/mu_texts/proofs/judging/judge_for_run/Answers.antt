use Rattle.mu_texts.specs.Lemmas.Runnable.{loaded_runs_end}
use Rattle.mu_texts.proofs.judging.judge_for_run.Goals as goal

pub returns-in-Ok-clause-ends : goal.returns-in-Ok-clause-ends
returns-in-Ok-clause-ends c =
    loaded_runs_end c.args.bytes.now c.in-Ok.code c.answer_is_one.ensures c.entered_runs_have_an_ending.ensures c.loaded_settings_fit.ensures c.in-Ok.ensures
