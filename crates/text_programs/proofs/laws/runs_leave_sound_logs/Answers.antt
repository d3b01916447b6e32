use Rattle.text_programs.specs.Lemmas.RunLogs.{runs_leave_sound_logs}
use Rattle.text_programs.proofs.laws.runs_leave_sound_logs.Goals as goal

pub returns : goal.returns
returns c = runs_leave_sound_logs
