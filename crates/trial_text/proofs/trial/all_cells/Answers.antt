use Rattle.trial_text.specs.Trial.{cells_text}
use Rattle.trial_text.proofs.Ranges.{appended_one}
use Rattle.trial_text.proofs.trial.all_cells.Goals as goal

pub loop-i-preserved : goal.loop-i-preserved
loop-i-preserved c = appended_one cells_text c.loop-i.i _ _ _ c.in_ok-cells_text.ensures c.loop-i.invariant
