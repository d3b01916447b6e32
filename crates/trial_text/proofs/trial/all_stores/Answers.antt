use Rattle.trial_text.specs.Trial.{stores_text}
use Rattle.trial_text.proofs.Ranges.{appended_one}
use Rattle.trial_text.proofs.trial.all_stores.Goals as goal

pub loop-i-preserved : goal.loop-i-preserved
loop-i-preserved c = appended_one stores_text c.loop-i.i _ _ _ c.in_ok-stores_text.ensures c.loop-i.invariant
