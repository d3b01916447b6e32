use Rattle.trial_text.specs.Trial.{blocks_text}
use Rattle.trial_text.proofs.Ranges.{appended_one}
use Rattle.trial_text.proofs.trial.all_blocks.Goals as goal

pub loop-i-preserved : goal.loop-i-preserved
loop-i-preserved c = appended_one (blocks_text c.args.n) c.loop-i.i _ _ _ c.in_ok-blocks_text.ensures c.loop-i.invariant
