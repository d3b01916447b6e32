use Rattle.std.proofs.Common.{◌≡◌, ◌++◌}
use Rattle.trial_text.specs.Trial.{for_each, blocks_text}
use Rattle.trial_text.proofs.trial.all_blocks.Given as goal

abbrev pub invariant-loop-i : goal.invariant-loop-i
invariant-loop-i l = l.out.items ≡ l.initial.out.items ++ for_each l.i (blocks_text l.n)
