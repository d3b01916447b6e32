use Rattle.std.proofs.Common.{List, ◌+◌, ◌-◌}
use Rattle.std.specs.Prelude.{vec_len}
use Rattle.mem_axioms.specs.declared.types.Event.{Event}
use Rattle.log_judge.specs.Kept.{ThreadsHold}
use Rattle.log_judge.proofs.log_views.list_threads.Given as goal

abbrev pub invariant-loop-threads : goal.invariant-loop-threads
invariant-loop-threads l = (log : List Event) → ThreadsHold l.initial.threads.items log → ThreadsHold l.threads.items log

abbrev pub decreases-loop-threads : goal.decreases-loop-threads
decreases-loop-threads l = l.thread + 1 - vec_len l.threads
