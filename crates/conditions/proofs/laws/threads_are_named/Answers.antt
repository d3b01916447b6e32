use Rattle.conditions.proofs.Threads as threads
use Rattle.conditions.proofs.laws.threads_are_named.Goals as goal

pub returns : goal.returns
returns c = threads.threads_are_named
