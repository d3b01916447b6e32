use Rattle.std.specs.Prelude.{Some, IfSome}
use Rattle.std.proofs.Common.{subst, sym}
use Rattle.seats.proofs.Showing.{none_taken}
use Rattle.seats.proofs.asking.show.Goals as goal

pub give_stack-requires-clause-without : goal.give_stack-requires-clause-without
give_stack-requires-clause-without g c = none_taken c.args.threads.now c.take_stack.new.self c.args.thread c.take_stack.result c.take_stack.ensures.stack c.take_stack.ensures.taken
