use Rattle.clock_laws.specs.Lemmas.Tests.{left-clock}
use Rattle.clock_laws.proofs.laws.left_stack_carries_its_clock.Goals as goal

pub returns : goal.returns
returns c = left-clock
