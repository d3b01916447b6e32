use Rattle.clocks.specs.Zeros.{zeros-at}
use Rattle.clocks.proofs.clock.Clock.new.Goals as goal

pub returns-clause-nothing : goal.returns-clause-nothing
returns-clause-nothing c = zeros-at 64
