use Rattle.frames.specs.Chains.{chain_of}
use Rattle.mu_step.proofs.Lifting.{lifted_into}
use Rattle.mu_step.proofs.step.lift.Goals as goal

pub returns : goal.returns
returns g c = lifted_into c.args.state.now _ c.args.thread c.stack_of-stack.result (chain_of c.exchange.new.frames) c.exchange.new.self c.state.view_is c.requires.empty c.exchange.ensures.frames c.exchange.ensures.seats
