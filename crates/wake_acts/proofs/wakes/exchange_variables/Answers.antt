use Rattle.std.proofs.Common.{ap}
use Rattle.frames.specs.Chains.{chain_of}
use Rattle.wake_acts.proofs.WakeViews.{vars_there, back_again}
use Rattle.wake_acts.proofs.wakes.exchange_variables.Goals as goal

pub returns-clause-seats : goal.returns-clause-seats
returns-clause-seats c =
    vars_there c.args.seats.now _ _ c.args.thread c.args.stack c.args.variables.now.values (chain_of c.exchange.new.frames) (chain_of c.args.frames.now) (chain_of c.exchange_on_top.new.frames) c.requires c.exchange.ensures.frames c.exchange.ensures.seats (ap chain_of c.exchange_on_top.ensures.frames) c.exchange-2.ensures.seats

pub returns-clause-frames : goal.returns-clause-frames
returns-clause-frames c = back_again c.args.seats.now _ c.args.thread c.args.stack (chain_of c.exchange.new.frames) (chain_of c.args.frames.now) (chain_of c.exchange-2.new.frames) c.exchange.ensures.seats c.exchange.ensures.frames c.exchange-2.ensures.frames
