use Rattle.stack_moves.specs.EnteringLaws.{switched, switched_up}
use Rattle.stack_moves.proofs.moving.switch.Goals as goal

pub returns-clause-frames : goal.returns-clause-frames
returns-clause-frames c = switched_up _ _ _ _ _ _ _ _ _ c.requires.other c.requires.takes c.exchange.ensures.seats c.leave_to-passed.ensures.seats c.exchange-2.ensures.frames

pub returns-clause-moved : goal.returns-clause-moved
returns-clause-moved c = switched _ _ _ _ _ _ _ c.args.with_ _ _ c.requires.on c.requires.takes c.exchange.ensures.seats c.leave_to-passed.ensures.seats c.exchange-2.ensures.seats
