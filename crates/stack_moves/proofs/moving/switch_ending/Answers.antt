use Rattle.stack_moves.specs.EnteringLaws.{died, died_up, died_frames}
use Rattle.stack_moves.proofs.moving.switch_ending.Goals as goal

pub returns-clause-ended : goal.returns-clause-ended
returns-clause-ended c = died_frames _ _ _ _ _ _ c.requires.within c.exchange.ensures.seats c.end_to-ended.ensures.frames

pub returns-clause-frames : goal.returns-clause-frames
returns-clause-frames c = died_up _ _ _ _ _ _ _ _ _ c.requires.other c.requires.takes c.exchange.ensures.seats c.end_to-ended.ensures.seats c.exchange-2.ensures.frames

pub returns-clause-moved : goal.returns-clause-moved
returns-clause-moved c = died _ _ _ _ _ _ _ c.args.with_ _ _ c.requires.on c.requires.takes c.exchange.ensures.seats c.end_to-ended.ensures.seats c.exchange-2.ensures.seats
