use Rattle.swap_acts.specs.StartLaws.{begun_seats, begun_up, begun_on}
use Rattle.swap_acts.proofs.starting.switch_starting.Goals as goal

pub exchange-requires-2 : goal.exchange-requires-2
exchange-requires-2 c = begun_on _ _ _ _ _ _ _ _ c.made-number.ensures c.exchange.ensures.seats c.start-passed.ensures.seats

pub returns-clause-frames : goal.returns-clause-frames
returns-clause-frames c = begun_up _ _ _ _ _ _ _ _ _ _ c.made-number.ensures c.requires.other c.requires.takes c.exchange.ensures.seats c.start-passed.ensures.seats c.exchange-2.ensures.frames

pub returns-clause-started : goal.returns-clause-started
returns-clause-started c = begun_seats _ _ _ _ c.args.seat.thread _ _ _ c.args.with_ _ _ c.requires.takes c.exchange.ensures.seats c.start-passed.ensures.seats c.exchange-2.ensures.seats
