use Rattle.clocks.proofs.PlacesKept.{place-same}
use Rattle.clocks.proofs.event_clocks.EventClocks.reserve.Goals as goal

pub returns-clause-same : goal.returns-clause-same
returns-clause-same c = rw (← c.self.view_is) (place-same c.self.inside.places.entries c.reserve.new.self.entries c.self.inside.clocks c.reserve-2.new.self c.reserve.ensures.entries.2 c.reserve-2.ensures.same)
