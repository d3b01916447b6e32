use Rattle.std.proofs.Common.{◌∙◌}
use Rattle.clocks.proofs.PlacesKept.{place-some, place-none}
use Rattle.clocks.proofs.event_clocks.EventClocks.of.Goals as goal

pub returns-in-Some : goal.returns-in-Some
returns-in-Some c u = rw (← c.self.view_is) (c.of.ensures u ∙ place-some c.self.inside.places.entries c.self.inside.clocks c.args.number c.in-Some.place.now c.in-Some.ensures.value u)

pub returns-in-None : goal.returns-in-None
returns-in-None c u = rw (← c.self.view_is) (place-none c.self.inside.places.entries c.self.inside.clocks c.args.number c.in-None.ensures.value u)
