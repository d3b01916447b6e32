use Rattle.clocks.proofs.PlacesKept.{place-put}
use Rattle.clocks.proofs.event_clocks.EventClocks.put.Goals as goal

pub returns-clause-put : goal.returns-clause-put
returns-clause-put c =
    let updated = rw c.unwrap.ensures at c.insert-placed.ensures.updates in
    rw (← c.self.view_is)
    (place-put c.self.inside.places.entries c.insert-placed.new.self.entries c.self.inside.clocks c.push.new.self c.args.number c.args.clock.now c.self.invariant (λ k. rw (← c.len-place.ensures) (updated.0 k)) c.push.ensures.pushed)
