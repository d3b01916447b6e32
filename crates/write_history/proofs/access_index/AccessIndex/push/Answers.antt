use Rattle.std.specs.Prelude.{[], ◌∷◌}
use Rattle.std.proofs.lemmas.List.{reverse-append}
use Rattle.write_history.proofs.access_index.AccessIndex.push.Goals as goal

pub invariant_of-self : goal.invariant_of-self
invariant_of-self c =
    rw (c.push_reserved.ensures.items, reverse-append c.self.inside.entries.items (record { event = c.args.event; position = c.args.position } ∷ []))
    (rw (← c.self.view_is) at c.requires.above, c.self.invariant)
