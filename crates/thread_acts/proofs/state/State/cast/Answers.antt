use Rattle.object_acts.specs.ObjectViews.{casts_at}
use Rattle.thread_acts.proofs.state.State.cast.Goals as goal

pub cast-cast-requires-clause-there : goal.cast-cast-requires-clause-there
cast-cast-requires-clause-there g c = casts_at _ _ _ _ _ c.self.view_is c.requires.there
