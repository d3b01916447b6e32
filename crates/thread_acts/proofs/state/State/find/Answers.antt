use Rattle.object_acts.specs.ObjectViews.{finds_at}
use Rattle.thread_acts.proofs.state.State.find.Goals as goal

pub found-found-requires-clause-there : goal.found-found-requires-clause-there
found-found-requires-clause-there g c = finds_at _ _ _ _ _ c.self.view_is c.requires.there
