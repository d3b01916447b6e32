use Rattle.std.proofs.Common.{refl}
use Rattle.run_state.specs.ActViews.{gives_there, gave}
use Rattle.thread_acts.proofs.state.State.give.Goals as goal

pub go_on-requires : goal.go_on-requires
go_on-requires g c = gives_there _ _ _ _ _ c.self.view_is c.requires.there refl

pub returns-clause-ok : goal.returns-clause-ok
returns-clause-ok g c = gave _ _ _ _ _ _ c.self.view_is c.requires.there c.in_ok-go_on.ensures.top c.go_on.ensures.below c.went.ensures.on
