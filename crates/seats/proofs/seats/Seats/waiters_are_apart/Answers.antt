use Rattle.std.proofs.Common.{subst}
use Rattle.futex.specs.Kept.{AreApart}
use Rattle.seats.specs.Seats.{Seats}
use Rattle.seats.proofs.seats.Seats.waiters_are_apart.Goals as goal

pub returns : goal.returns
returns c = subst (λ (v : Seats). AreApart v.waiters) c.self.view_is c.are_apart.ensures
