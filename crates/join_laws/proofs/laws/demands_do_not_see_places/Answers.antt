use Rattle.join_laws.proofs.Accepted.{places_unseen}
use Rattle.join_laws.proofs.laws.demands_do_not_see_places.Goals as goal

pub returns : goal.returns
returns c = places_unseen
