use Rattle.std.proofs.Common.{refl}
use Rattle.std.proofs.lemmas.Bool.{eq-eqb}
use Rattle.view_parts.proofs.rows.start.Goals as goal

pub join-requires : goal.join-requires
join-requires c = c.requires.child c.in-NewThread.child (rw c.in-NewThread.is (eq-eqb c.in-NewThread.child c.in-NewThread.child refl))
