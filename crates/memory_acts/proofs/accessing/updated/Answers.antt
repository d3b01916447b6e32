use Rattle.memory_acts.specs.AccessLaws.{update_integers}
use Rattle.memory_acts.proofs.accessing.updated.Goals as goal

pub updated-requires : goal.updated-requires
updated-requires c =
    let r = update_integers _ _ _ _ _ _ _ c.requires c.in_default-Int-Int.not-Xchg-0 c.in_default-Int-Int.is-1 c.in_default-Int-Int.is-2 in
    record { a = r.0.0; b = r.0.1 }
