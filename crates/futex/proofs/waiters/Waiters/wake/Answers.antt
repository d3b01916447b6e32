use Rattle.std.proofs.Common.{subst, sym}
use Rattle.futex.specs.Kept.{AreApart}
use Rattle.futex.proofs.Apart.{apart_kept}
use Rattle.futex.proofs.waiters.Waiters.wake.Goals as goal

pub invariant_of-self : goal.invariant_of-self
invariant_of-self c = subst AreApart (sym c.keep_others.ensures.kept) (apart_kept c.as_slice.result.now c.self.inside.list.items c.self.invariant)
