use Rattle.client_hooks.proofs.Copies.{next_copied}
use Rattle.client_hooks.proofs.copying.copy_slots.Goals as goal

pub loop-n-preserved : goal.loop-n-preserved
loop-n-preserved c = next_copied _ _ _ c.loop-n.n _ c.loop-n.invariant c.at.ensures c.in_ok-push_slice.ensures.ok
