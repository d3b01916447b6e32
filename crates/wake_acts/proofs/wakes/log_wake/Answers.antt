use Rattle.wake_acts.proofs.WakeViews.{all_threads_still}
use Rattle.wake_acts.proofs.wakes.log_wake.Goals as goal

pub log_woken-requires-clause-threads : goal.log_woken-requires-clause-threads
log_woken-requires-clause-threads g c = all_threads_still _ _ c.args.woken.now _ c.requires.threads c.log_other.ensures.added
