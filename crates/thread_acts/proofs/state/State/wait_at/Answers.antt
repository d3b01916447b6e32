use Rattle.std.proofs.Common.{◌∙◌, ap, sym}
use Rattle.run_state.specs.Held.{Held}
use Rattle.run_state.specs.Hand.{hand_made}
use Rattle.memory_acts.specs.FutexViews.{wait_fits, wait_goes_on, waited_on, waited_here}
use Rattle.thread_acts.proofs.state.State.wait_at.Goals as goal

pub stand_waiting-requires-clause-fits : goal.stand_waiting-requires-clause-fits
stand_waiting-requires-clause-fits g c = wait_fits c.args.code.now c.args.self.now _ c.args.wait.timed c.args.wait.expected c.args.wait.cell _ _ c.self.view_is c.self.invariant.0 c.newest-chosen.ensures _ c.read.ensures (hand_made _ _ _ _ _ c.self.invariant.5 (ap (λ (s : Held). s.left) c.self.view_is ∙ c.requires.left)) c.requires.cell

pub log_on-requires-clause-fits : goal.log_on-requires-clause-fits
log_on-requires-clause-fits g c = wait_fits c.args.code.now c.args.self.now _ c.args.wait.timed c.args.wait.expected c.args.wait.cell _ _ c.self.view_is c.self.invariant.0 c.newest-chosen.ensures _ c.read.ensures (hand_made _ _ _ _ _ c.self.invariant.5 (ap (λ (s : Held). s.left) c.self.view_is ∙ c.requires.left)) c.requires.cell

pub log_on-requires-clause-there : goal.log_on-requires-clause-there
log_on-requires-clause-there g c = wait_goes_on c.args.code.now c.args.self.now _ c.args.wait.timed c.args.wait.expected c.args.wait.cell _ _ c.self.view_is c.self.invariant.0 c.newest-chosen.ensures _ c.requires.there (sym c.is_same_scalar.ensures ∙ c.if-is_same_scalar.false) c.in_ok-tell.ensures

pub returns-then-is_same_scalar-clause-ok : goal.returns-then-is_same_scalar-clause-ok
returns-then-is_same_scalar-clause-ok g c = waited_here c.args.code.now c.args.self.now _ c.args.wait.timed c.args.wait.expected c.args.wait.cell _ _ c.self.view_is c.self.invariant.0 c.newest-chosen.ensures c.stand_waiting.result _ _ c.requires.there (sym c.is_same_scalar.ensures ∙ c.if-is_same_scalar.true) c.read.ensures c.stand_waiting.ensures.ok

pub returns-clause-ok : goal.returns-clause-ok
returns-clause-ok g c =
    waited_on c.args.code.now c.args.self.now _ c.args.wait.timed c.args.wait.expected c.args.wait.cell _ _ c.self.view_is c.self.invariant.0 c.newest-chosen.ensures c.log_on.result _ _ _ c.requires.there (sym c.is_same_scalar.ensures ∙ c.if-is_same_scalar.false) c.in_ok-tell.ensures c.read.ensures c.log_on.ensures.ok
