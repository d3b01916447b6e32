use Rattle.std.proofs.Common.{◌≡◌, false, None, sym, subst}
use Rattle.std.specs.Prelude.{find}
use Rattle.futex.specs.Waiting.{is_of}
use Rattle.run_state.specs.Held.{Held}
use Rattle.run_state.specs.Hand.{waits_none}
use Rattle.mu_step.specs.Locals.{stepping_local}
use Rattle.mu_step.proofs.LocalLaws.{waits_so, asks_so}
use Rattle.mu_step.proofs.locals.is_local_turn.Goals as goal

pub returns-in-Some : goal.returns-in-Some
returns-in-Some g c = subst (λ (s : Held). false ≡ stepping_local c.args.code.now s) c.state.view_is (sym (waits_so c.args.code.now _ c.in-Some._cell c.in-Some.ensures))

pub returns-in_ok-act-in-None : goal.returns-in_ok-act-in-None
returns-in_ok-act-in-None g c =
    asks_so c.args.code.now c.args.state.now _ c.is_local_act.result (subst (λ (s : Held). find (is_of s.thread) s.seats.waiters ≡ None) c.state.view_is (waits_none _ (sym c.in-None.ensures)))
    c.in_ok-act-in-None.ensures.asked c.is_local_act.ensures
