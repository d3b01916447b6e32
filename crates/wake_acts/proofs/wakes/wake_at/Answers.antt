use Rattle.std.proofs.Common.{◌∙◌, ap, sym, subst, arith, length, List}
use Rattle.frames.specs.Chains.{chain_of}
use Rattle.mem_axioms.specs.declared.types.Event.{Event}
use Rattle.mem_axioms.specs.EventFits.{is_thread}
use Rattle.run_state.specs.Held.{Held}
use Rattle.run_state.specs.Hand.{hand_made}
use Rattle.wake_acts.specs.Waking.{AreDistinct}
use Rattle.wake_acts.specs.WakeLaws.{oldest_distinct}
use Rattle.wake_acts.proofs.WakeViews.{wake_goes_on, wake_all_go, wake_threads, wake_sound, wake_many, waked}
use Rattle.wake_acts.proofs.wakes.wake_at.Goals as goal

pub go_on_all-requires-clause-goes : goal.go_on_all-requires-clause-goes
go_on_all-requires-clause-goes g c = wake_goes_on c.args.code.now c.args.state.now _ c.args.many c.args.cell _ (record { view = c.state.view_is; left = c.requires.left; sound = c.state.invariant.5; alone = c.requires.goes_on; those = c.as_slice-woken.ensures ∙ c.waking-waking.ensures }) c.requires.there _ _ (c.count-count.ensures.is ∙ ap length (sym c.as_slice-woken.ensures)) c.in_ok-tell.ensures

pub go_on_all-requires-clause-distinct : goal.go_on_all-requires-clause-distinct
go_on_all-requires-clause-distinct g c = subst AreDistinct (sym (c.as_slice-woken.ensures ∙ c.waking-waking.ensures)) (oldest_distinct c.args.cell c.args.many c.state.inside.seats.waiters c.waiters_are_apart.ensures)

pub go_on_all-requires-clause-there : goal.go_on_all-requires-clause-there
go_on_all-requires-clause-there g c = wake_all_go c.args.code.now c.args.state.now _ c.args.many c.args.cell _ (record { view = c.state.view_is; left = c.requires.left; sound = c.state.invariant.5; alone = c.requires.goes_on; those = c.as_slice-woken.ensures ∙ c.waking-waking.ensures }) c.requires.there

pub log_wake-requires-clause-thread : goal.log_wake-requires-clause-thread
log_wake-requires-clause-thread g c =
    ap (λ (lg : List Event). is_thread lg c.state.inside.thread) c.reserve.ensures.same_log ∙ hand_made _ _ _ _ _ c.state.invariant.5 (ap (λ (s : Held). s.left) c.state.view_is ∙ c.requires.left)

pub log_wake-requires-clause-threads : goal.log_wake-requires-clause-threads
log_wake-requires-clause-threads g c = wake_threads c.args.code.now c.args.state.now _ c.args.many c.args.cell _ (record { view = c.state.view_is; left = c.requires.left; sound = c.state.invariant.5; alone = c.requires.goes_on; those = c.as_slice-woken.ensures ∙ c.waking-waking.ensures }) c.requires.there _ c.reserve.ensures.same_log

pub invariant_of-state-2 : goal.invariant_of-state-2
invariant_of-state-2 g c =
    let steps = ap (λ (s : Held). s.steps) c.state.view_is in
    let budget = ap (λ (s : Held). s.budget) c.state.view_is in (
      c.log_wake.ensures.same_objects ∙ c.reserve.ensures.same_objects ∙ c.state.invariant.0,
      wake_many _ _ _ _ _ _ _ _ _ c.state.invariant.1 (c.count-count.ensures.is ∙ ap length (sym c.as_slice-woken.ensures)) c.reserve.ensures.same_log c.log_wake.ensures.added,
      omega (arith, c.state.invariant.2, c.count-count.ensures.few),
      omega (arith, c.requires.room, steps, budget),
      c.state.invariant.4,
      wake_sound c.args.code.now c.args.state.now _ c.args.many c.args.cell _ (record { view = c.state.view_is; left = c.requires.left; sound = c.state.invariant.5; alone = c.requires.goes_on; those = c.as_slice-woken.ensures ∙ c.waking-waking.ensures }) c.requires.there _ _ _ _ _ _ c.in_ok-go_on_all.ensures.ok c.wake-gone.ensures.others c.reserve.ensures.same_log c.log_wake.ensures.added,
    )

pub returns-clause-ok : goal.returns-clause-ok
returns-clause-ok g c =
    waked c.args.code.now c.args.state.now _ c.args.many c.args.cell _ (record { view = c.state.view_is; left = c.requires.left; sound = c.state.invariant.5; alone = c.requires.goes_on; those = c.as_slice-woken.ensures ∙ c.waking-waking.ensures }) c.requires.there _ _ _ _ _ (chain_of c.go_on_all.new.frames) _ _ _ _ _ (c.count-count.ensures.is ∙ ap length (sym c.as_slice-woken.ensures)) c.state.invariant.1 c.in_ok-tell.ensures c.in_ok-go_on_all.ensures.top c.go_on_all.ensures.below c.in_ok-go_on_all.ensures.ok c.wake-gone.ensures.others
    c.reserve.ensures.same_log c.log_wake.ensures.added c.reserve.ensures.same_rule c.log_wake.ensures.same_rule c.in_ok-lines.ensures
