use Rattle.std.proofs.Common.{ℕ, List, ap, sym, subst, length, ◌∙◌}
use Rattle.futex.specs.Waiting.{oldest_at, threads_of}
use Rattle.seats.specs.Seats.{Seats}
use Rattle.seats.specs.Kept.{AllBelow, all_running}
use Rattle.seats.proofs.Waking.{woken_made, held_are_left, woken_sound, others_told}
use Rattle.seats.proofs.seats.Seats.wake.Goals as goal

pub run_all_again-requires-clause-made : goal.run_all_again-requires-clause-made
run_all_again-requires-clause-made c =
    let k = c.self.inside in
    subst (λ (is : List ℕ). AllBelow (length k.threads.states) is) (sym (c.as_slice.ensures ∙ c.wake-woken.ensures.woken)) (woken_made k.threads k.stacks k.owns.items _ k.waiters.waiters c.args.cell c.args.many c.self.invariant)

pub run_all_again-requires-clause-left : goal.run_all_again-requires-clause-left
run_all_again-requires-clause-left c =
    let k = c.self.inside in
    held_are_left k.threads k.stacks k.owns.items _ k.waiters.waiters c.self.invariant

pub invariant_of-self : goal.invariant_of-self
invariant_of-self c =
    let k = c.self.inside in
    let all = c.run_all_again.ensures ∙ ap (λ (is : List ℕ). all_running is k.threads) (c.as_slice.ensures ∙ c.wake-woken.ensures.woken) in
    woken_sound k.threads c.run_all_again.new.threads k.stacks k.owns.items _ (oldest_at c.args.cell c.args.many k.waiters.waiters) k.waiters.waiters c.wake-woken.new.self.waiters c.self.invariant all c.wake-woken.ensures.others

pub returns-clause-woken : goal.returns-clause-woken
returns-clause-woken c = c.wake-woken.ensures.woken ∙ ap (λ (v : Seats). threads_of (oldest_at c.args.cell c.args.many v.waiters)) c.self.view_is

pub returns-clause-others : goal.returns-clause-others
returns-clause-others c =
    let k = c.self.inside in
    let all = c.run_all_again.ensures ∙ ap (λ (is : List ℕ). all_running is k.threads) (c.as_slice.ensures ∙ c.wake-woken.ensures.woken) in
    others_told k.threads c.run_all_again.new.threads k.stacks k.owns.items _ k.waiters.waiters c.wake-woken.new.self.waiters c.args.self.now c.args.cell c.args.many c.self.view_is c.self.invariant all c.wake-woken.ensures.others
