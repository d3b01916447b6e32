use Rattle.std.proofs.Common.{◌≡◌, Some, slice_get, subst}
use Rattle.seats.specs.Seats.{runnable_of}
use Rattle.run_state.specs.Held.{Held}
use Rattle.mu_step.proofs.LocalLaws.{step_as, local_place}
use Rattle.mu_step.proofs.locals.is_local_at.Goals as goal

pub is_local_turn-requires-clause-there : goal.is_local_turn-requires-clause-there
is_local_turn-requires-clause-there g c =
    step_as g.C.Determined.way c.args.code.now c.args.state.now c.take_up.new.state c.args.place c.nth_runnable-thread.result c.requires.rules c.take_up.ensures c.stands.ensures c.requires.whole c.requires.room c.requires.place
    (subst (λ (s : Held). slice_get (runnable_of s.seats) c.args.place ≡ Some c.nth_runnable-thread.result) c.state.view_is c.nth_runnable-thread.ensures)

pub returns-clause-local : goal.returns-clause-local
returns-clause-local g c =
    local_place c.args.code.now c.args.state.now c.take_up.new.state c.args.place c.nth_runnable-thread.result c.is_local_turn.result
    (subst (λ (s : Held). slice_get (runnable_of s.seats) c.args.place ≡ Some c.nth_runnable-thread.result) c.state.view_is c.nth_runnable-thread.ensures) c.take_up.ensures c.stands.ensures c.is_local_turn.ensures
