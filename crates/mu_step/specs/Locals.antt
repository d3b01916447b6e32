-- Nothing that a reader believes of a run rests on this. It is whether the step of the thread in hand is local.
use Rattle.std.specs.Prelude.{◌≢◌, ℕ, Bool, List, Some, find}
use Rattle.ir_tree.specs.declared.items.Item.{Item}
use Rattle.typed_heap.specs.Places.{with_some}
use Rattle.mu_model.specs.Configuration.{Configuration}
use Rattle.mu_model.specs.Outcomes.{Stuck}
use Rattle.mu_model.specs.Step.{step}
use Rattle.futex.specs.Waiting.{is_of}
use Rattle.local_steps.specs.IsLocal.{is_local_turn}
use Rattle.model_numbers.specs.Numbered.{numbered}
use Rattle.client_hooks.specs.Ways.{Way}
use Rattle.run_state.specs.Held.{Held}
use Rattle.run_state.specs.Acting.{turn, doing_of, told}

unfoldable pub stepping_local : List Item → Held → Bool
stepping_local bundle s = is_local_turn (numbered bundle) (find (is_of s.thread) s.seats.waiters) (with_some (doing_of (numbered bundle) s) (λ d. Some (turn s d)))

-- the next step has a rule, whichever numbers the schedule has left
abbrev pub AllHaveRules : Way → List Item → Configuration → Type 0
AllHaveRules how bundle c = (picks : List ℕ) → told how bundle c.client (step (numbered bundle) (record c { picks = picks })) ≢ Stuck
