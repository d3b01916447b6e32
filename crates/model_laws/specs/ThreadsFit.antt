-- Well-typed threads: their stacks, their own objects, and their waits.
use Rattle.std.specs.Prelude.{◌≡◌, ℕ, Bool, false, List, [], ◌∷◌, Option, Some, None, IsSomeAnd, slice_get}
use Rattle.std.specs.List.{list_any}
use Rattle.check_tables.specs.declared.tables.Tables.{Tables}
use Rattle.check_tables.specs.Types.{ref_void}
use Rattle.typed_heap.specs.Fits.{World, ScalarFits}
use Rattle.frames.specs.Activations.{Activation}
use Rattle.mu_model.specs.Types.{type_graph}
use Rattle.mu_model.specs.Acts as acts
use Rattle.mu_model.specs.Acts.{Act, Doing, Program}
use Rattle.futex.specs.declared.waiters.Waiter.{Waiter}
use Rattle.mu_model.specs.Configuration.{Stack, Ready, Active, Dead, Thread}
use Rattle.futex.specs.Waiting.{is_of}

-- ---- 4: the stack of each thread is active on it, and each stack that is active has its thread

abbrev pub IsActiveOn : ℕ → Stack → Type 0
IsActiveOn i (Ready fs) = ⊥
IsActiveOn i (Active j fs) = j ≡ i
IsActiveOn i Dead = ⊥

abbrev pub IsOn : ℕ → Option Thread → Type 0
IsOn k None = ⊥
IsOn k (Some t) = t.stack ≡ k

pub record Owned (ts : List (Option Thread)) (ss : List Stack) : Type 0 where
  pub stacks : (i : ℕ) (t : Thread) → slice_get ts i ≡ Some (Some t) → IsSomeAnd (slice_get ss t.stack) (IsActiveOn i)
  pub threads : (i k : ℕ) (fs : List Activation) → slice_get ss k ≡ Some (Active i fs) → IsSomeAnd (slice_get ts i) (IsOn k)

-- ---- 6: a thread's own object is a ref<void>

abbrev pub ThreadFits : Tables → World → Option Thread → Type 0
ThreadFits p w None = Unit {0}
ThreadFits p w (Some t) = ScalarFits (type_graph p) w (ref_void p.types) t.own

-- ---- 6: the waiters are threads that are left, each once, and each stands at its wait

-- the act is the wait of that waiter
abbrev pub IsWaitOf : Waiter → Option Act → Type 0
IsWaitOf w (Some (acts.Waits timed v cell)) = (timed ≡ w.timed) × (cell ≡ w.cell)
IsWaitOf w _ = ⊥

abbrev pub IsAtWait : Program → Waiter → Stack → Type 0
IsAtWait p w (Active i (f ∷ fs)) = (i ≡ w.thread) × IsSomeAnd (p.doing f.block f.at f.vars) (λ d. IsWaitOf w d.act)
IsAtWait p w _ = ⊥

abbrev pub ThreadAtWait : Program → List Stack → Waiter → Option Thread → Type 0
ThreadAtWait p ss w None = ⊥
ThreadAtWait p ss w (Some t) = IsSomeAnd (slice_get ss t.stack) (IsAtWait p w)

abbrev pub WaiterFits : Program → List (Option Thread) → List Stack → Waiter → Type 0
WaiterFits p ts ss w = IsSomeAnd (slice_get ts w.thread) (ThreadAtWait p ss w)

abbrev pub is_waiting : List Waiter → ℕ → Bool
is_waiting ws i = list_any (is_of i) ws

abbrev pub WaitersFit : Program → List (Option Thread) → List Stack → List Waiter → Type 0
WaitersFit p ts ss [] = Unit {0}
WaitersFit p ts ss (w ∷ ws) = WaiterFits p ts ss w × (is_waiting ws w.thread ≡ false) × WaitersFit p ts ss ws
