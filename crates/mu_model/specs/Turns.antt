-- Whose turn it is.
use Rattle.std.specs.Prelude.{ℕ, ◌==◌, List, [], ◌∷◌, Option, Some, None, slice_get, if◌then◌else◌}
use Rattle.typed_heap.specs.Places.{with_some}
use Rattle.frames.specs.Activations.{Activation}
use Rattle.mu_model.specs.Configuration.{Stack, Ready, Active, Dead, Thread, Configuration}
use Rattle.mu_model.specs.Acts.{Doing, Program}

-- the thread, its stack, the frames there, and what its instruction does
pub record Turn : Type 0 where
  pub thread : ℕ
  pub stack : ℕ
  pub top : Activation
  pub below : List Activation
  pub doing : Doing

-- the frames of a stack that is active on that thread
abbrev pub active_on : ℕ → Stack → Option (List Activation)
active_on i (Active j fs) = if j == i then Some fs else None
active_on i (Ready fs) = None
active_on i Dead = None

abbrev pub turn_at : Program → ℕ → ℕ → List Activation → Option Turn
turn_at p i k [] = None
turn_at p i k (f ∷ fs) = with_some (p.doing f.block f.at f.vars) (λ d. Some (record { thread = i; stack = k; top = f; below = fs; doing = d }))

abbrev pub turn_of : Program → Configuration → ℕ → Option Turn
turn_of p c i =
    with_some (slice_get c.threads i) (λ t. with_some t (λ (t : Thread). with_some (slice_get c.stacks t.stack) (λ s. with_some (active_on i s) (turn_at p i t.stack))))

-- its top frame waits behind its instruction for values of these classes
abbrev pub waiting : Turn → List ℕ → Option Activation
waiting u cs = with_some u.doing.exceptional (λ h. with_some u.doing.kept (λ ks. Some (record u.top { waits = cs; handler = h; kept = ks })))
