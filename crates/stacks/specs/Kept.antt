-- How a directory keeps its stacks: the bodies of those that are ready stand under keys, which are used again.
use Rattle.std.specs.Prelude.{◌≡◌, ℕ, ◌+◌, ◌≤◌, Bool, true, false, List, Option, Some, None, length, count_by, slice_get, IsSomeAnd}
use Rattle.slab.specs.Slab.{Slab, get, slab_len}
use Rattle.stacks.specs.Stacks.{Unbound}
use Rattle.stacks.specs.Directories.{Entry}
use Rattle.stacks.specs.Directories as entries
use Rattle.stacks.specs.declared.state.StackState.{StackState}
use Rattle.stacks.specs.declared.state.StackState.TheVariants as states
use Rattle.stacks.specs.declared.directory.Kept.{Kept}
use Rattle.stacks.specs.declared.directory.Kept.TheVariants.{Ready, Active, Dead}

-- the entry of a stack that is ready, whose body this is; there always is one
abbrev pub entry_of_body : Option Unbound → Entry
entry_of_body None = entries.Dead
entry_of_body (Some s) = entries.Ready s.frames s.waits

-- what is seen of what is kept of a stack
abbrev pub entry_of : Slab Unbound → Kept → Entry
entry_of bodies (Ready key) = entry_of_body (get bodies key)
entry_of bodies (Active thread) = entries.Active thread
entry_of bodies Dead = entries.Dead

abbrev pub is_active : Kept → Bool
is_active (Ready key) = false
is_active (Active thread) = true
is_active Dead = false

-- a stack that is ready has a body, with its own number
abbrev pub HasBodies : List Kept → Slab Unbound → Type 0
HasBodies kept bodies = (n key : ℕ) → slice_get kept n ≡ Some (Ready key) → IsSomeAnd (get bodies key) (λ s. s.number ≡ n)

-- Each stack that is ready has a body, those that were taken are counted, and there is room for their bodies.
pub record IsSound (kept : List Kept) (bodies : Slab Unbound) (active : ℕ) : Type 0 where
  pub bodied : HasBodies kept bodies
  pub counted : active ≡ count_by is_active kept
  pub room : slab_len bodies + active ≤ bodies.capacity
  pub few : length kept ≤ 4294967295

-- the state that is told of what is kept of a stack
abbrev pub state_kept : Kept → StackState
state_kept (Ready key) = states.Ready
state_kept (Active thread) = states.Active thread
state_kept Dead = states.Dead
