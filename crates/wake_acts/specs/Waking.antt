-- Nothing that a reader believes of a run rests on this. It is what becomes of threads that are woken, in parts.
use Rattle.std.specs.Prelude.{◌≡◌, ◌≢◌, ◌≤◌, ℕ, suc, Bool, true, List, [], ◌∷◌, ◌++◌, Option, Some, None, slice_get, slice_set, if◌then◌else◌}
use Rattle.ir_tree.specs.declared.items.Item.{Item}
use Rattle.typed_heap.specs.Places.{with_some}
use Rattle.frames.specs.Activations.{Value, Activation}
use Rattle.frames.specs.Chains.{stands}
use Rattle.mu_values.specs.declared.cells.CellId.{CellId}
use Rattle.mu_values.specs.Slots.{RoomyValues}
use Rattle.mem_axioms.specs.declared.types.Event.{Event}
use Rattle.mem_axioms.specs.declared.types.Kind.TheVariants.{Wake, Woken}
use Rattle.mem_axioms.specs.EventFits.{is_thread}
use Rattle.mu_model.specs.declared.lines.Line.{Line}
use Rattle.mu_model.specs.declared.lines.Line.TheVariants as lines
use Rattle.mu_model.specs.Changes.{event}
use Rattle.mu_model.specs.Configuration.{Stack, Active, Thread}
use Rattle.mu_model.specs.Turns.{active_on}
use Rattle.mu_model.specs.Waiting.{was_woken}
use Rattle.run_state.specs.Acting.{goes_on}

-- ---- threads that go on behind their waits

-- the stack of a thread, with its frames
abbrev pub frames_at : List (Option Thread) → List Stack → ℕ → Option (ℕ × List Activation)
frames_at ts ss i = with_some (slice_get ts i) (λ o. with_some o (λ (t : Thread). with_some (slice_get ss t.stack) (λ k. with_some (active_on i k) (λ fs. Some (t.stack, fs)))))

-- frames, of which the top one goes on behind its wait
abbrev pub behind : List Item → List Activation → Option (List Activation)
behind bundle [] = None
behind bundle (f ∷ fs) = with_some (goes_on bundle f ((was_woken ∷ []) ∷ [])) (λ g. Some (g ∷ fs))

-- frames, of which the top one stands so
abbrev pub stood : ℕ → ℕ → List Value → List Activation → List Activation
stood block at vs [] = []
stood block at vs (f ∷ fs) = stands f block at vs ∷ fs

-- frames, of which the top one has these variables
abbrev pub with_vars : List Value → List Activation → List Activation
with_vars vs [] = []
with_vars vs (f ∷ fs) = record f { vars = vs } ∷ fs

-- the variables of the top one
abbrev pub vars_of : List Activation → List Value
vars_of [] = []
vars_of (f ∷ fs) = f.vars

-- frames, of which the variables of the top one may have been taken
abbrev pub emptied : Bool → List Activation → List Activation
emptied taken fs = if taken then with_vars [] fs else fs

-- the same once it has what was taken again
abbrev pub undone : Bool → List Value → List Activation → List Activation
undone taken vs fs = if taken then with_vars vs fs else fs

-- what its variables become: the result comes after what was taken
abbrev pub finished : Bool → List Value → List Value
finished taken vs = if taken then vs ++ (was_woken ∷ []) ∷ [] else vs

-- a list has room for one value of one scalar
abbrev pub HasRoomForOne : RoomyValues → Type 0
HasRoomForOne to = (1 ≤ to.spare) × (1 ≤ to.spare_scalars)

-- these values are held for frames, of which the top one goes on so
pub record IsHeld (bundle : List Item) (fs : List Activation) (block at : ℕ) (taken : Bool) (vs : List Value) : Type 0 where
  pub goes : behind bundle fs ≡ Some (stood block at (finished taken vs) fs)
  pub back : undone taken vs (emptied taken fs) ≡ fs

-- a thread goes on behind its wait
abbrev pub goes_behind : List Item → List (Option Thread) → ℕ → List Stack → Option (List Stack)
goes_behind bundle ts i ss = with_some (frames_at ts ss i) (λ at. with_some (behind bundle at.1) (λ fs. Some (slice_set ss at.0 (Active i fs))))

-- all of these threads do, in order
unfoldable pub all_go : List Item → List (Option Thread) → List ℕ → List Stack → Option (List Stack)
all_go bundle ts [] ss = Some ss
all_go bundle ts (i ∷ is) ss = with_some (goes_behind bundle ts i ss) (all_go bundle ts is)

-- another one than all of these
abbrev pub IsOther : ℕ → List ℕ → Type 0
IsOther i [] = Unit {0}
IsOther i (j ∷ js) = (j ≢ i) × IsOther i js

-- no two of these are the same
abbrev pub AreDistinct : List ℕ → Type 0
AreDistinct [] = Unit {0}
AreDistinct (i ∷ is) = IsOther i is × AreDistinct is

-- ---- events

abbrev pub woken_event : ℕ → ℕ → Event
woken_event wake i = event i (Woken wake)

abbrev pub wake_event : ℕ → CellId → ℕ → Event
wake_event i cell n = event i (Wake cell n)

-- the log, once these threads are woken by an event with that number
unfoldable pub logs_woken : ℕ → List ℕ → List Event → List Event
logs_woken wake [] log = log
logs_woken wake (i ∷ is) log = logs_woken wake is (woken_event wake i ∷ log)

-- their lines, oldest first, of which the first has number n
unfoldable pub woken_lines : ℕ → List ℕ → ℕ → List Line
woken_lines wake [] n = []
woken_lines wake (i ∷ is) n = lines.Event n (woken_event wake i) ∷ woken_lines wake is (suc n)

-- all of these are threads of the log
abbrev pub AreThreads : List Event → List ℕ → Type 0
AreThreads log [] = Unit {0}
AreThreads log (i ∷ is) = (is_thread log i ≡ true) × AreThreads log is
