-- Accesses of memory: what a thread may read, what it logs, and races.
use Rattle.std.specs.Prelude.{ℕ, suc, List, [], ◌∷◌, Option, Some, None, map, option_map, length, slice_get, nat_eq, ◌&&◌, if◌then◌else◌}
use Rattle.mu_values.specs.declared.scalars.Scalar.{Scalar}
use Rattle.mu_values.specs.declared.scalars.Scalar.TheVariants.{Int}
use Rattle.mu_base.specs.declared.operators.UpdateOp.{UpdateOp}
use Rattle.mu_base.specs.declared.operators.UpdateOp.TheVariants as updates
use Rattle.mu_values.specs.Updates.{updated_bits}
use Rattle.mu_values.specs.declared.cells.CellId.{CellId}
use Rattle.typed_heap.specs.Objects.{HeapObject}
use Rattle.typed_heap.specs.Places.{with_some, cell_in}
use Rattle.frames.specs.Activations.{Value, Activation}
use Rattle.mem_axioms.specs.Objects.{initial_of}
use Rattle.mem_axioms.specs.Choices.{choices}
use Rattle.mem_axioms.specs.Races.{race}
use Rattle.mem_axioms.specs.declared.types.Mode.TheVariants.{Read, Write, Update}
use Rattle.mem_axioms.specs.declared.types.Kind.{Kind}
use Rattle.mem_axioms.specs.declared.types.Kind.TheVariants as kinds
use Rattle.mem_axioms.specs.declared.types.Event.{Event}
use Rattle.mem_axioms.specs.declared.types.Wanted.{Wanted}
use Rattle.mem_axioms.specs.declared.types.Wanted.TheVariants.{Load, Swap, Compare}
use Rattle.mem_axioms.specs.declared.types.Chosen.{Chosen}
use Rattle.mu_model.specs.declared.endings.Case.TheVariants.{DataRace}
use Rattle.mu_model.specs.declared.endings.Raced.{Raced}
use Rattle.mu_model.specs.declared.endings.Ending.TheVariants.{Undefined}
use Rattle.mu_model.specs.Configuration.{Configuration}
use Rattle.mu_model.specs.Acts.{Access, Loads, Stores, Compares, Updates, Program}
use Rattle.mu_model.specs.Operands.{is_integer}
use Rattle.mu_model.specs.ComputationForms.{bit}
use Rattle.mu_model.specs.Frames.{passed}
use Rattle.mu_threads.specs.Picks.{pick}
use Rattle.mu_model.specs.Changes.{event, logged_event}
use Rattle.mu_model.specs.Turns.{Turn}
use Rattle.mu_model.specs.Outcomes.{Outcome, on, next, onto, ended, tried, or_case}

-- ---- an access in the words of memory

abbrev pub wanted : Access → Wanted
wanted (Loads o) = Load o
wanted (Stores o v) = Swap
wanted (Compares weak o f expected v) = Compare o f expected weak
wanted (Updates o op v) = Swap

-- integers of one width
abbrev pub updated_integer : UpdateOp → Scalar → Scalar → Option Scalar
updated_integer op (Int w a) (Int v b) = if nat_eq w v && is_integer w a && is_integer w b then Some (Int w (updated_bits op w a b)) else None
updated_integer op _ _ = None

-- what an update makes of the value that it reads; all but the exchange are of integers
abbrev pub updated : UpdateOp → Scalar → Scalar → Option Scalar
updated updates.Xchg old v = Some v
updated op old v = updated_integer op old v

-- what is logged of an access of a cell that takes a choice, where an update writes w
abbrev pub taking : Access → CellId → Chosen → Scalar → Kind
taking (Loads o) cell k w = kinds.Access Read cell o k.position k.value
taking (Stores o v) cell k w = kinds.Access Write cell o (suc k.position) v
taking (Compares weak o f expected v) cell k w = if k.success then kinds.Access Update cell o (suc k.position) v else kinds.Access Read cell f k.position k.value
taking (Updates o op v) cell k w = kinds.Access Update cell o (suc k.position) w

-- the same, where an update writes what it makes of the value that it reads
abbrev pub kind_of : Access → CellId → Chosen → Option Kind
kind_of (Updates o op v) cell k = with_some (updated op k.value v) (λ s. Some (taking (Updates o op v) cell k s))
kind_of a cell k = Some (taking a cell k k.value)

abbrev pub access_results : Access → Chosen → List Value
access_results (Loads o) k = (k.value ∷ []) ∷ []
access_results (Stores o v) k = []
access_results (Compares weak o f expected v) k = (k.value ∷ []) ∷ (Int 1 (bit k.success) ∷ []) ∷ []
access_results (Updates o op v) k = (k.value ∷ []) ∷ []

-- ---- the access

-- the scalars that cells begin with
abbrev pub initial : Configuration → CellId → Scalar
initial c = initial_of (map (λ (o : HeapObject). o.initial) c.objects)

abbrev pub race_of : Event → ℕ → Raced
race_of e n = record { event = e; earlier = n }

-- Its event is not added where it races; else the thread goes on with these frames.
abbrev pub raced : Configuration → Turn → Event → List Activation → Option ℕ → Outcome
raced c u e fs (Some n) = ended c (Undefined DataRace u.thread u.top.block u.top.at (Some (race_of e n)))
raced c u e fs None = next (logged_event e c) u (Some fs)

abbrev pub accessed : Configuration → Turn → Option Kind → Option (List Activation) → Outcome
accessed c u kind frames = on kind (λ k. on frames (λ fs. raced c u (event u.thread k) fs (race c.rule c.log (event u.thread k))))

abbrev pub takes_option : Program → Configuration → Turn → Access → CellId → Chosen → Outcome
takes_option p c u a cell k = accessed c u (kind_of a cell k) (with_some (passed p u.top (access_results a k)) (onto u))

-- one of its options is picked
abbrev pub picking_option : Program → Configuration → Turn → Access → CellId → List Chosen → Outcome
picking_option p c u a cell ks = let k = pick (length ks) c.picks in on (slice_get ks k.0) (takes_option p (record c { picks = k.1 }) u a cell)

-- the place may be the object's end, and its cells may be dead; then the options are those that the log allows
abbrev pub accesses_cell : Program → Configuration → Turn → Access → CellId → Outcome
accesses_cell p c u a cell =
    tried p c u (option_map or_case (cell_in c.objects cell)) (λ there. picking_option p c u a there (choices c.rule (initial c) c.log u.thread there (wanted a)))
