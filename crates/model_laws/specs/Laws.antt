-- What holds of every well-typed program: each law is the contract of a function that does nothing.
use Rattle.std.specs.Prelude.{◌≡◌, ℕ, true, List, [], Some, IsSomeAnd, All, slice_get}
use Rattle.mu_base.specs.declared.order.Order.{Order}
use Rattle.mu_values.specs.declared.scalars.Scalar.{Scalar}
use Rattle.mu_values.specs.declared.cells.CellId.{CellId}
use Rattle.check_tables.specs.declared.tables.Tables.{Tables}
use Rattle.typed_heap.specs.Fits.{World, signature_classes}
use Rattle.frames.specs.Activations.{Activation}
use Rattle.mem_axioms.specs.Axioms.{meets_axioms}
use Rattle.mem_axioms.specs.Races.{Racing}
use Rattle.mem_axioms.specs.Logs.{event_at, past_of}
use Rattle.mem_axioms.specs.Form.{value_at}
use Rattle.mem_axioms.specs.Choices.{is_option}
use Rattle.mem_axioms.specs.declared.types.Mode.TheVariants.{Read}
use Rattle.mem_axioms.specs.declared.types.Kind.TheVariants.{Access}
use Rattle.mu_model.specs.Types.{type_graph, classes_taken}
use Rattle.mu_model.specs.Acts.{Program}
use Rattle.mu_model.specs.Configuration.{Active, Thread, Configuration}
use Rattle.mu_model.specs.Accesses.{initial}
use Rattle.mu_model.specs.Turns.{turn_of}
use Rattle.mu_model.specs.Step.{step}
use Rattle.mu_model.specs.Run.{Setting, first_configuration, client_answers}
use Rattle.model_laws.specs.Values.{world, HasGlobals}
use Rattle.model_laws.specs.Places.{Places}
use Rattle.model_laws.specs.ActsFit.{ActFits}
use Rattle.model_laws.specs.Programs.{IsTyped}
use Rattle.model_laws.specs.LogFits.{ObjectFits}
use Rattle.model_laws.specs.ClientsFit.{ClientFits}
use Rattle.model_laws.specs.WellTyped.{WellTyped, GoesWell, Settles}

-- ---- the first configuration

-- what there is before the first step: one stack and one thread, beside the objects that are given
abbrev pub first_world : Tables → Setting → World
first_world p s = record { objects = s.objects; signatures = signature_classes p; stacks = 1; threads = 1 }

-- a run that is given objects and a client that fit begins well typed, in a function that takes nothing
abbrev pub FirstIsWellTyped : Type 0
FirstIsWellTyped = (p : Program) (t : Places) (s : Setting) (f : ℕ) (c : Configuration) → IsTyped p t → HasGlobals p.tables (first_world p.tables s) →
    All (ObjectFits (type_graph p.tables) (first_world p.tables s)) s.objects → ClientFits p.tables s.client → classes_taken p.tables f ≡ [] →
    first_configuration p s f ≡ Some c → WellTyped p t c

-- ---- a step

-- there is a rule, and what follows is well typed, whatever answer that fits the client gives
abbrev pub StepsGoWell : Type 0
StepsGoWell = (p : Program) (t : Places) (c : Configuration) → IsTyped p t → WellTyped p t c → GoesWell p t (world p.tables c) (step p c)

-- the client's own answers fit
abbrev pub ClientsSettle : Type 0
ClientsSettle = (p : Program) (t : Places) (c : Configuration) → IsTyped p t → WellTyped p t c → Settles p t (client_answers p c.client (step p c))

-- a thread that is left has an instruction, and each of its operands that is read has a value, which fits its type
abbrev pub OperandsFit : Type 0
OperandsFit = (p : Program) (t : Places) (c : Configuration) → IsTyped p t → WellTyped p t c → (i : ℕ) (th : Thread) → slice_get c.threads i ≡ Some (Some th) →
    IsSomeAnd (turn_of p c i) (λ u. IsSomeAnd u.doing.act (ActFits p t (world p.tables c) u.top.block u.top.at))

-- ---- a moment between two steps

-- no two threads are on one stack, and no thread is on two
pub record OneOwner (c : Configuration) : Type 0 where
  pub one_thread : (i j : ℕ) (s r : Thread) → slice_get c.threads i ≡ Some (Some s) → slice_get c.threads j ≡ Some (Some r) → s.stack ≡ r.stack → i ≡ j
  pub one_stack : (i k m : ℕ) (fs gs : List Activation) → slice_get c.stacks k ≡ Some (Active i fs) → slice_get c.stacks m ≡ Some (Active i gs) → k ≡ m

abbrev pub StacksHaveOneOwner : Type 0
StacksHaveOneOwner = (p : Program) (t : Places) (c : Configuration) → WellTyped p t c → OneOwner c

abbrev pub LogsMeetAxioms : Type 0
LogsMeetAxioms = (p : Program) (t : Places) (c : Configuration) → WellTyped p t c → meets_axioms c.rule (initial c) c.log ≡ true

abbrev pub LogsAreRaceFree : Type 0
LogsAreRaceFree = (p : Program) (t : Places) (c : Configuration) → WellTyped p t c → (i j : ℕ) → Racing c.rule c.log i j → ⊥

-- each read in the log was an option of its past, and has the value that stood there
abbrev pub ReadsWereOffered : Type 0
ReadsWereOffered = (p : Program) (t : Places) (c : Configuration) → WellTyped p t c →
    (i thread : ℕ) (cell : CellId) (order : Order) (position : ℕ) (value : Scalar) → event_at c.log i ≡ Some (record { thread = thread; kind = Access Read cell order position value }) →
    (is_option c.rule (initial c) (past_of c.log i) thread cell order position ≡ true) × (value ≡ value_at (initial c) (past_of c.log i) cell position)
