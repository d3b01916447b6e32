-- How far a run gets, and how large its parts grow.
use Rattle.std.specs.Prelude.{◌≡◌, ◌≤◌, ◌<◌, ◌+◌, ◌-◌, ◌*◌, ◌^◌, ℕ, suc, List, [], All, Some, length}
use Rattle.typed_heap.specs.Objects.{HeapObject}
use Rattle.mu_model.specs.Types.{type_graph, classes_taken}
use Rattle.mu_model.specs.Acts.{Program}
use Rattle.mu_model.specs.Configuration.{Stack, Ready, Active, Dead, Configuration}
use Rattle.mu_model.specs.Outcomes.{Outcome, Next}
use Rattle.mu_model.specs.Step.{step}
use Rattle.mu_model.specs.Run.{Setting, first_configuration, client_answers, Run, Ends, Breaks, Unfinished, run}
use Rattle.model_laws.specs.Places.{Places}
use Rattle.model_laws.specs.Programs.{IsTyped}
use Rattle.model_laws.specs.WellTyped.{WellTyped}

-- ---- how large a configuration is by its steps

-- how many frames a stack has
abbrev pub depth : Stack → ℕ
depth (Ready fs) = length fs
depth (Active i fs) = length fs
depth Dead = 0

-- in a run that began with so many objects: a step logs at most 66 events, as a wake has one of its own and one for each thread that it
-- wakes, and it makes at most one object, one stack and one frame of a stack
pub record InBounds (objects_first : ℕ) (c : Configuration) : Type 0 where
  pub events : length c.log ≤ 66 * c.steps
  pub objects : length c.objects ≤ objects_first + c.steps
  pub stacks : length c.stacks ≤ 1 + c.steps
  pub frames : All (λ s. depth s ≤ 1 + c.steps) c.stacks

abbrev pub FirstIsInBounds : Type 0
FirstIsInBounds = (p : Program) (s : Setting) (f : ℕ) (c : Configuration) → first_configuration p s f ≡ Some c → InBounds (length s.objects) c

-- a step that goes on is counted, keeps the budget, and stays in bounds
pub record StaysInBounds (objects_first : ℕ) (c d : Configuration) : Type 0 where
  pub steps : d.steps ≡ suc c.steps
  pub budget : d.budget ≡ c.budget
  pub bounds : InBounds objects_first c → InBounds objects_first d

abbrev pub StepsStayInBounds : Type 0
StepsStayInBounds = (p : Program) (t : Places) (c d : Configuration) (objects_first : ℕ) → IsTyped p t → WellTyped p t c → client_answers p c.client (step p c) ≡ Next d →
    StaysInBounds objects_first c d

-- within a million steps every number fits 32 bits, where the objects leave room for those that are made
pub record IsSmall (c : Configuration) : Type 0 where
  pub events : length c.log < 2 ^ 32
  pub objects : length c.objects < 2 ^ 32
  pub stacks : length c.stacks < 2 ^ 32
  pub threads : length c.threads ≤ 64
  pub frames : All (λ s. depth s < 2 ^ 32) c.stacks

abbrev pub RunsStaySmall : Type 0
RunsStaySmall = (p : Program) (t : Places) (c : Configuration) (objects_first : ℕ) → WellTyped p t c → InBounds objects_first c → c.budget ≤ 1000000 →
    objects_first + 1000000 < 2 ^ 32 → IsSmall c

-- ---- a run has an ending

abbrev pub HasEnding : Run → Type 0
HasEnding (Ends steps lines e) = Unit {0}
HasEnding Breaks = ⊥
HasEnding Unfinished = ⊥

-- within one step more than it may make
abbrev pub RunsEnd : Type 0
RunsEnd = (p : Program) (t : Places) (c : Configuration) (n : ℕ) → IsTyped p t → WellTyped p t c → c.budget - c.steps < n → HasEnding (run p n c)
