-- The run of a program, from its first configuration to its ending.
use Rattle.std.specs.Prelude.{ℕ, zero, suc, ◌-◌, List, [], ◌∷◌, Option, Some, None, map, reverse, length, drop, sum_by}
use Rattle.type_definitions.specs.declared.definition.TypeDef.{TypeDef}
use Rattle.type_definitions.specs.declared.definition.TypeDef.TheVariants.{Iref}
use Rattle.mu_values.specs.declared.scalars.Scalar.TheVariants.{Null}
use Rattle.check_tables.specs.declared.tables.Tables.{Tables}
use Rattle.typed_heap.specs.Objects.{HeapObject, leaf_classes, object_of}
use Rattle.typed_heap.specs.Places.{with_some}
use Rattle.mem_axioms.specs.declared.types.Rule.{Rule}
use Rattle.mu_model.specs.declared.lines.Line.{Line}
use Rattle.mu_model.specs.declared.endings.Ending.{Ending}
use Rattle.mu_model.specs.Types.{type_graph, class_definition}
use Rattle.mu_model.specs.Clients.{Client}
use Rattle.mu_model.specs.Configuration.{Active, Configuration}
use Rattle.mu_model.specs.Acts.{Program}
use Rattle.mu_model.specs.Frames.{called}
use Rattle.mu_model.specs.Outcomes.{Outcome, Next, End, Asks, Stuck}
use Rattle.mu_model.specs.Answers.{answer_of, advanced}
use Rattle.mu_model.specs.Step.{step}

-- ---- the step by the client's own answer

abbrev pub with_client : Client → Outcome → Outcome
with_client k (Next c) = Next (record c { client = k })
with_client k o = o

abbrev pub client_answers : Program → Client → Outcome → Outcome
client_answers p k (Asks view go) = with_client (advanced k) (go (answer_of p.tables view k))
client_answers p k o = o

-- ---- the run

-- the lines of each step that was made, those of a step that gives the ending, which is not counted as made, and the ending; or a step
-- had no rule; or the steps that were looked at do not reach the ending
pub data Run : Type 0 where
  Ends : List (List Line) → List Line → Ending → Run
  Breaks : Run
  Unfinished : Run

abbrev pub behind : List Line → Run → Run
behind ls (Ends steps lines e) = Ends (ls ∷ steps) lines e
behind ls r = r

abbrev pub goes_on : (Configuration → Run) → Outcome → Run
goes_on more (Next c) = behind (reverse c.lines) (more c)
goes_on more (End lines e) = Ends [] lines e
goes_on more (Asks view go) = Breaks
goes_on more Stuck = Breaks

-- within so many steps
abbrev pub run : Program → ℕ → Configuration → Run
run p zero c = Unfinished
run p (suc n) c = goes_on (run p n) (client_answers p c.client (step p c))

-- ---- the first configuration

-- the leaves of what a place of the class leads to
abbrev pub target_leaves : Tables → Option TypeDef → List ℕ
target_leaves p (Some (Iref t)) = leaf_classes (type_graph p) t
target_leaves p _ = []

-- an object for each global, in text order
abbrev pub global_objects : Tables → List HeapObject
global_objects p = map (λ c. object_of (type_graph p) (target_leaves p (class_definition p c))) p.global_cells

-- What a run is given: the objects that are there, those of the globals first; the client, the schedule, how many cells may be made
-- beside those of the globals, how many steps, and the rule of release sequences.
pub record Setting : Type 0 where
  pub objects : List HeapObject
  pub client : Client
  pub picks : List ℕ
  pub cells : ℕ
  pub budget : ℕ
  pub rule : Rule

-- the cells of the objects besides those of the globals, which are the first
abbrev pub cells_taken : Tables → List HeapObject → ℕ
cells_taken p os = sum_by (λ (o : HeapObject). length o.leaves) (drop (length p.global_cells) os)

-- of so many cells, those that the objects besides the globals do not take
abbrev pub cells_left : Tables → ℕ → List HeapObject → ℕ
cells_left p cells os = cells - cells_taken p os

-- thread 0 on stack 0, in a function that begins with that block
abbrev pub begins_in : Program → Setting → ℕ → ℕ → Configuration
begins_in p s f block =
    record {
      threads = Some (record { stack = 0; own = Null }) ∷ [];
      stacks = Active 0 (called p f [] block ∷ []) ∷ [];
      objects = s.objects;
      log = [];
      watched = [];
      waiters = [];
      client = s.client;
      picks = s.picks;
      cells = cells_left p.tables s.cells s.objects;
      steps = 0;
      budget = s.budget;
      rule = s.rule;
      lines = [];
    }

-- a run begins in a function that has a body
abbrev pub first_configuration : Program → Setting → ℕ → Option Configuration
first_configuration p s f = with_some (p.body f) (λ b. with_some b (λ block. Some (begins_in p s f block)))

-- no run makes more steps than its budget
abbrev pub run_from : Program → Option Configuration → Run
run_from p None = Breaks
run_from p (Some c) = run p (suc c.budget) c

abbrev pub program_run : Program → Setting → ℕ → Run
program_run p s f = run_from p (first_configuration p s f)
