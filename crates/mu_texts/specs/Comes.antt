-- What the functions that read and judge a text tell their callers.
use Rattle.std.specs.Prelude.{◌≡◌, ℕ, ◌≤◌, List, IsSome, IsSomeAnd, Result, Ok, Err, ⊤}
use Rattle.mu_texts.specs.declared.what.What.{What}
use Rattle.mu_texts.specs.declared.stop.Stop.{Stop}
use Rattle.mu_texts.specs.declared.stop.Stop.TheVariants.{Line, Memory}
use Rattle.mu_texts.specs.declared.ready.Ready.{Ready}
use Rattle.mu_texts.specs.declared.ready.Ready.TheVariants as ready
use Rattle.typed_heap.specs.Objects.{HeapObject}
use Rattle.typed_heap.specs.Heap.{HeapContents}
use Rattle.hail_load.specs.declared.tree.Command.{Command}
use Rattle.checked_code.specs.Checking.{bundle_tables}
use Rattle.checked_code.specs.Answers.{entry}
use Rattle.mu_model.specs.Programs.{named as program}
use Rattle.mu_model.specs.Run.{Setting, cells_left, first_configuration}
use Rattle.model_laws.specs.Bounds.{HasEnding}
use Rattle.loaded_programs.specs.Laws.{loaded_objects, IsScripted}
use Rattle.ir_tree.specs.declared.items.Item.{Item}
use Rattle.mu_texts.specs.Start.{Started}
use Rattle.mu_texts.specs.Answer.{Part, ◌>>=◌, line, refused, checked, run_of}

-- a result is what the part comes to; an early end is its answer, and out of memory says nothing
abbrev pub Comes : {A : Type 0} → Part A → Result A Stop → Type 0
Comes part (Ok x) = part ≡ Ok x
Comes part (Err (Line text status)) = part ≡ Err (line text.items status)
Comes part (Err Memory) = ⊤

-- what `mu check` asks of a bundle whose names are defined, and of which it keeps nothing
abbrev pub met_alone : List Item → Part Ready
met_alone bundle = checked bundle >>= λ code. Ok ready.Accepted

-- the same of a heap: the part comes to its objects
abbrev pub Fills : Part (List HeapObject) → Result HeapContents Stop → Type 0
Fills part (Ok heap) = part ≡ Ok heap.objects
Fills part (Err (Line text status)) = part ≡ Err (line text.items status)
Fills part (Err Memory) = ⊤

-- an early end is the refusal of a file at a place
abbrev pub IsRefusal : Stop → What → ℕ → List ℕ → Type 0
IsRefusal (Line text status) what place fault = line text.items status ≡ refused what place fault
IsRefusal Memory what place fault = ⊥

-- ---- runs

-- these are objects that commands made, behind those of the globals
pub record AreFilled (code : List Item) (objects : List HeapObject) : Type 0 where
  pub commands : List Command
  pub cells : ℕ
  pub is : objects ≡ loaded_objects code cells commands

-- such a heap, of which as many cells are left as they did not take
pub record IsFilled (code : List Item) (cells : ℕ) (heap : HeapContents) : Type 0 where
  pub objects : AreFilled code heap.objects
  pub left : heap.left ≡ cells_left (bundle_tables code) cells heap.objects

-- what a run may be given: such objects, and the client of a script
pub record IsLoaded (code : List Item) (s : Setting) : Type 0 where
  pub objects : AreFilled code s.objects
  pub client : IsScripted code s.client

-- each run that may be entered with these begins, and has an ending
abbrev pub LoadedRunsEnd : List Item → Type 0
LoadedRunsEnd code = (s : Setting) (name : List ℕ) (n : ℕ) → IsLoaded code s → entry code name ≡ Ok n → IsSome (first_configuration (program code) s n) × HasEnding (run_of code n s)

-- what the machine asks of a bundle and of a function that its runs begin with, and that they come to their endings
pub record CanBegin (code : List Item) (n : ℕ) : Type 0 where
  pub begins : IsSomeAnd ((program code).body n) IsSome
  pub ends : (s : Setting) → IsLoaded code s → HasEnding (run_of code n s)

-- the same of one run
pub record IsRunnable (code : List Item) (start : Started) : Type 0 where
  pub begins : IsSomeAnd ((program code).body start.entry) IsSome
  pub ends : HasEnding (run_of code start.entry start.setting)
  pub short : start.setting.budget ≤ 1000000
  pub left : start.left ≡ cells_left (bundle_tables code) start.setting.cells start.setting.objects

-- what is to be run can be run
abbrev pub CanRun : Ready → Type 0
CanRun ready.Accepted = ⊤
CanRun (ready.Canonical bundle) = ⊤
CanRun (ready.Judged v) = ⊤
CanRun (ready.Entered code start telling) = IsRunnable code start
