-- Nothing that a reader believes of a run rests on this. It is the step of the thread in hand, by the numbers of the code, in parts.
use Rattle.std.specs.Prelude.{ℕ, suc, Bool, true, false, List, [], ◌∷◌, Option, Some, None, Result, Ok, Err, fold, find, flat_map, slice_set}
use Rattle.ir_tree.specs.declared.items.Item.{Item}
use Rattle.mu_values.specs.declared.scalars.Scalar.{Scalar}
use Rattle.mu_values.specs.Slots.{TypedValues}
use Rattle.checked_code.specs.Checking.{bundle_tables}
use Rattle.typed_heap.specs.declared.faults.PlaceFault.{PlaceFault}
use Rattle.typed_heap.specs.Objects.{HeapObject, killed}
use Rattle.typed_heap.specs.Places.{with_some}
use Rattle.frames.specs.Activations.{Value, Goal, Activation}
use Rattle.frames.specs.Chains.{Chain, frames_of, nothing_kept}
use Rattle.mu_model.specs.declared.lines.Line.{Line}
use Rattle.mu_model.specs.declared.endings.StepEnd.{StepEnd}
use Rattle.mu_model.specs.declared.endings.Case.{Case}
use Rattle.mu_model.specs.declared.endings.Case.TheVariants as cases
use Rattle.mu_model.specs.declared.endings.Ending.{Ending}
use Rattle.mu_model.specs.declared.endings.Ending.TheVariants.{Undefined}
use Rattle.mu_model.specs.Types.{classes_given}
use Rattle.mu_model.specs.Clients.{Client}
use Rattle.mu_model.specs.Configuration.{Dead, Configuration}
use Rattle.mu_model.specs.Acts.{Act, Faults, Doing, Program}
use Rattle.mu_model.specs.Turns.{Turn}
use Rattle.mu_model.specs.Frames.{passed, caught}
use Rattle.mu_model.specs.Changes.{changed}
use Rattle.mu_model.specs.Outcomes.{Outcome, Next, on, faulted, case_of_fault}
use Rattle.mu_model.specs.Traps.{trapped}
use Rattle.mu_model.specs.Step.{performed, turned}
use Rattle.futex.specs.Waiting.{is_of}
use Rattle.model_numbers.specs.Numbered.{numbered}
use Rattle.client_hooks.specs.Ways.{Way, client_answers_by}
use Rattle.run_state.specs.Outcome.{outcome_of}
use Rattle.run_state.specs.Held.{Held, held_stacks, configured, configuration}

-- the configuration where a thread is in hand
abbrev pub left_configuration : Held → Configuration
left_configuration s = configured s (held_stacks s)

-- once a step has begun, it counts
abbrev pub begun : Held → Configuration
begun s = left_configuration (record s { steps = suc s.steps })

-- the thread's turn, at an instruction that does this
abbrev pub turn : Held → Doing → Turn
turn s d = record { thread = s.thread; stack = s.stack; top = s.frames.top; below = s.frames.below; doing = d }

abbrev pub doing_of : Program → Held → Option Doing
doing_of p s = p.doing s.frames.top.block s.frames.top.at s.frames.top.vars

-- ---- outcomes

-- the step of the thread in hand
unfoldable pub stepping : List Item → Held → Outcome
stepping bundle s = on (doing_of (numbered bundle) s) (λ d. turned (numbered bundle) (begun s) (find (is_of s.thread) s.seats.waiters) (turn s d))

-- what comes of an outcome where this client answers in that way
abbrev pub told : Way → List Item → Client → Outcome → Outcome
told w bundle k o = client_answers_by w (numbered bundle) k o

-- what an answer says, with the thread as it is left
unfoldable pub answers : StepEnd → Held → Outcome
answers end s = outcome_of end (configuration s)

-- the thread goes on so, and the step that it made counts
unfoldable pub went_on : Held → Outcome
went_on s = Next (begun s)

-- the same of a step that wrote these lines
unfoldable pub went_with : Held → List Line → Outcome
went_with s ls = Next (record (begun s) { lines = ls })

-- the client is asked for values of these classes, at this watchpoint where there is one
unfoldable pub trapping : List Item → Held → Option ℕ → List ℕ → Outcome
trapping bundle s watchpoint cs = on (doing_of (numbered bundle) s) (λ d. trapped (numbered bundle) (begun s) (turn s d) watchpoint cs)

-- the thread does an act
unfoldable pub acting : List Item → Held → Act → Outcome
acting bundle s a = on (doing_of (numbered bundle) s) (λ d. performed (numbered bundle) (begun s) (turn s d) a)

-- what is done with what is found; a fault is an undefined case
abbrev pub found_or : {A : Type 0} → List Item → Held → (A → Outcome) → Result A PlaceFault → Outcome
found_or bundle s go (Ok a) = go a
found_or bundle s go (Err f) = acting bundle s (Faults (case_of_fault f))

-- its instruction meets a fault, which is the ending where it has no exceptional destination
unfoldable pub faulting : List Item → Held → Ending → Outcome
faulting bundle s k = on (doing_of (numbered bundle) s) (λ d. faulted (numbered bundle) (begun s) (turn s d) k)

abbrev pub undefined_at : Held → Case → Ending
undefined_at s k = Undefined k s.thread s.frames.top.block s.frames.top.at None

-- an undefined case that is a fault
abbrev pub is_fault : Case → Bool
is_fault cases.DivideByZero = true
is_fault cases.NullAccess = true
is_fault _ = false

-- ---- frames

-- a frame goes on with the values that it waits for, or that its instruction gives
unfoldable pub goes_on : List Item → Activation → List Value → Option Activation
goes_on bundle f vs = passed (numbered bundle) f vs

-- a frame gets an exception at this goal
unfoldable pub gets : List Item → Activation → Goal → Scalar → Option Activation
gets bundle f g e = caught (numbered bundle) f g e

-- the frame of a function that is called with these values
abbrev pub entered : ℕ → List Value → Activation
entered block vs = record { block = block; at = 0; vars = vs; fresh = false; waits = []; handler = None; kept = nothing_kept; objects = [] }

-- what a frame waits for while another one is above it
pub record Awaited : Type 0 where
  pub waits : List ℕ
  pub handler : Option Goal
  pub kept : TypedValues

abbrev pub with_awaited : Activation → Awaited → Activation
with_awaited f w = record f { waits = w.waits; handler = w.handler; kept = w.kept }

abbrev pub awaited_by : List ℕ → Doing → Option Awaited
awaited_by cs d = with_some d.exceptional (λ h. with_some d.kept (λ ks. Some (record { waits = cs; handler = h; kept = ks })))

-- while it waits for values of these classes
unfoldable pub awaits : List Item → Activation → List ℕ → Option Awaited
awaits bundle f cs = with_some ((numbered bundle).doing f.block f.at f.vars) (awaited_by cs)

-- while it calls this function
abbrev pub awaited : List Item → Activation → ℕ → Option Awaited
awaited bundle f function = awaits bundle f (classes_given (bundle_tables bundle) function)

-- the chain with another frame on top, which waits so
abbrev pub entered_above : Chain → Activation → Awaited → Chain
entered_above c f w = record { top = f; below = with_awaited c.top w ∷ c.below }

-- ---- objects

-- the cells of these objects die
unfoldable pub objects_end : List HeapObject → List ℕ → List HeapObject
objects_end os ns = fold (λ os n. changed killed n os) os ns

-- ---- the end of a thread

-- the thread has ended, and its stack is dead; what is in hand then means nothing
abbrev pub thread_ended : Held → Chain → Held
thread_ended s rest =
    record s {
      left = false;
      frames = rest;
      seats = record s.seats { threads = slice_set s.seats.threads s.thread None; stacks = slice_set (held_stacks s) s.stack Dead };
      objects = objects_end s.objects (flat_map (λ (f : Activation). f.objects) (frames_of s.frames));
    }
