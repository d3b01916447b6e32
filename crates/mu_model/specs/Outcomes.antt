-- What comes of a step.
use Rattle.std.specs.Prelude.{ℕ, List, [], ◌∷◌, Option, Some, None, Result, Ok, Err, reverse}
use Rattle.mu_values.specs.declared.scalars.Scalar.{Scalar}
use Rattle.mu_values.specs.declared.scalars.Scalar.TheVariants.{Null}
use Rattle.typed_heap.specs.declared.faults.PlaceFault.{PlaceFault}
use Rattle.typed_heap.specs.declared.faults.PlaceFault.TheVariants as faults
use Rattle.typed_heap.specs.Places.{with_some}
use Rattle.frames.specs.Activations.{Value, Goal, Activation}
use Rattle.mu_model.specs.declared.lines.Line.{Line}
use Rattle.mu_model.specs.declared.endings.Case.{Case}
use Rattle.mu_model.specs.declared.endings.Case.TheVariants as cases
use Rattle.mu_model.specs.declared.endings.Ending.{Ending}
use Rattle.mu_model.specs.declared.endings.Ending.TheVariants.{Undefined}
use Rattle.mu_model.specs.Clients.{Answer}
use Rattle.mu_model.specs.Configuration.{Active, Configuration}
use Rattle.mu_model.specs.Acts.{Program}
use Rattle.mu_model.specs.Turns.{Turn}
use Rattle.mu_model.specs.Frames.{caught, passed}
use Rattle.mu_model.specs.Changes.{stack_becomes}

-- ---- outcomes

-- what the client is asked: by which thread, at which watchpoint, for values of which classes, and the frames of its stack, the top first
pub record View : Type 0 where
  pub thread : ℕ
  pub watchpoint : Option ℕ
  pub asked : List ℕ
  pub frames : List Activation

pub data Outcome : Type 0 where
  Next : Configuration → Outcome
  End : List Line → Ending → Outcome
  -- the client is asked, and the step goes on with its answer; None is misuse
  Asks : View → (Option Answer → Outcome) → Outcome
  -- there is no rule
  Stuck : Outcome

-- what goes on with something; where it is not there, there is no rule
unfoldable pub on : {A : Type 0} → Option A → (A → Outcome) → Outcome
on None go = Stuck
on (Some a) go = go a

-- ---- how a step ends

-- these are the frames of the thread whose turn it is
abbrev pub next : Configuration → Turn → Option (List Activation) → Outcome
next c u fs = on fs (λ now. Next (stack_becomes u.stack (Active u.thread now) c))

-- this is its top frame
abbrev pub onto : Turn → Activation → Option (List Activation)
onto u f = Some (f ∷ u.below)

-- its instruction has these results
abbrev pub has_results : Program → Configuration → Turn → List Value → Outcome
has_results p c u vs = next c u (with_some (passed p u.top vs) (onto u))

abbrev pub has_result : Program → Configuration → Turn → Scalar → Outcome
has_result p c u s = has_results p c u ((s ∷ []) ∷ [])

abbrev pub ended : Configuration → Ending → Outcome
ended c e = End (reverse c.lines) e

abbrev pub case_of : Turn → Case → Ending
case_of u k = Undefined k u.thread u.top.block u.top.at None

-- a fault goes to the exceptional destination of its instruction with NULL, or it is the ending
abbrev pub excepted : Program → Configuration → Turn → Ending → Option Goal → Outcome
excepted p c u e None = ended c e
excepted p c u e (Some g) = next c u (with_some (caught p u.top g Null) (onto u))

abbrev pub faulted : Program → Configuration → Turn → Ending → Outcome
faulted p c u e = on u.doing.exceptional (excepted p c u e)

-- of the undefined cases two are faults: a zero divisor, and an access through NULL
abbrev pub refused : Program → Configuration → Turn → Case → Outcome
refused p c u cases.DivideByZero = faulted p c u (case_of u cases.DivideByZero)
refused p c u cases.NullAccess = faulted p c u (case_of u cases.NullAccess)
refused p c u k = ended c (case_of u k)

-- what goes on with an answer, unless that is a case
abbrev pub unless_refused : {A : Type 0} → Program → Configuration → Turn → (A → Outcome) → Result A Case → Outcome
unless_refused p c u go (Err k) = refused p c u k
unless_refused p c u go (Ok a) = go a

unfoldable pub tried : {A : Type 0} → Program → Configuration → Turn → Option (Result A Case) → (A → Outcome) → Outcome
tried p c u r go = on r (unless_refused p c u go)

-- the case of a fault of a place
abbrev pub case_of_fault : PlaceFault → Case
case_of_fault faults.Null = cases.NullAccess
case_of_fault faults.OutOfRange = cases.OutOfRange
case_of_fault faults.BadCast = cases.BadCast
case_of_fault faults.DeadCell = cases.DeadCell

abbrev pub or_case : {A : Type 0} → Result A PlaceFault → Result A Case
or_case (Err f) = Err (case_of_fault f)
or_case (Ok a) = Ok a
