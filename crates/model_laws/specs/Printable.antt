-- What a log must meet so that each of its events can be printed as a line of a log's text. The events name stacks that
-- exist, with orders of their kind, and no object has too many cells.
use Rattle.std.specs.Prelude.{◌≡◌, ◌≤◌, ◌<◌, ℕ, true, All, Some, length}
use Rattle.typed_heap.specs.Objects.{HeapObject}
use Rattle.mem_axioms.specs.declared.types.Event.{Event}
use Rattle.mem_axioms.specs.declared.types.Kind.{Kind}
use Rattle.mem_axioms.specs.declared.types.Kind.TheVariants as kinds
use Rattle.mu_model.specs.Acts.{Program}
use Rattle.mu_model.specs.Configuration.{Configuration}
use Rattle.mu_model.specs.Outcomes.{Next}
use Rattle.mu_model.specs.Step.{step}
use Rattle.mu_model.specs.Run.{Setting, first_configuration, client_answers}
use Rattle.model_laws.specs.Orders.{may_access, IsFenceOrder}
use Rattle.model_laws.specs.Places.{Places}
use Rattle.model_laws.specs.Programs.{IsTyped}
use Rattle.model_laws.specs.WellTyped.{WellTyped}

-- Where there are so many stacks: an access and a fence have orders of their kind, a stack has a number below that count, and a wake
-- wakes 64 threads at most, which is the greatest number of threads. The other kinds are always printable.
abbrev pub KindIsPrintable : ℕ → Kind → Type 0
KindIsPrintable stacks (kinds.Access mode cell order position value) = may_access mode order ≡ true
KindIsPrintable stacks (kinds.Fence order) = IsFenceOrder order
KindIsPrintable stacks (kinds.NewStack k) = k < stacks
KindIsPrintable stacks (kinds.Leave k) = k < stacks
KindIsPrintable stacks (kinds.Enter k) = k < stacks
KindIsPrintable stacks (kinds.Wake cell many) = many ≤ 64
KindIsPrintable stacks _ = Unit {0}

abbrev pub EventIsPrintable : ℕ → Event → Type 0
EventIsPrintable stacks e = KindIsPrintable stacks e.kind

-- an object has that many cells at most
abbrev pub HasFewCells : ℕ → HeapObject → Type 0
HasFewCells most o = length o.leaves ≤ most

-- Each event of the log is printable with the stacks that exist. Each object has `most` cells at most, and no more than `most` are left
-- to be made.
pub record IsPrintable (most : ℕ) (c : Configuration) : Type 0 where
  pub log : All (EventIsPrintable (length c.stacks)) c.log
  pub objects : All (HasFewCells most) c.objects
  pub cells : c.cells ≤ most

-- The first configuration is so where each object of the setting has `most` cells at most, and no more than `most` may be made.
abbrev pub FirstIsPrintable : Type 0
FirstIsPrintable = (p : Program) (s : Setting) (f : ℕ) (c : Configuration) (most : ℕ) → All (HasFewCells most) s.objects → s.cells ≤ most → first_configuration p s f ≡ Some c → IsPrintable most c

-- A step of a well-typed program that goes on keeps it so.
abbrev pub StepsStayPrintable : Type 0
StepsStayPrintable = (p : Program) (t : Places) (c d : Configuration) (most : ℕ) → IsTyped p t → WellTyped p t c → IsPrintable most c → client_answers p c.client (step p c) ≡ Next d → IsPrintable most d
