-- Short names that the worked examples share. A log is written newest event first.
use Rattle.std.specs.Prelude.{ℕ}
use Rattle.mu_base.specs.declared.order.Order.{Order}
use Rattle.mu_values.specs.declared.scalars.Scalar.{Scalar}
use Rattle.mu_values.specs.declared.scalars.Scalar.TheVariants.{Int}
use Rattle.mu_values.specs.declared.cells.CellId.{CellId}
use Rattle.mem_axioms.specs.declared.types.Mode.TheVariants.{Read, Write, Update}
use Rattle.mem_axioms.specs.declared.types.Kind.{Kind}
use Rattle.mem_axioms.specs.declared.types.Kind.TheVariants.{Access, Fence}
use Rattle.mem_axioms.specs.declared.types.Event.{Event}

-- the cells x, y and z of three objects
abbrev pub x : CellId
x = record { object = 0; at = 0 }

abbrev pub y : CellId
y = record { object = 1; at = 0 }

abbrev pub z : CellId
z = record { object = 2; at = 0 }

-- a number of 64 bits
abbrev pub number : ℕ → Scalar
number n = Int 64 n

-- each cell holds 0 at first
abbrev pub zeros : CellId → Scalar
zeros cell = number 0

abbrev pub by : ℕ → Kind → Event
by thread kind = record { thread = thread; kind = kind }

-- a read, a write, an update and a fence by a thread; accesses show their position and their value
abbrev pub read : ℕ → Order → CellId → ℕ → ℕ → Event
read thread order cell position n = by thread (Access Read cell order position (number n))

abbrev pub write : ℕ → Order → CellId → ℕ → ℕ → Event
write thread order cell position n = by thread (Access Write cell order position (number n))

abbrev pub update : ℕ → Order → CellId → ℕ → ℕ → Event
update thread order cell position n = by thread (Access Update cell order position (number n))

abbrev pub fence : ℕ → Order → Event
fence thread order = by thread (Fence order)
