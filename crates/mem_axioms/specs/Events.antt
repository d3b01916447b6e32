-- Events and logs.
--
-- A log lists its events newest first, since every rule speaks of one event and of those before it: `e ∷ past` is the
-- log `past` with `e` added. The number of an event is how many events came before it, so `e` has number `length past`.
--
-- An access is a read, a write or an update (a read-modify-write). The writes of a cell are the initial one, at
-- position 0, which has no event, and its writes and updates in log order, at positions 1, 2, 3 and so on. Both are
-- called modifications here, as C does.
use Rattle.std.specs.Prelude.{ℕ, ◌-◌, Bool, true, false, ◌&&◌, if◌then◌else◌}
use Rattle.mu_base.specs.declared.order.Order.{Order}
use Rattle.mu_base.specs.declared.order.Order.TheVariants.{NotAtomic, SeqCst}
use Rattle.mu_values.specs.declared.scalars.Scalar.{Scalar}
use Rattle.mu_values.specs.declared.scalars.Scalar.TheVariants.{Null}
use Rattle.mu_values.specs.declared.cells.CellId.{CellId}
use Rattle.mu_values.specs.SameCell.{same_cell}
use Rattle.mem_axioms.specs.declared.types.Mode.{Mode}
use Rattle.mem_axioms.specs.declared.types.Mode.TheVariants.{Read, Write, Update}
use Rattle.mem_axioms.specs.declared.types.Kind.TheVariants.{Access, Fence, Wake}
use Rattle.mem_axioms.specs.declared.types.Event.{Event}

-- An order is atomic unless it is NOT_ATOMIC.
abbrev pub is_atomic : Order → Bool
is_atomic NotAtomic = false
is_atomic _ = true

abbrev pub is_seq_cst : Order → Bool
is_seq_cst SeqCst = true
is_seq_cst _ = false

-- A read or update loads a value from its cell, a write or update stores one.
abbrev pub loads : Mode → Bool
loads Read = true
loads Write = false
loads Update = true

abbrev pub stores : Mode → Bool
stores Read = false
stores Write = true
stores Update = true

-- A test of an access. It is false of every other event.
abbrev pub is_access : (Mode → CellId → Order → ℕ → Bool) → Event → Bool
is_access test e = elim e.kind [
  | Access mode cell order position value ↦ test mode cell order position
  | _ ↦ false
]

-- an access of the cell
abbrev pub accesses : CellId → Event → Bool
accesses cell e = is_access (λ mode of order position. same_cell of cell) e

-- a write or update of the cell
abbrev pub modifies : CellId → Event → Bool
modifies cell e = is_access (λ mode of order position. stores mode && same_cell of cell) e

-- a read, of whatever cell
abbrev pub is_read : Event → Bool
is_read e = is_access (λ mode of order position. elim mode [ Read ↦ true | Write ↦ false | Update ↦ false ]) e

-- an update, of whatever cell
abbrev pub is_update : Event → Bool
is_update e = is_access (λ mode of order position. elim mode [ Read ↦ false | Write ↦ false | Update ↦ true ]) e

-- a write or update, of whatever cell
abbrev pub is_modification : Event → Bool
is_modification e = is_access (λ mode of order position. stores mode) e

-- both access one cell
abbrev pub on_one_cell : Event → Event → Bool
on_one_cell e other = is_access (λ mode cell order position. accesses cell other) e

-- the order of an access or a fence; of the rest, which have none, NOT_ATOMIC
abbrev pub order_of : Event → Order
order_of e = elim e.kind [
  | Access mode cell order position value ↦ order
  | Fence order ↦ order
  | _ ↦ NotAtomic
]

-- the position that a read reads, or that a write or update makes
abbrev pub position_of : Event → ℕ
position_of e = elim e.kind [ Access mode cell order position value ↦ position | _ ↦ 0 ]

-- the position whose value is taken: an update takes the one just under its own, so that nothing comes between the two
abbrev pub position_taken : Event → ℕ
position_taken e = if is_update e then position_of e - 1 else position_of e

-- the value of an access; of the rest, which have none, NULL
abbrev pub value_of : Event → Scalar
value_of e = elim e.kind [ Access mode cell order position value ↦ value | _ ↦ Null ]

abbrev pub is_fence : Event → Bool
is_fence e = elim e.kind [ Fence order ↦ true | _ ↦ false ]

abbrev pub is_seq_cst_fence : Event → Bool
is_seq_cst_fence e = is_fence e && is_seq_cst (order_of e)

abbrev pub is_wake : Event → Bool
is_wake e = elim e.kind [ Wake cell count ↦ true | _ ↦ false ]
