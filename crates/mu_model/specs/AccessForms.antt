-- Instructions that read and write memory.
use Rattle.std.specs.Prelude.{Bool, List, Option, Some, None}
use Rattle.mu_base.specs.declared.order.Order.{Order}
use Rattle.mu_base.specs.declared.operators.UpdateOp.{UpdateOp}
use Rattle.ir_tree.specs.declared.accessing.Access.{Access as Instruction}
use Rattle.ir_tree.specs.declared.accessing.Access.TheVariants as accesses
use Rattle.mu_values.specs.declared.scalars.Scalar.{Scalar}
use Rattle.mu_values.specs.declared.scalars.Scalar.TheVariants.{Null, Place}
use Rattle.mu_values.specs.declared.cells.CellId.{CellId}
use Rattle.typed_heap.specs.Places.{with_some}
use Rattle.frames.specs.Activations.{Value}
use Rattle.mu_model.specs.declared.endings.Case.TheVariants as cases
use Rattle.mu_model.specs.Acts.{Access, Loads, Stores, Compares, Updates, Act, Faults, Accesses, Fences}
use Rattle.mu_model.specs.Operands.{Scope, value_named, scalar_in}

-- an act on the cell at a place; NULL is none
abbrev pub cell_act : (CellId → Act) → Scalar → Option Act
cell_act act (Place object at) = Some (act (record { object = object; at = at }))
cell_act act Null = Some (Faults cases.NullAccess)
cell_act act _ = None

abbrev pub access_act : Option Value → Option Access → Option Act
access_act l access = with_some (scalar_in l) (λ s. with_some access (λ a. cell_act (Accesses a) s))

abbrev pub load_act : Order → Option Value → Option Act
load_act o l = access_act l (Some (Loads o))

abbrev pub store_act : Order → Option Value → Option Value → Option Act
store_act o l a = access_act l (with_some (scalar_in a) (λ v. Some (Stores o v)))

abbrev pub cmpxchg_act : Bool → Order → Order → Option Value → Option Value → Option Value → Option Act
cmpxchg_act w o f l a b = access_act l (with_some (scalar_in a) (λ v. with_some (scalar_in b) (λ u. Some (Compares w o f v u))))

abbrev pub atomicrmw_act : Order → UpdateOp → Option Value → Option Value → Option Act
atomicrmw_act o op l a = access_act l (with_some (scalar_in a) (λ v. Some (Updates o op v)))

abbrev pub fence_act : Order → Option Act
fence_act o = Some (Fences o)

-- ---- by name

abbrev pub memory_act : Scope → List Value → Instruction → Option Act
memory_act s vars (accesses.Load o t l e) = load_act o.order (value_named s vars l)
memory_act s vars (accesses.Store o t l a e) = store_act o.order (value_named s vars l) (value_named s vars a)
memory_act s vars (accesses.Cmpxchg w o f t l a b e) =
    cmpxchg_act w o.order f.order (value_named s vars l) (value_named s vars a) (value_named s vars b)
memory_act s vars (accesses.Atomicrmw o op t l a e) = atomicrmw_act o.order op (value_named s vars l) (value_named s vars a)
memory_act s vars (accesses.Fence o) = fence_act o.order
