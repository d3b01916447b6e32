-- Instructions that read or write memory, or order such accesses: for each form its demands from left to right, what it
-- gives, and its code.
use Rattle.std.specs.Prelude.{ℕ, Bool, true, false, List, [], ◌∷◌, Option, ◌&&◌}
use Rattle.demands.specs.Demands.{Demands, demand, ◌⨾◌}
use Rattle.mu_base.specs.declared.order.Order.{Order}
use Rattle.mu_base.specs.declared.order.Order.TheVariants as orders
use Rattle.ir_tree.specs.declared.order.WrittenOrder.{WrittenOrder}
use Rattle.mu_base.specs.declared.operators.UpdateOp.{UpdateOp}
use Rattle.mu_base.specs.declared.operators.UpdateOp.TheVariants as updates
use Rattle.ir_tree.specs.declared.accessing.Access.{Access}
use Rattle.ir_tree.specs.declared.accessing.Access.TheVariants as accesses
use Rattle.type_definitions.specs.declared.definition.TypeDef.{TypeDef}
use Rattle.check_tables.specs.declared.fault.CheckKind.{CheckKind}
use Rattle.check_tables.specs.declared.fault.CheckKind.TheVariants.{BadOrder}
use Rattle.check_tables.specs.declared.tables.Tables.{Tables}
use Rattle.check_tables.specs.Types.{int1}
use Rattle.check_tables.specs.Lookups.{noted_class, definition_named}
use Rattle.check_tables.specs.TypeTests.{is_int, is_scalar}
use Rattle.checked_code.specs.declared.code.AccessForm.{AccessForm}
use Rattle.checked_code.specs.declared.code.AccessForm.TheVariants as forms
use Rattle.checked_code.specs.declared.scopes.Locals.{Locals}
use Rattle.checked_code.specs.Operands.{of_type, type_demand, source_of}
use Rattle.checked_code.specs.Objects.{place_of_type}

-- ---- orders

-- of a LOAD
abbrev pub may_load : Order → Bool
may_load orders.NotAtomic = true
may_load orders.Relaxed = true
may_load orders.Consume = true
may_load orders.Acquire = true
may_load orders.SeqCst = true
may_load _ = false

-- of a STORE
abbrev pub may_store : Order → Bool
may_store orders.NotAtomic = true
may_store orders.Relaxed = true
may_store orders.Release = true
may_store orders.SeqCst = true
may_store _ = false

-- of an update, which is atomic
abbrev pub may_update : Order → Bool
may_update orders.NotAtomic = false
may_update _ = true

-- of a CMPXCHG that fails, which is an atomic load then
abbrev pub may_fail : Order → Bool
may_fail order = may_load order && may_update order

-- of a FENCE
abbrev pub may_fence : Order → Bool
may_fence orders.Acquire = true
may_fence orders.Release = true
may_fence orders.AcqRel = true
may_fence orders.SeqCst = true
may_fence _ = false

abbrev pub order_demand : (Order → Bool) → WrittenOrder → Demands CheckKind
order_demand allows o = demand o.place BadOrder (allows o.order)

-- XCHG exchanges all scalars, every other update is of ints
abbrev pub updates_type : UpdateOp → Option TypeDef → Bool
updates_type updates.Xchg d = is_scalar d
updates_type _ d = is_int d

-- ---- the forms

abbrev pub access_demands : Tables → Locals → Access → Demands CheckKind
-- LOAD ord? < T > p exc?: T scalar; p: iref<T>
access_demands p ls (accesses.Load o t l e) = order_demand may_load o ⨾ type_demand t (is_scalar (definition_named p t)) ⨾ place_of_type p ls l t
-- STORE ord? < T > p a exc?: T scalar; p: iref<T>; a: T
access_demands p ls (accesses.Store o t l a e) =
    order_demand may_store o ⨾ type_demand t (is_scalar (definition_named p t)) ⨾ place_of_type p ls l t ⨾ of_type p ls a t
-- CMPXCHG WEAK? s f < T > p e d exc?: T scalar; p: iref<T>; e, d: T
access_demands p ls (accesses.Cmpxchg w s o t l a b e) =
    order_demand may_update s ⨾ order_demand may_fail o ⨾ type_demand t (is_scalar (definition_named p t)) ⨾ place_of_type p ls l t ⨾ of_type p ls a t ⨾ of_type p ls b t
-- ATOMICRMW ord RMW < T > p a exc?: T int, or scalar for XCHG; p: iref<T>; a: T
access_demands p ls (accesses.Atomicrmw o op t l a e) =
    order_demand may_update o ⨾ type_demand t (updates_type op (definition_named p t)) ⨾ place_of_type p ls l t ⨾ of_type p ls a t
-- FENCE ord
access_demands p ls (accesses.Fence o) = order_demand may_fence o

-- the classes of the results
abbrev pub access_gives : Tables → Access → List ℕ
access_gives p (accesses.Load o t l e) = noted_class p t ∷ []
access_gives p (accesses.Store o t l a e) = []
access_gives p (accesses.Cmpxchg w s o t l a b e) = noted_class p t ∷ int1 p.types ∷ []
access_gives p (accesses.Atomicrmw o op t l a e) = noted_class p t ∷ []
access_gives p (accesses.Fence o) = []

abbrev pub access_code : Tables → Locals → Access → AccessForm
access_code p ls (accesses.Load o t l e) = forms.Load o.order (noted_class p t) (source_of p ls l)
access_code p ls (accesses.Store o t l a e) = forms.Store o.order (noted_class p t) (source_of p ls l) (source_of p ls a)
access_code p ls (accesses.Cmpxchg w s o t l a b e) =
    forms.Cmpxchg w s.order o.order (noted_class p t) (source_of p ls l) (source_of p ls a) (source_of p ls b)
access_code p ls (accesses.Atomicrmw o op t l a e) = forms.Atomicrmw o.order op (noted_class p t) (source_of p ls l) (source_of p ls a)
access_code p ls (accesses.Fence o) = forms.Fence o.order
