-- What is there where an access of a cell is.
use Rattle.std.specs.Prelude.{◌≡◌, ℕ, Bool, Option, Some, None, IsSome, refl}
use Rattle.std.proofs.Common.{◌⊎◌, inl, inr}
use Rattle.mu_base.specs.declared.order.Order.{Order}
use Rattle.mu_values.specs.declared.scalars.Scalar.{Scalar}
use Rattle.mu_values.specs.declared.scalars.Scalar.TheVariants.{Int, Null, Object, Place, Func, Stack, Thread}
use Rattle.mu_base.specs.declared.operators.UpdateOp.{UpdateOp}
use Rattle.mu_values.specs.declared.cells.CellId.{CellId}
use Rattle.typed_heap.specs.Places.{with_some}
use Rattle.frames.specs.Activations.{Value}
use Rattle.mu_model.specs.Acts.{Act, Access, Loads, Stores, Compares, Updates, Accesses}
use Rattle.mu_model.specs.Operands.{scalar_in}
use Rattle.mu_model.specs.AccessForms.{cell_act, load_act, store_act, cmpxchg_act, atomicrmw_act}

-- a place, or none
pub some_place : (act : CellId → Act) (s : Scalar) → IsSome (cell_act act s) → (s ≡ Null) ⊎ ((n : ℕ) × (at : ℕ) × (s ≡ Place n at))
some_place act (Place n at) h = inr (n, at, refl)
some_place act Null h = inl refl
some_place act (Int w n) h = cc
some_place act (Object n) h = cc
some_place act (Func f) h = cc
some_place act (Stack k) h = cc
some_place act (Thread t) h = cc

-- ---- operands that are there: the act is that at the place

abbrev acts_at : Access → Scalar → Option Act
acts_at a s = cell_act (Accesses a) s

load_by : (a : Access) (l : Option Scalar) → IsSome (with_some l (acts_at a)) → (s : Scalar) × (l ≡ Some s) × (with_some l (acts_at a) ≡ acts_at a s) × IsSome (acts_at a s)
load_by a None h = cc
load_by a (Some s) h = (s, refl, refl, h)

pub load_there : (o : Order) (l : Option Value) → IsSome (load_act o l) → (s : Scalar) × (scalar_in l ≡ Some s) × (load_act o l ≡ acts_at (Loads o) s) × IsSome (acts_at (Loads o) s)
load_there o l h = load_by (Loads o) (scalar_in l) h

abbrev with_one : (Scalar → Access) → Option Scalar → Option Scalar → Option Act
with_one go l a = with_some l (λ s. with_some (with_some a (λ v. Some (go v))) (λ x. acts_at x s))

one_by : (go : Scalar → Access) (l a : Option Scalar) → IsSome (with_one go l a)
    → (s : Scalar) × (l ≡ Some s) × (v : Scalar) × (a ≡ Some v) × (with_one go l a ≡ acts_at (go v) s) × IsSome (acts_at (go v) s)
one_by go None a h = cc
one_by go (Some s) None h = cc
one_by go (Some s) (Some v) h = (s, refl, v, refl, refl, h)

pub store_there : (o : Order) (l a : Option Value) → IsSome (store_act o l a)
    → (s : Scalar) × (scalar_in l ≡ Some s) × (v : Scalar) × (scalar_in a ≡ Some v) × (store_act o l a ≡ acts_at (Stores o v) s) × IsSome (acts_at (Stores o v) s)
store_there o l a h = one_by (Stores o) (scalar_in l) (scalar_in a) h

pub update_there : (o : Order) (op : UpdateOp) (l a : Option Value) → IsSome (atomicrmw_act o op l a)
    → (s : Scalar) × (scalar_in l ≡ Some s) × (v : Scalar) × (scalar_in a ≡ Some v) × (atomicrmw_act o op l a ≡ acts_at (Updates o op v) s) × IsSome (acts_at (Updates o op v) s)
update_there o op l a h = one_by (Updates o op) (scalar_in l) (scalar_in a) h

abbrev with_two : (Scalar → Scalar → Access) → Option Scalar → Option Scalar → Option Scalar → Option Act
with_two go l a b = with_some l (λ s. with_some (with_some a (λ v. with_some b (λ u. Some (go v u)))) (λ x. acts_at x s))

two_by : (go : Scalar → Scalar → Access) (l a b : Option Scalar) → IsSome (with_two go l a b)
    → (s : Scalar) × (l ≡ Some s) × (v : Scalar) × (a ≡ Some v) × (u : Scalar) × (b ≡ Some u) × (with_two go l a b ≡ acts_at (go v u) s) × IsSome (acts_at (go v u) s)
two_by go None a b h = cc
two_by go (Some s) None b h = cc
two_by go (Some s) (Some v) None h = cc
two_by go (Some s) (Some v) (Some u) h = (s, refl, v, refl, u, refl, refl, h)

pub comparison_there : (w : Bool) (o f : Order) (l a b : Option Value) → IsSome (cmpxchg_act w o f l a b)
    → (s : Scalar) × (scalar_in l ≡ Some s) × (v : Scalar) × (scalar_in a ≡ Some v) × (u : Scalar) × (scalar_in b ≡ Some u)
    × (cmpxchg_act w o f l a b ≡ acts_at (Compares w o f v u) s) × IsSome (acts_at (Compares w o f v u) s)
comparison_there w o f l a b h = two_by (Compares w o f) (scalar_in l) (scalar_in a) (scalar_in b) h

pub ruleset cells = (some_place)

pub ruleset loads = (load_there)

pub ruleset stores = (store_there)

pub ruleset updates = (update_there)

pub ruleset compares = (comparison_there)
