-- Which memory orders the events of a run have. They are the orders that the instructions may be written with.
use Rattle.std.specs.Prelude.{◌≡◌, Bool, true}
use Rattle.mu_base.specs.declared.order.Order.{Order}
use Rattle.mem_axioms.specs.declared.types.Mode.{Mode}
use Rattle.mem_axioms.specs.declared.types.Mode.TheVariants.{Read, Write, Update}
use Rattle.checked_code.specs.Accesses.{may_load, may_store, may_update, may_fence}
use Rattle.mu_model.specs.Acts.{Access, Loads, Stores, Compares, Updates}

-- A read has an order that a LOAD may have, a write one of a STORE, and an update one of an ATOMICRMW.
abbrev pub may_access : Mode → Order → Bool
may_access Read = may_load
may_access Write = may_store
may_access Update = may_update

-- The orders of an access are those of the events that it may log. A comparison logs an update where it succeeds, and a read of its
-- second order where it fails.
abbrev pub OrdersFit : Access → Type 0
OrdersFit (Loads o) = may_load o ≡ true
OrdersFit (Stores o v) = may_store o ≡ true
OrdersFit (Compares weak o f expected v) = (may_update o ≡ true) × (may_load f ≡ true)
OrdersFit (Updates o op v) = may_update o ≡ true

abbrev pub IsFenceOrder : Order → Type 0
IsFenceOrder o = may_fence o ≡ true
