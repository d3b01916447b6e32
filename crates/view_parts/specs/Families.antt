-- The accesses of a cell that are looked up by themselves: those that may race with an event of some kind, and the SEQ_CST
-- ones, which raise floors.
use Rattle.std.specs.Prelude.{Bool, true, not, ◌&&◌, if◌then◌else◌}
use Rattle.mem_axioms.specs.Events.{is_atomic, is_seq_cst, is_modification, order_of}
use Rattle.mem_axioms.specs.declared.types.Event.{Event}
use Rattle.view_parts.specs.declared.families.Family.{Family}
use Rattle.view_parts.specs.declared.families.Family.TheVariants.{Any, Modifications, NotAtomic, NotAtomicModifications, SeqCst}

abbrev pub is_any : Event → Bool
is_any e = true

abbrev pub is_not_atomic : Event → Bool
is_not_atomic e = not (is_atomic (order_of e))

abbrev pub is_not_atomic_modification : Event → Bool
is_not_atomic_modification e = is_not_atomic e && is_modification e

abbrev pub has_seq_cst_order : Event → Bool
has_seq_cst_order e = is_seq_cst (order_of e)

-- whether an access is of the family
abbrev pub belongs : Family → Event → Bool
belongs Any = is_any
belongs Modifications = is_modification
belongs NotAtomic = is_not_atomic
belongs NotAtomicModifications = is_not_atomic_modification
belongs SeqCst = has_seq_cst_order

-- Of two accesses that race one is a write or update, and one is NOT_ATOMIC.
abbrev pub race_family : Event → Family
race_family e =
    if is_not_atomic e then (if is_modification e then Any else Modifications)
    else (if is_modification e then NotAtomic else NotAtomicModifications)
