-- The line of an event, where functions have these names. A run prints these lines, and the judge reads them.
use Rattle.std.specs.Prelude.{ℕ, List, ◌++◌, codes, decimal}
use Rattle.mu_base.specs.declared.order.Order.{Order}
use Rattle.mu_base.specs.declared.order.Order.TheVariants as orders
use Rattle.mu_values.specs.declared.scalars.Scalar.{Scalar}
use Rattle.mu_values.specs.declared.scalars.Scalar.TheVariants as scalars
use Rattle.mu_values.specs.declared.cells.CellId.{CellId}
use Rattle.mem_axioms.specs.declared.types.Mode.{Mode}
use Rattle.mem_axioms.specs.declared.types.Mode.TheVariants as modes
use Rattle.mem_axioms.specs.declared.types.Kind.{Kind}
use Rattle.mem_axioms.specs.declared.types.Kind.TheVariants as kinds
use Rattle.mem_axioms.specs.declared.types.Event.{Event}

abbrev pub Text : Type 0
Text = List ℕ

-- the name of each function by its number
abbrev pub NameOf : Type 0
NameOf = ℕ → Text

abbrev pub cell_text : CellId → Text
cell_text c = codes "#" ++ decimal c.object ++ codes "+" ++ decimal c.at

abbrev pub thread_text : ℕ → Text
thread_text i = codes "t" ++ decimal i

abbrev pub scalar_text : NameOf → Scalar → Text
scalar_text name_of (scalars.Int w n) = decimal n
scalar_text name_of scalars.Null = codes "NULL"
scalar_text name_of (scalars.Object n) = codes "#" ++ decimal n
scalar_text name_of (scalars.Place n at) = codes "#" ++ decimal n ++ codes "+" ++ decimal at
scalar_text name_of (scalars.Func f) = name_of f
scalar_text name_of (scalars.Stack k) = codes "s" ++ decimal k
scalar_text name_of (scalars.Thread i) = thread_text i

abbrev pub order_text : Order → Text
order_text orders.NotAtomic = codes "NOT_ATOMIC"
order_text orders.Relaxed = codes "RELAXED"
order_text orders.Consume = codes "CONSUME"
order_text orders.Acquire = codes "ACQUIRE"
order_text orders.Release = codes "RELEASE"
order_text orders.AcqRel = codes "ACQ_REL"
order_text orders.SeqCst = codes "SEQ_CST"

abbrev pub mode_text : Mode → Text
mode_text modes.Read = codes "read "
mode_text modes.Write = codes "write "
mode_text modes.Update = codes "update "

abbrev pub kind_text : NameOf → Kind → Text
kind_text name_of (kinds.Access mode cell order position value) =
    mode_text mode ++ order_text order ++ codes " " ++ cell_text cell ++ codes " " ++ decimal position ++ codes " " ++ scalar_text name_of value
kind_text name_of (kinds.Fence order) = codes "fence " ++ order_text order
kind_text name_of (kinds.NewStack k) = codes "stack s" ++ decimal k
kind_text name_of (kinds.NewThread i) = codes "thread t" ++ decimal i
kind_text name_of (kinds.Leave k) = codes "leave s" ++ decimal k
kind_text name_of (kinds.Enter k) = codes "enter s" ++ decimal k
kind_text name_of (kinds.Wake cell many) = codes "wake " ++ cell_text cell ++ codes " " ++ decimal many
kind_text name_of (kinds.Woken n) = codes "woken " ++ decimal n

-- the line of event number `n`, without its line feed
abbrev pub event_text : NameOf → ℕ → Event → Text
event_text name_of n e = decimal n ++ codes " " ++ thread_text e.thread ++ codes " " ++ kind_text name_of e.kind
