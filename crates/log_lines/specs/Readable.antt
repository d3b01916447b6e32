-- Which events can be read back from their lines, and what is read there in their place.
use Rattle.std.specs.Prelude.{◌<◌, ◌≡◌, true, ◌∷◌}
use Rattle.mu_values.specs.declared.scalars.Scalar.{Scalar}
use Rattle.mu_values.specs.declared.scalars.Scalar.TheVariants as scalars
use Rattle.mu_values.specs.declared.cells.CellId.{CellId}
use Rattle.mem_axioms.specs.declared.types.Kind.{Kind}
use Rattle.mem_axioms.specs.declared.types.Kind.TheVariants as kinds
use Rattle.mem_axioms.specs.declared.types.Event.{Event}
use Rattle.log_lines.specs.Fields.{number_limit, thread_limit, value_limit}
use Rattle.log_lines.specs.Words.{is_order_of, is_fence_order}
use Rattle.log_lines.specs.Values.{Names, is_name, place_among, names_with}
use Rattle.log_lines.specs.Texts.{ReadLog}
use Rattle.log_lines.specs.EventTexts.{NameOf}

-- ---- readable: each order may stand in such a line, each number is below its limit, and a function has a name

abbrev pub ScalarIsReadable : NameOf → Scalar → Type 0
ScalarIsReadable name_of (scalars.Int w n) = n < value_limit
ScalarIsReadable name_of scalars.Null = Unit {0}
ScalarIsReadable name_of (scalars.Object n) = n < number_limit
ScalarIsReadable name_of (scalars.Place n at) = (n < number_limit) × (at < number_limit)
ScalarIsReadable name_of (scalars.Func f) = is_name (name_of f) ≡ true
ScalarIsReadable name_of (scalars.Stack k) = k < number_limit
ScalarIsReadable name_of (scalars.Thread i) = i < thread_limit

abbrev pub CellIsReadable : CellId → Type 0
CellIsReadable c = (c.object < number_limit) × (c.at < number_limit)

abbrev pub KindIsReadable : NameOf → Kind → Type 0
KindIsReadable name_of (kinds.Access mode cell order position value) = (is_order_of mode order ≡ true) × CellIsReadable cell × (position < number_limit) × ScalarIsReadable name_of value
KindIsReadable name_of (kinds.Fence order) = is_fence_order order ≡ true
KindIsReadable name_of (kinds.NewStack k) = k < number_limit
KindIsReadable name_of (kinds.NewThread i) = i < thread_limit
KindIsReadable name_of (kinds.Leave k) = k < number_limit
KindIsReadable name_of (kinds.Enter k) = k < number_limit
KindIsReadable name_of (kinds.Wake cell many) = CellIsReadable cell × (many < number_limit)
KindIsReadable name_of (kinds.Woken n) = n < number_limit

abbrev pub EventIsReadable : NameOf → Event → Type 0
EventIsReadable name_of e = (e.thread < thread_limit) × KindIsReadable name_of e.kind

-- ---- what is read: an integer has width 128, and a function the number that its name has among those used up to then

abbrev pub scalar_for : NameOf → Names → Scalar → Scalar
scalar_for name_of names (scalars.Int w n) = scalars.Int 128 n
scalar_for name_of names (scalars.Func f) = scalars.Func (place_among names (name_of f))
scalar_for name_of names s = s

abbrev pub kind_for : NameOf → Names → Kind → Kind
kind_for name_of names (kinds.Access mode cell order position value) = kinds.Access mode cell order position (scalar_for name_of names value)
kind_for name_of names k = k

abbrev pub event_for : NameOf → Names → Event → Event
event_for name_of names e = record { thread = e.thread; kind = kind_for name_of names e.kind }

-- the names that are used then
abbrev pub scalar_names : NameOf → Names → Scalar → Names
scalar_names name_of names (scalars.Func f) = names_with names (name_of f)
scalar_names name_of names s = names

abbrev pub kind_names : NameOf → Names → Kind → Names
kind_names name_of names (kinds.Access mode cell order position value) = scalar_names name_of names value
kind_names name_of names k = names

-- what was read before, and then the event
abbrev pub after_event : NameOf → ReadLog → Event → ReadLog
after_event name_of r e = record { log = event_for name_of r.names e ∷ r.log; names = kind_names name_of r.names e.kind }
