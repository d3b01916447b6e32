-- The room for the events of one step: a thread, a cell or none, and a number of events.
use Rattle.std.specs.Prelude.{◌≡◌, ◌-◌, ◌<◌, Some, ⊤}
use Rattle.mem_axioms.specs.declared.types.Kind.TheVariants.{Access}
use Rattle.mem_axioms.specs.declared.types.Event.{Event}
use Rattle.mem_axioms.specs.declared.types.Room.{Room}

-- There is room for one more event. An access needs the room of its own thread and cell; other events any.
abbrev pub HasRoom : Room → Event → Type 0
HasRoom room e = (0 < room.events) × elim e.kind as (λ _. Type 0) [
  | Access mode cell order position value ↦ (room.thread ≡ e.thread) × (room.cell ≡ Some cell)
  | _ ↦ ⊤
]

-- the room that one event leaves
abbrev pub one_less : Room → Room
one_less room = record room { events = room.events - 1 }
