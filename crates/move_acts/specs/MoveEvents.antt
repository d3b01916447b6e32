-- Nothing that a reader believes of a run rests on this. It is what the moves of the thread in hand log.
use Rattle.std.specs.Prelude.{◌≡◌, ◌≢◌, ◌<◌, ℕ, List, [], ◌∷◌, ◌++◌, Option, Some, None, IsSome, length, map, option_map, slice_get}
use Rattle.ir_tree.specs.declared.items.Item.{Item}
use Rattle.mu_values.specs.declared.cells.CellId.{CellId}
use Rattle.mem_axioms.specs.declared.types.Event.{Event}
use Rattle.mem_axioms.specs.declared.types.Chosen.{Chosen}
use Rattle.mu_model.specs.Acts.{Access, Act, Doing}
use Rattle.mu_model.specs.Accesses.{kind_of}
use Rattle.mu_model.specs.Changes.{event}
use Rattle.run_state.specs.Held.{Held}
use Rattle.run_state.specs.Acting.{begun, turn}
use Rattle.memory_acts.specs.Accessing.{options_of}
use Rattle.sleep_moves.specs.Moves.{Move, plain_move, act_moves, move_of}

-- each option logs something
abbrev pub AreThere : Held → Access → CellId → Type 0
AreThere s a cell = (n : ℕ) (k : Chosen) → slice_get (options_of s a cell) n ≡ Some k → IsSome (kind_of a cell k)

-- what is logged of an option
abbrev pub logs_of : Held → Access → CellId → Chosen → Option Event
logs_of s a cell k = option_map (event s.thread) (kind_of a cell k)

-- this is logged of the option with this number
abbrev pub OptionLogs : Held → Access → CellId → ℕ → Event → Type 0
OptionLogs s a cell n e = option_map (logs_of s a cell) (slice_get (options_of s a cell) n) ≡ Some (Some e)

-- The moves have these events, which came behind others; or there is one move without an event, and none came.
pub data HasEvents (ms : List Move) (before after : List Event) : Type 0 where
  logs : (es : List Event) → after ≡ before ++ es → ms ≡ map move_of es → 0 < length es → HasEvents ms before after
  plain : (i : ℕ) → after ≡ before → ms ≡ plain_move i ∷ [] → HasEvents ms before after

-- the moves of the thread in hand, by what its instruction does
abbrev pub held_moves : Held → Doing → Act → List Move
held_moves s d a = act_moves (begun s) s.thread (turn s d) a
