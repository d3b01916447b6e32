-- Nothing that a reader believes of a run rests on this. It is what an access of one thread does, in parts.
use Rattle.std.specs.Prelude.{ℕ, List, [], ◌∷◌, Option, Some, None, length}
use Rattle.ir_tree.specs.declared.items.Item.{Item}
use Rattle.mu_values.specs.declared.cells.CellId.{CellId}
use Rattle.frames.specs.Chains.{Chain}
use Rattle.mem_axioms.specs.declared.types.Event.{Event}
use Rattle.mem_axioms.specs.declared.types.Chosen.{Chosen}
use Rattle.mem_axioms.specs.Objects.{initial_of}
use Rattle.mem_axioms.specs.Choices.{choices}
use Rattle.mem_axioms.specs.Races.{race}
use Rattle.mu_model.specs.declared.lines.Line.TheVariants as lines
use Rattle.mu_model.specs.declared.endings.Case.TheVariants.{DataRace}
use Rattle.mu_model.specs.declared.endings.Ending.{Ending}
use Rattle.mu_model.specs.declared.endings.Ending.TheVariants.{Undefined}
use Rattle.mu_model.specs.Acts.{Access}
use Rattle.mu_model.specs.Accesses.{wanted, race_of, picking_option}
use Rattle.mu_model.specs.Outcomes.{Outcome, End, on}
use Rattle.model_numbers.specs.Numbered.{numbered}
use Rattle.run_state.specs.Held.{Held}
use Rattle.run_state.specs.Acting.{begun, turn, doing_of, went_with}
use Rattle.run_state.specs.Remembering.{initials}

-- the options of an access of a cell
abbrev pub options_of : Held → Access → CellId → List Chosen
options_of s a cell = choices s.rule (initial_of (initials s.objects)) s.log s.thread cell (wanted a)

-- one of them is picked
unfoldable pub picking : List Item → Held → Access → CellId → Outcome
picking bundle s a cell = on (doing_of (numbered bundle) s) (λ d. picking_option (numbered bundle) (begun s) (turn s d) a cell (options_of s a cell))

-- ---- an event

abbrev pub race_at : Held → Event → ℕ → Ending
race_at s e n = Undefined DataRace s.thread s.frames.top.block s.frames.top.at (Some (race_of e n))

-- it is the ending where it races; else it is logged, and the thread goes on with these picks and frames
abbrev pub logs_unless : Held → Event → List ℕ → Chain → Option ℕ → Outcome
logs_unless s e picks frames (Some n) = End [] (race_at s e n)
logs_unless s e picks frames None = went_with (record s { frames = frames; log = e ∷ s.log; picks = picks; skip = 0 }) (lines.Event (length s.log) e ∷ [])

unfoldable pub logs : Held → Event → List ℕ → Chain → Outcome
logs s e picks frames = logs_unless s e picks frames (race s.rule s.log e)
