-- Nothing that a reader believes of a run rests on this. It is the list of a block's variables while the results of an
-- instruction stand behind them.
use Rattle.std.specs.Prelude.{List, ◌++◌, Option, Some, None}
use Rattle.mu_values.specs.Slots.{RoomyValues}
use Rattle.frames.specs.Activations.{Value}

abbrev pub with_results : List Value → Option RoomyValues → List Value
with_results own None = own
with_results own (Some results) = own ++ results.values
