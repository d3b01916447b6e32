use Rattle.std.proofs.Common.{◌≡◌, ◌++◌, map, take, Some}
use Rattle.step_forms.specs.Asked.{access_of}
use Rattle.memory_acts.specs.Accessing.{options_of}
use Rattle.move_acts.specs.MoveEvents.{logs_of}
use Rattle.move_acts.proofs.options.option_events.Given as goal

abbrev pub ghosts-count_options : goal.ghosts-count_options
ghosts-count_options g a = record { name = a.blank.name; parts = a.blank.parts }

abbrev pub invariant-loop-n : goal.invariant-loop-n
invariant-loop-n g l = map Some l.events.items ≡ map Some l.initial.events.items ++ take l.n (map (logs_of l.state (access_of l.access) l.cell) (options_of l.state (access_of l.access) l.cell))
