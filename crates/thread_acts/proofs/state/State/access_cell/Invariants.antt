use Rattle.thread_acts.proofs.state.State.access_cell.Given as goal

abbrev pub ghosts-option_picked : goal.ghosts-option_picked
ghosts-option_picked g a = record { name = a.blank.name; parts = a.blank.parts }
