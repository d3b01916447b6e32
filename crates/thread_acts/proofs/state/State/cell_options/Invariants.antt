use Rattle.thread_acts.proofs.state.State.cell_options.Given as goal

abbrev pub ghosts-count_options : goal.ghosts-count_options
ghosts-count_options g a = record { name = a.blank.name; parts = a.blank.parts }
