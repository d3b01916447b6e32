use Rattle.thread_acts.proofs.state.State.stand_waiting.Given as goal

abbrev pub ghosts-commit : goal.ghosts-commit
ghosts-commit g a = record { name = a.blank.name; parts = a.blank.parts }
