use Rattle.thread_acts.proofs.state.State.wait_at.Given as goal

abbrev pub ghosts-newest : goal.ghosts-newest
ghosts-newest g a = record { name = a.blank.name; parts = a.blank.parts }
