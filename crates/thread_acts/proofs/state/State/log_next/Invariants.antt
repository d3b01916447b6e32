use Rattle.thread_acts.proofs.state.State.log_next.Given as goal

abbrev pub ghosts-commit_next : goal.ghosts-commit_next
ghosts-commit_next g a = record { name = a.blank.name; parts = a.blank.parts }
