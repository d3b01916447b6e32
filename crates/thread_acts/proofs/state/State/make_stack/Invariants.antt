use Rattle.thread_acts.proofs.state.State.make_stack.Given as goal

abbrev pub ghosts-commit_other : goal.ghosts-commit_other
ghosts-commit_other g a = record { name = a.blank.name; parts = a.blank.parts }
