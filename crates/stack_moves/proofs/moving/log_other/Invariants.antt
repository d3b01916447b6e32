use Rattle.stack_moves.proofs.moving.log_other.Given as goal

abbrev pub ghosts-commit_other : goal.ghosts-commit_other
ghosts-commit_other g a = record { name = a.blank.name; parts = a.blank.parts }
