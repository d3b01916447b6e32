use Rattle.log_judge.proofs.log_views.LogViews.value_at.Given as goal

abbrev pub ghosts-written : goal.ghosts-written
ghosts-written a = record { name = a.blank.name; parts = a.blank.parts }
