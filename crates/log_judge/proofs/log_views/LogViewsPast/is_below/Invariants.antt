use Rattle.log_judge.proofs.log_views.LogViewsPast.is_below.Given as goal

abbrev pub ghosts-is_under : goal.ghosts-is_under
ghosts-is_under a = record { name = a.blank.name; parts = a.blank.parts }
