use Rattle.log_judge.proofs.log_views.LogViewsPast.race.Given as goal

abbrev pub ghosts-race_in : goal.ghosts-race_in
ghosts-race_in a = record { name = a.blank.name; parts = a.blank.parts }
