use Rattle.move_acts.proofs.options.option_event.Given as goal

abbrev pub ghosts-option_at : goal.ghosts-option_at
ghosts-option_at g a = record { name = a.blank.name; parts = a.blank.parts }
