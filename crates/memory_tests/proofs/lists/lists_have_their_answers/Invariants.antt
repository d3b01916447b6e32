use Rattle.memory_tests.proofs.lists.lists_have_their_answers.Given as goal

abbrev pub ghosts-play_lists : goal.ghosts-play_lists
ghosts-play_lists g a = record { name = a.blank.name; parts = a.blank.parts }
