-- The pieces of texts, computed.
use Rattle.std.specs.Prelude.{codes, ◌≡◌, refl, [], ◌∷◌}
use Rattle.std.specs.Fmt.{digits}
use Rattle.mu_model.specs.declared.lines.Note.TheVariants.{Exited}
use Rattle.mu_model.specs.declared.lines.Line.TheVariants.{Note}
use Rattle.mu_model.specs.declared.endings.Ending.TheVariants.{Done, Stop}
use Rattle.run_texts.specs.Pieces.{pieces_of}

-- a step without lines has no piece
silent_steps : pieces_of [] ([] ∷ (Note (Exited 0) ∷ []) ∷ [] ∷ []) [] Done ≡ codes "exited t0\n" ∷ codes "done\n" ∷ []
unfolding digits
silent_steps = refl

-- the lines of the step that gives the ending stand in the last piece
last_step : pieces_of [] ((Note (Exited 1) ∷ []) ∷ []) (Note (Exited 2) ∷ Note (Exited 0) ∷ []) Stop ≡ codes "exited t1\n" ∷ codes "exited t2\nexited t0\nstop\n" ∷ []
unfolding digits
last_step = refl
