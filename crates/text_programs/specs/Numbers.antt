-- The event lines of a run are numbered.
use Rattle.std.specs.Prelude.{◌≡◌, ℕ, suc, List, [], ◌∷◌, ◌++◌, flat_map, refl}
use Rattle.mem_axioms.specs.declared.types.Event.{Event}
use Rattle.mu_model.specs.declared.lines.Line.{Line}
use Rattle.mu_model.specs.declared.lines.Line.TheVariants as lines
use Rattle.mu_model.specs.declared.lines.Note.{Note}
use Rattle.mu_model.specs.declared.endings.Ending.{Ending}
use Rattle.mu_model.specs.Acts.{Program}
use Rattle.mu_model.specs.Run.{Setting, Ends, program_run}

-- The event lines among these lines have the numbers from `n` on, one after the other; other lines have none.
abbrev pub Numbered : ℕ → List Line → Type 0
Numbered n [] = Unit {0}
Numbered n (lines.Event number e ∷ ls) = (number ≡ n) × Numbered (suc n) ls
Numbered n (lines.Note note ∷ ls) = Numbered n ls

-- an example
a_record_between : (e f : Event) (note : Note) → Numbered 0 (lines.Event 0 e ∷ lines.Note note ∷ lines.Event 1 f ∷ [])
a_record_between e f note = (refl, (refl, tt))

-- all lines of a run in order: those of its steps, and then those of the step that gives the ending
abbrev pub all_lines : List (List Line) → List Line → List Line
all_lines steps ls = flat_map (λ l. l) steps ++ ls

-- Whatever the program, the event lines of a run that ends are numbered from 0 on.
abbrev pub RunsAreNumbered : Type 0
RunsAreNumbered = (p : Program) (s : Setting) (function : ℕ) (steps : List (List Line)) (ls : List Line) (e : Ending) → program_run p s function ≡ Ends steps ls e → Numbered 0 (all_lines steps ls)
