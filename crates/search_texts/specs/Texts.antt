-- The text of what a search found: its outcomes, each with a schedule that shows it, and a last line.
use Rattle.std.specs.Prelude.{ℕ, suc, Bool, true, false, not, ◌&&◌, List, [], ◌∷◌, ◌++◌, flat_map, codes, decimal, if◌then◌else◌, ◌≡◌, refl}
use Rattle.std.specs.Global.{Vec}
use Rattle.std.specs.Fmt.{digits}

abbrev pub Text : Type 0
Text = List ℕ

-- the line of a schedule, whose numbers can stand in the file of one
abbrev pub schedule_text : List ℕ → Text
schedule_text ps = codes "schedule" ++ flat_map (λ p. codes " " ++ decimal p) ps ++ codes "\n"

-- an outcome with its number, what is seen of it, and its schedule
abbrev pub outcome_text : ℕ → Text → List ℕ → Text
outcome_text k text ps = codes "outcome " ++ decimal k ++ codes "\n" ++ text ++ schedule_text ps

-- those of a map from texts to schedules, numbered from k on
abbrev pub entries_text : ℕ → List (Vec ℕ × Vec ℕ) → Text
entries_text k [] = []
entries_text k (e ∷ es) = outcome_text k e.0.items e.1.items ++ entries_text (suc k) es

-- nothing is left out: no run is left after those that were made, and all of these said something
abbrev pub is_complete : Bool → Bool → Bool
is_complete left all = not left && all

-- what was used up: the runs, where one is left; the steps, where a run came to its budget
abbrev pub used_up : Bool → Bool → Text
used_up left all = (if left then codes " runs" else []) ++ (if all then [] else codes " steps")

-- `complete N`, or `bounded N` and what was used up
abbrev pub last_line : ℕ → Bool → Bool → Text
last_line n left all = (if is_complete left all then codes "complete " ++ decimal n else codes "bounded " ++ decimal n ++ used_up left all) ++ codes "\n"

one_outcome : outcome_text 0 (codes "done\n") (0 ∷ 12 ∷ []) ≡ codes "outcome 0\ndone\nschedule 0 12\n"
unfolding digits
one_outcome = refl

no_number : schedule_text [] ≡ codes "schedule\n"
no_number = refl

searched : last_line 2 false true ≡ codes "complete 2\n"
unfolding digits
searched = refl

both_used_up : last_line 2 true false ≡ codes "bounded 2 runs steps\n"
unfolding digits
both_used_up = refl
