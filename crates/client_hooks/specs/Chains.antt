-- Which of two clients answers.
use Rattle.std.specs.Prelude.{Bool, true, false}

-- what is said of the second where the first is spent, and else of the first
abbrev pub of_answering : Bool → Type 0 → Type 0 → Type 0
of_answering true first second = second
of_answering false first second = first
