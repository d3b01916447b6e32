-- Names of one space with what they stand for, in the order of their definitions.
use Rattle.std.specs.Prelude.{ℕ, List, [], ◌∷◌, ◌++◌, Option, Some, None, is_some, if◌then◌else◌}
use Rattle.std.specs.Str.{bytes_eq}

abbrev pub Names : Type 0 → Type 0
Names T = List (List ℕ × T)

-- what the first definition of the name says
abbrev pub found : {T : Type 0} → Names T → List ℕ → Option T
found [] name = None
found (e ∷ es) name = if bytes_eq name e.0 then Some e.1 else found es name

-- with one more definition: the first of a name stands
abbrev pub added : {T : Type 0} → Names T → List ℕ → T → Names T
added es name value = if is_some (found es name) then es else es ++ (name, value) ∷ []
