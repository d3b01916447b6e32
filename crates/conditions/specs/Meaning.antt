-- What a condition says of an outcome.
use Rattle.std.specs.Prelude.{ℕ, ◌==◌, ◌&&◌, Bool, true, false, List, Option, Some, None, slice_get}
use Rattle.std.specs.List.{list_any, list_all}
use denote.Enum.Bare.{sameb}
use Rattle.conditions.specs.declared.tree.Value.{Value}
use Rattle.conditions.specs.declared.tree.Value.TheVariants as values
use Rattle.conditions.specs.declared.tree.Ending.{Ending}
use Rattle.conditions.specs.contracts.tree.Ending.{the_type}
use Rattle.conditions.specs.declared.tree.Atom.{Atom}
use Rattle.conditions.specs.declared.tree.Atom.TheVariants as atoms
use Rattle.conditions.specs.declared.holding.Returned.{Returned}
use Rattle.conditions.specs.declared.holding.Outcome.{Outcome}

-- Numbers are compared as outcomes print them, whatever their types: a number past its type is the same as none.
abbrev pub same_value : Value → Value → Bool
same_value (values.Number n) (values.Number m) = n == m
same_value values.Null values.Null = true
same_value _ _ = false

-- there is one, and it is this
abbrev pub shows : Value → Option Value → Bool
shows v None = false
shows v (Some w) = same_value v w

abbrev pub same_ending : Ending → Ending → Bool
same_ending = sameb the_type

abbrev pub returned_is : ℕ → ℕ → Value → Returned → Bool
returned_is thread number v r = (r.thread == thread) && shows v (slice_get r.values number)

abbrev pub holds : Outcome → Atom → Bool
holds o (atoms.Returned thread number v) = list_any (returned_is thread number v) o.returned
holds o (atoms.Final global v) = shows v (slice_get o.finals global)
holds o (atoms.Ends e) = same_ending e o.ending

-- each member of one of the lists holds
abbrev pub satisfies : List (List Atom) → Outcome → Bool
satisfies lists o = list_any (list_all (holds o)) lists
