-- What holds of the log of every run.
use Rattle.std.specs.Prelude.{◌≡◌, true, List}
use Rattle.mu_values.specs.declared.scalars.Scalar.{Scalar}
use Rattle.mem_axioms.specs.Axioms.{meets_axioms}
use Rattle.mem_axioms.specs.Races.{is_race_free}
use Rattle.mem_axioms.specs.Objects.{initial_of}
use Rattle.mem_axioms.specs.declared.types.Rule.{Rule}
use Rattle.mem_axioms.specs.declared.types.Event.{Event}

pub record IsSound (rule : Rule) (objects : List (List Scalar)) (log : List Event) : Type 0 where
  -- it meets the axioms
  pub axioms : meets_axioms rule (initial_of objects) log ≡ true
  -- no two of its events race
  pub race_free : is_race_free rule log ≡ true
