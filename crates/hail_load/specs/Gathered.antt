-- Scalars that stand one behind the other, in runs.
-- Contracts inside the crate cite this; no public one does, so no reader of those needs it.
use Rattle.std.specs.Prelude.{List, [], ◌∷◌}
use Rattle.std.specs.List.{flat_map}
use Rattle.mu_values.specs.declared.scalars.Scalar.{Scalar}
use Rattle.hail_load.specs.declared.gathered.Run.{Run}
use Rattle.hail_load.specs.declared.gathered.Run.TheVariants.{One, Constant}

abbrev pub scalars_in : Run → List Scalar
scalars_in (One s) = s ∷ []
scalars_in (Constant ss) = ss.now

-- those of all runs, in order
abbrev pub gathered : List Run → List Scalar
gathered rs = flat_map scalars_in rs
