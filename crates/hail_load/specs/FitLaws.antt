-- What a source refers to fits a type exactly where it is a value of that type.
use Rattle.std.specs.Prelude.{◌≡◌, Bool, true, false, Some, ◌↔◌}
use Rattle.type_definitions.specs.declared.definition.TypeDef.{TypeDef}
use Rattle.mu_values.specs.declared.scalars.Scalar.{Scalar}
use Rattle.mu_values.specs.declared.scalars.Scalar.TheVariants.{Object, Place, Func}
use Rattle.typed_heap.specs.Fits.{World, DefinitionFits}
use Rattle.hail_load.specs.Code.{Code}
use Rattle.hail_load.specs.Fitting.{refers}

-- an object, a place or a function
abbrev pub is_found : Scalar → Bool
is_found (Object n) = true
is_found (Place n at) = true
is_found (Func f) = true
is_found _ = false

abbrev pub RefersWhereItFits : Type 0
RefersWhereItFits = (c : Code) (w : World) (d : TypeDef) (s : Scalar) → w.signatures ≡ c.signatures → is_found s ≡ true → (refers c w.objects (Some d) s ≡ true) ↔ DefinitionFits c.graph w d s
