-- The scalar types, of which values are made.
use Rattle.std.specs.Prelude.{Bool, true, false, Option, Some}
use Rattle.type_definitions.specs.declared.definition.TypeDef.{TypeDef}
use Rattle.type_definitions.specs.declared.definition.TypeDef.TheVariants.{Int, Ref, Iref, FuncRef, StackRef, ThreadRef}

-- an int or a reference
abbrev pub is_scalar : Option TypeDef → Bool
is_scalar (Some (Int width)) = true
is_scalar (Some (Ref t)) = true
is_scalar (Some (Iref t)) = true
is_scalar (Some (FuncRef s)) = true
is_scalar (Some StackRef) = true
is_scalar (Some ThreadRef) = true
is_scalar _ = false
