-- Types by number. A type or signature that is written has the number by which the graph of a bundle's types knows it; the
-- types that are the same have one class, and what has a type is known by the class of that type.
use Rattle.std.specs.Prelude.{ℕ, Bool, false, List, [], Option, Some, None, length, slice_get, nat_lt, not, unwrap_or, option_map, option_and_then, if◌then◌else◌}
use Rattle.type_definitions.specs.declared.definition.TypeDef.{TypeDef}
use Rattle.type_definitions.specs.declared.definition.TypeDef.TheVariants.{Int, Ref, Iref, FuncRef, StackRef, ThreadRef}
use Rattle.type_definitions.specs.Same.{same, agree_at}
use Rattle.type_definitions.specs.Class.{least, class_of}
use Rattle.type_definitions.specs.Leaves.{leaves}
use Rattle.mu_types.specs.Graph.{Table}
use Rattle.mu_types.specs.Implied.{is_signature}

-- the class of the types that are defined like this: the least one that has this constructor and number, and the same arguments
abbrev pub class_like : List TypeDef → TypeDef → ℕ
class_like graph d = least (λ b. agree_at (same graph) (slice_get graph b) (Some d)) (length graph)

-- what is written under a number, where something is
abbrev pub definition_at : Table → ℕ → Option TypeDef
definition_at p t = if nat_lt t p.written then slice_get p.definitions t else None

abbrev pub definition_in : Table → Option ℕ → Option TypeDef
definition_in p t = option_and_then (definition_at p) t

-- the class of what is written under a number
abbrev pub class_at : Table → ℕ → Option ℕ
class_at p t = if nat_lt t p.written then Some (class_of p.definitions t) else None

abbrev pub class_in : Table → Option ℕ → Option ℕ
class_in p t = option_and_then (class_at p) t

-- the leaves of a type that is written; none where none is
abbrev pub leaves_at : Table → ℕ → List ℕ
leaves_at p t = if nat_lt t p.written then leaves p.definitions t else []

abbrev pub leaves_in : Table → Option ℕ → List ℕ
leaves_in p t = unwrap_or (option_map (leaves_at p) t) []

-- whether what is written under a number is a signature, and whether it is a type
abbrev pub is_sig : Option TypeDef → Bool
is_sig None = false
is_sig (Some d) = is_signature d

abbrev pub is_type_there : Option TypeDef → Bool
is_type_there None = false
is_type_there (Some d) = not (is_signature d)

-- the class of the references to objects, and of those to places, of a type that is written
abbrev pub ref_at : Table → ℕ → Option ℕ
ref_at p t = if is_type_there (definition_at p t) then Some (class_like p.definitions (Ref t)) else None

abbrev pub iref_at : Table → ℕ → Option ℕ
iref_at p t = if is_type_there (definition_at p t) then Some (class_like p.definitions (Iref t)) else None

-- the class of the references to functions of a signature
abbrev pub funcref_at : Table → ℕ → Option ℕ
funcref_at p s = if is_sig (definition_at p s) then Some (class_like p.definitions (FuncRef s)) else None

abbrev pub ref_in : Table → Option ℕ → Option ℕ
ref_in p t = option_and_then (ref_at p) t

abbrev pub iref_in : Table → Option ℕ → Option ℕ
iref_in p t = option_and_then (iref_at p) t

-- the classes of the types that every bundle has: integers of one bit and of 32, references to stacks and to threads, and references
-- to objects of type void; void itself stands behind what is written
abbrev pub int1 : Table → ℕ
int1 p = class_like p.definitions (Int 1)

abbrev pub int32 : Table → ℕ
int32 p = class_like p.definitions (Int 32)

abbrev pub stackref : Table → ℕ
stackref p = class_like p.definitions StackRef

abbrev pub threadref : Table → ℕ
threadref p = class_like p.definitions ThreadRef

abbrev pub ref_void : Table → ℕ
ref_void p = class_like p.definitions (Ref p.written)
