-- Worked examples, to read beside the definitions: recursive types under two names, three types that lead to one another, types that contain themselves, an array of structs.
use Rattle.std.specs.Prelude.{◌≡◌, ℕ, true, false, List, [], ◌∷◌, refl}
use Rattle.type_definitions.specs.declared.definition.TypeDef.{TypeDef}
use Rattle.type_definitions.specs.declared.definition.TypeDef.TheVariants.{Int, Struct, Array, Hybrid, Void, Ref}
use Rattle.type_definitions.specs.Same.{same, alike}
use Rattle.type_definitions.specs.Class.{class_of}
use Rattle.type_definitions.specs.Parts.{contains_itself, leads}
use Rattle.type_definitions.specs.Leaves.{leaves, leaves_to}

-- int<64>; a struct of an int and a reference to it; the reference; the same two under other names
abbrev lists : List TypeDef
lists = Int 64 ∷ Struct (0 ∷ 2 ∷ []) ∷ Ref 1 ∷ Struct (0 ∷ 4 ∷ []) ∷ Ref 3 ∷ []

pub two_names : same lists 1 3 ≡ true
unfolding alike
two_names = refl

pub two_references : same lists 2 4 ≡ true
unfolding alike
two_references = refl

pub list_is_no_reference : same lists 1 2 ≡ false
unfolding alike
list_is_no_reference = refl

pub class_is_least : class_of lists 4 ≡ 2
unfolding alike
class_is_least = refl

pub leaves_of_a_list : leaves lists 3 ≡ 0 ∷ 4 ∷ []
unfolding leaves_to
leaves_of_a_list = refl

-- three references in a ring, which all unfold to references without end
abbrev ring : List TypeDef
ring = Ref 1 ∷ Ref 2 ∷ Ref 0 ∷ []

pub ring_is_one : same ring 0 2 ≡ true
unfolding alike
ring_is_one = refl

pub ring_has_one_class : class_of ring 2 ≡ 0
unfolding alike
ring_has_one_class = refl

-- three structs, each of a reference to the next: all unfold alike, and none contains itself
abbrev trio : List TypeDef
trio = Struct (3 ∷ []) ∷ Struct (4 ∷ []) ∷ Struct (5 ∷ []) ∷ Ref 1 ∷ Ref 2 ∷ Ref 0 ∷ []

pub trio_is_one : same trio 0 2 ≡ true
unfolding alike
trio_is_one = refl

pub trio_has_one_class : class_of trio 5 ≡ 3
unfolding alike
trio_has_one_class = refl

pub trio_is_finite : contains_itself trio 1 ≡ false
unfolding leads
trio_is_finite = refl

-- three that contain one another, and a struct over them, which does not contain itself
abbrev knot : List TypeDef
knot = Struct (3 ∷ []) ∷ Array 2 4 ∷ Hybrid [] 3 ∷ Struct (1 ∷ []) ∷ []

pub over_an_endless_one : contains_itself knot 0 ≡ false
unfolding leads
over_an_endless_one = refl

pub endless_through_array_and_hybrid : contains_itself knot 1 ≡ true
unfolding leads
endless_through_array_and_hybrid = refl

pub struct_in_itself : contains_itself (Struct (0 ∷ []) ∷ []) 0 ≡ true
unfolding leads
struct_in_itself = refl

pub struct_over_a_reference_to_it : contains_itself (Struct (1 ∷ []) ∷ Ref 0 ∷ []) 0 ≡ false
unfolding leads
struct_over_a_reference_to_it = refl

-- an array of two structs; a hybrid of it; void
abbrev array : List TypeDef
array = Int 8 ∷ Ref 0 ∷ Struct (0 ∷ 1 ∷ []) ∷ Array 2 2 ∷ Hybrid (3 ∷ 0 ∷ []) 0 ∷ Void ∷ []

pub leaves_of_an_array : leaves array 3 ≡ 0 ∷ 1 ∷ 0 ∷ 1 ∷ []
unfolding leaves_to
leaves_of_an_array = refl

pub fixed_leaves_of_a_hybrid : leaves array 4 ≡ 0 ∷ 1 ∷ 0 ∷ 1 ∷ 0 ∷ []
unfolding leaves_to
fixed_leaves_of_a_hybrid = refl

pub void_has_none : leaves array 5 ≡ []
unfolding leaves_to
void_has_none = refl
