-- What a definition of a type or signature is made of: a constructor, at most one number, and arguments.
use Rattle.std.specs.Prelude.{ℕ, List, [], ◌∷◌, ◌++◌, length}
use Rattle.type_definitions.specs.declared.definition.TypeDef.{TypeDef}
use Rattle.type_definitions.specs.declared.definition.TypeDef.TheVariants.{Int, Struct, Array, Hybrid, Void, Ref, Iref, FuncRef, StackRef, ThreadRef, Sig}

-- each constructor by a number of its own
abbrev pub constructor : TypeDef → ℕ
constructor (Int width) = 0
constructor (Struct fields) = 1
constructor (Array element size) = 2
constructor (Hybrid fixed element) = 3
constructor Void = 4
constructor (Ref t) = 5
constructor (Iref t) = 6
constructor (FuncRef s) = 7
constructor StackRef = 8
constructor ThreadRef = 9
constructor (Sig takes gives) = 10

-- the width of an int, the length of an array, how many parameters a signature takes; 0 for the others
abbrev pub number : TypeDef → ℕ
number (Int width) = width
number (Array element size) = size
number (Sig takes gives) = length takes
number _ = 0

-- the definitions that it names, in order; the parameters of a signature, then its results
abbrev pub arguments : TypeDef → List ℕ
arguments (Struct fields) = fields
arguments (Array element size) = element ∷ []
arguments (Hybrid fixed element) = fixed ++ element ∷ []
arguments (Ref t) = t ∷ []
arguments (Iref t) = t ∷ []
arguments (FuncRef s) = s ∷ []
arguments (Sig takes gives) = takes ++ gives
arguments _ = []
