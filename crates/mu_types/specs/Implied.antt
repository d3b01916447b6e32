-- The implied types, which every graph has besides the written ones.
use Rattle.std.specs.Prelude.{◌≡◌, ℕ, suc, ◌≤◌, Bool, true, false, List, [], ◌∷◌, ◌++◌, Some, slice_get, cond}
use Rattle.type_definitions.specs.declared.definition.TypeDef.{TypeDef}
use Rattle.type_definitions.specs.declared.definition.TypeDef.TheVariants.{Int, Void, Ref, Iref, FuncRef, StackRef, ThreadRef, Sig}
use Rattle.mu_types.specs.declared.implied.Implied as wanted
use Rattle.mu_types.specs.declared.implied.Implied.TheVariants as wants

abbrev pub is_signature : TypeDef → Bool
is_signature (Sig takes gives) = true
is_signature _ = false

-- what refers to the definition with that id: to a signature its funcref, to a type its ref and its iref
abbrev pub references : ℕ → TypeDef → List TypeDef
references t d = cond (is_signature d) (FuncRef t ∷ []) (Ref t ∷ Iref t ∷ [])

-- the same of all definitions of a list, the first of which has that id
abbrev pub references_from : ℕ → List TypeDef → List TypeDef
references_from t [] = []
references_from t (d ∷ ds) = references t d ++ references_from (suc t) ds

-- the whole graph: the written definitions, void, the other implied types without arguments, and what refers to a written one or to void
abbrev pub complete : List TypeDef → List TypeDef
complete written = written ++ Void ∷ [] ++ Int 1 ∷ Int 32 ∷ StackRef ∷ ThreadRef ∷ [] ++ references_from 0 (written ++ Void ∷ [])

-- the definition of an implied type
abbrev pub definition_of : wanted.Implied → TypeDef
definition_of wants.Void = Void
definition_of wants.Int1 = Int 1
definition_of wants.Int32 = Int 32
definition_of wants.StackRef = StackRef
definition_of wants.ThreadRef = ThreadRef
definition_of (wants.RefTo t) = Ref t
definition_of (wants.IrefTo t) = Iref t
definition_of (wants.FuncRefTo s) = FuncRef s

-- the id of a written definition or of the implied void, where that is a signature or is none
abbrev pub IsWritten : List TypeDef → ℕ → Bool → ℕ → Type 0
IsWritten graph written signature t = (t ≤ written) × ((d : TypeDef) → slice_get graph t ≡ Some d → is_signature d ≡ signature)

-- there is such a type: references lead to written types or void, funcrefs to written signatures
abbrev pub IsThere : List TypeDef → ℕ → wanted.Implied → Type 0
IsThere graph written (wants.RefTo t) = IsWritten graph written false t
IsThere graph written (wants.IrefTo t) = IsWritten graph written false t
IsThere graph written (wants.FuncRefTo s) = IsWritten graph written true s
IsThere graph written _ = Unit {0}
