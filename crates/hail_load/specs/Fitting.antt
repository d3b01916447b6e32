-- Which sources that are no lists fit a type, and the scalars that they are.
use Rattle.std.specs.Prelude.{ℕ, Bool, true, false, ◌==◌, List, [], ◌∷◌, Option, Some, None, Result, Ok, Err, slice_get, slice_index_or, if◌then◌else◌}
use Rattle.demands.specs.declared.fault.Fault.{Fault}
use Rattle.demands.specs.declared.fault.Fault.TheVariants.{At}
use Rattle.name_scopes.specs.Names.{Names, found}
use Rattle.type_definitions.specs.declared.definition.TypeDef.{TypeDef}
use Rattle.type_definitions.specs.declared.definition.TypeDef.TheVariants.{Ref, Iref, FuncRef}
use Rattle.type_definitions.specs.Class.{class_of}
use Rattle.mu_values.specs.declared.scalars.Scalar.{Scalar}
use Rattle.mu_values.specs.declared.scalars.Scalar.TheVariants.{Int, Null, Object, Place, Func}
use Rattle.mu_values.specs.Constants.{width_of, is_reference, number_bits, fits as fits_width}
use Rattle.ir_lex.specs.declared.name.Numeral.{Numeral}
use Rattle.bundle_names.specs.declared.globals.Sort.{Sort}
use Rattle.bundle_names.specs.declared.globals.Sort.TheVariants as sorts
use Rattle.typed_heap.specs.Objects.{HeapObject}
use Rattle.typed_heap.specs.Fits.{fits, place_fits}
use Rattle.hail_load.specs.declared.fault.LoadKind.{LoadKind}
use Rattle.hail_load.specs.declared.fault.LoadKind.TheVariants.{WrongType, OutOfRange}
use Rattle.hail_load.specs.declared.tree.Index.{Index}
use Rattle.hail_load.specs.declared.tree.Piece.{Piece}
use Rattle.hail_load.specs.declared.tree.Piece.TheVariants as pieces
use Rattle.hail_load.specs.Code.{Code}
use Rattle.hail_load.specs.declared.parts.Spot.{Spot}
use Rattle.hail_load.specs.declared.parts.Made.{Made}
use Rattle.hail_load.specs.Parts.{target_spot, ◌>>=◌}

-- the objects that there are, and those of the script by name
pub record Store : Type 0 where
  pub objects : List HeapObject
  pub left : ℕ
  pub made : Names Made

-- ---- references

abbrev pub object_fits : List TypeDef → ℕ → Option HeapObject → Bool
object_fits graph t None = false
object_fits graph t (Some o) = fits graph t o.leaves

abbrev pub place_in_fits : List TypeDef → ℕ → Option HeapObject → ℕ → Bool
place_in_fits graph t None at = false
place_in_fits graph t (Some o) at = place_fits graph t o at

abbrev pub is_class : ℕ → Option ℕ → Bool
is_class c None = false
is_class c (Some d) = d == c

-- an object, a place or a function fits what the type refers to
abbrev pub refers : Code → List HeapObject → Option TypeDef → Scalar → Bool
refers c os (Some (Ref t)) (Object n) = object_fits c.graph t (slice_get os n)
refers c os (Some (Iref t)) (Place n at) = place_in_fits c.graph t (slice_get os n) at
refers c os (Some (FuncRef s)) (Func f) = is_class (class_of c.graph s) (slice_get c.signatures f)
refers c os _ _ = false

abbrev pub is_iref : Option TypeDef → Bool
is_iref (Some (Iref t)) = true
is_iref _ = false

-- ---- sources that are no lists, by the type that they are for

abbrev pub Scalars : Type 0
Scalars = Result (List Scalar) (Fault LoadKind)

-- the scalars where they fit; at this place they do not
abbrev pub where_fits : ℕ → Bool → List Scalar → Scalars
where_fits place true ss = Ok ss
where_fits place false ss = Err (At WrongType place)

-- a number fits an int, and its width
abbrev pub number_scalars : Option ℕ → Numeral → Scalars
number_scalars None n = Err (At WrongType n.place)
number_scalars (Some w) n =
    if fits_width n.number.negative n.number.magnitude w then Ok (Int w (number_bits w n.number.negative n.number.magnitude) ∷ []) else Err (At OutOfRange n.place)

-- a constant fits its own type, a global an iref, and a function a funcref
abbrev pub named_scalars : Code → List HeapObject → ℕ → ℕ → Option Sort → Scalars
named_scalars c os t place (Some (sorts.Constant n)) = where_fits place (is_class (class_of c.graph t) (slice_get c.constants n)) (slice_index_or c.values n [])
named_scalars c os t place (Some (sorts.GlobalCell n)) = where_fits place (refers c os (slice_get c.graph t) (Place n 0)) (Place n 0 ∷ [])
named_scalars c os t place (Some (sorts.Function n)) = where_fits place (refers c os (slice_get c.graph t) (Func n)) (Func n ∷ [])
named_scalars c os t place _ = Err (At WrongType place)

-- an object fits a ref
abbrev pub object_scalars : Code → List HeapObject → ℕ → ℕ → Option Made → Scalars
object_scalars c os t place None = Err (At WrongType place)
object_scalars c os t place (Some m) = where_fits place (refers c os (slice_get c.graph t) (Object m.object)) (Object m.object ∷ [])

-- a target behind `&` fits an iref: whether an iref is wanted is judged first, then the target, and then its place
abbrev pub place_scalars : Code → List HeapObject → ℕ → ℕ → Result Spot (Fault LoadKind) → Scalars
place_scalars c os t place spot =
    if is_iref (slice_get c.graph t)
    then (spot >>= λ s. where_fits place (refers c os (slice_get c.graph t) (Place s.object s.at)) (Place s.object s.at ∷ []))
    else Err (At WrongType place)

-- the indexes at the head of some pieces
abbrev pub next_indexes : List Piece → List Index
next_indexes (pieces.Index i ∷ ps) = i ∷ next_indexes ps
next_indexes _ = []

-- a source that is no list, with the pieces behind it
abbrev pub scalars_of : Code → Store → ℕ → Piece → List Piece → Scalars
scalars_of c s t (pieces.Number n) more = number_scalars (width_of (slice_get c.graph t)) n
scalars_of c s t (pieces.Null place) more = where_fits place (is_reference (slice_get c.graph t)) (Null ∷ [])
scalars_of c s t (pieces.Global n) more = named_scalars c s.objects t n.place (found c.names n.text)
scalars_of c s t (pieces.Object n) more = object_scalars c s.objects t n.place (found s.made n.text)
scalars_of c s t (pieces.Reference place root) more = place_scalars c s.objects t place (target_spot c s.made root (next_indexes more))
scalars_of c s t (pieces.Index i) more = Ok []
scalars_of c s t (pieces.List place many) more = Err (At WrongType place)
