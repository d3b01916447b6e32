-- A source that is no list is scalars that fit the leaves of the type that it is judged for.
use Rattle.std.proofs.Common.{◌≡◌, ℕ, ◌<◌, ◌^◌, Bool, true, false, List, [], ◌∷◌, length, Option, Some, None, IsSomeAnd, Result, Ok, Err, slice_get, slice_index_or, if◌then◌else◌, refl, sym, ap, subst, ◌∙◌}
use Rattle.std.specs.Prelude.{pos, neg_ℤ}
use Rattle.std.specs.List.{All}
use Rattle.std.proofs.lemmas.Bool.{eqb-true}
use Rattle.std.proofs.lemmas.List.Elements.{All-head}
use Rattle.std.proofs.lemmas.Option.{slice_get_within, get_or_from_slice_get}
use Rattle.demands.specs.declared.fault.Fault.{Fault}
use Rattle.demands.specs.declared.fault.Fault.TheVariants.{At}
use Rattle.name_scopes.specs.Names.{found}
use Rattle.type_definitions.specs.declared.definition.TypeDef.{TypeDef}
use Rattle.type_definitions.specs.declared.definition.TypeDef.TheVariants as types
use Rattle.type_definitions.specs.Definition.{arguments}
use Rattle.type_definitions.specs.Same.{IsGraph}
use Rattle.type_definitions.specs.Class.{class_of}
use Rattle.type_definitions.specs.Scalars.{is_scalar}
use Rattle.type_definitions.specs.Lemmas.Depth.{args_within}
use Rattle.mu_values.specs.declared.scalars.Scalar.{Scalar}
use Rattle.mu_values.specs.declared.scalars.Scalar.TheVariants.{Int, Null, Object, Place, Func}
use Rattle.mu_values.specs.Constants.{width_of, is_reference, number_bits, fits as fits_width}
use Rattle.mu_values.specs.Lemmas.Widths.{bits_below}
use Rattle.ir_lex.specs.declared.name.Numeral.{Numeral}
use Rattle.bundle_names.specs.declared.globals.Sort.{Sort}
use Rattle.bundle_names.specs.declared.globals.Sort.TheVariants as sorts
use Rattle.typed_heap.specs.Objects.{HeapObject, leaf_classes}
use Rattle.typed_heap.specs.Fits.{World, DefinitionFits, ScalarsFit, ValueFits, fits, place_fits}
use Rattle.typed_heap.specs.Lemmas.Fitted.{has, some_and}
use Rattle.bundle_facts.specs.Facts.{AreShaped, LeavesAreOfParts}
use Rattle.bundle_facts.specs.Lemmas.Shapes.{class_shape, class_within, class_own, class_leaves, class_fits, class_place_fits}
use Rattle.hail_load.specs.declared.fault.LoadKind.{LoadKind}
use Rattle.hail_load.specs.declared.fault.LoadKind.TheVariants.{WrongType, OutOfRange}
use Rattle.hail_load.specs.declared.tree.Piece.{Piece}
use Rattle.hail_load.specs.declared.tree.Piece.TheVariants as pieces
use Rattle.hail_load.specs.declared.parts.Made.{Made}
use Rattle.hail_load.specs.declared.parts.Spot.{Spot}
use Rattle.hail_load.specs.FitLaws.{is_found}
use Rattle.hail_load.specs.Code.{Code}
use Rattle.hail_load.specs.Fitting.{Store, refers, is_class, is_iref, where_fits, number_scalars, named_scalars, object_scalars, place_scalars, next_indexes, scalars_of}
use Rattle.hail_load.specs.Parts.{target_spot}
use Rattle.hail_load.specs.Lemmas.Referring.{refers_where_it_fits}

-- what is known of the code of an accepted bundle
pub record Lawful (c : Code) : Type 0 where
  pub graph : IsGraph c.graph
  pub leaves : LeavesAreOfParts c.graph
  pub constants : (n d : ℕ) → slice_get c.constants n ≡ Some d → (w : World) → IsSomeAnd (slice_get c.values n) (λ v. ValueFits c.graph w d v)

abbrev pub is_index : Piece → Bool
is_index (pieces.Index i) = true
is_index _ = false

-- what there is beside the objects of a store, before a run begins
abbrev pub world_of : Code → List HeapObject → World
world_of c os = record { objects = os; signatures = c.signatures; stacks = 1; threads = 1 }

-- ---- what fits a type fits its class

low_target : (g : List TypeDef) (k : ℕ) → All (λ y. y < length g) (k ∷ []) → k < length g
low_target g k a = All-head (λ y. y < length g) k [] a

module _ (g : List TypeDef) (graph : IsGraph g) (w : World) where
  object_moved : (t k n : ℕ) → t < length g → k < length g → class_of g k ≡ class_of g t → IsSomeAnd (slice_get w.objects n) (λ o. fits g t o.leaves ≡ true) → IsSomeAnd (slice_get w.objects n) (λ o. fits g k o.leaves ≡ true)
  object_moved t k n lt lk a h =
      let found = has (λ (o : HeapObject). fits g t o.leaves ≡ true) (slice_get w.objects n) h in
      some_and (λ (o : HeapObject). fits g k o.leaves ≡ true) (slice_get w.objects n) found.value found.is (class_fits g graph k t lk lt a found.value.leaves ∙ found.holds)

  place_moved : (t k n at : ℕ) → t < length g → k < length g → class_of g k ≡ class_of g t → IsSomeAnd (slice_get w.objects n) (λ o. place_fits g t o at ≡ true) →
      IsSomeAnd (slice_get w.objects n) (λ o. place_fits g k o at ≡ true)
  place_moved t k n at lt lk a h =
      let found = has (λ (o : HeapObject). place_fits g t o at ≡ true) (slice_get w.objects n) h in
      some_and (λ (o : HeapObject). place_fits g k o at ≡ true) (slice_get w.objects n) found.value found.is (class_place_fits g graph k t lk lt a found.value at ∙ found.holds)

  function_moved : (r k f : ℕ) → class_of g k ≡ class_of g r → IsSomeAnd (slice_get w.signatures f) (λ x. x ≡ class_of g r) → IsSomeAnd (slice_get w.signatures f) (λ x. x ≡ class_of g k)
  function_moved r k f a h =
      let found = has (λ (x : ℕ). x ≡ class_of g r) (slice_get w.signatures f) h in
      some_and (λ (x : ℕ). x ≡ class_of g k) (slice_get w.signatures f) found.value found.is (found.holds ∙ sym a)

  -- a definition of the same shape
  moved : (d e : TypeDef) (s : Scalar) → All (λ y. y < length g) (arguments d) → All (λ y. y < length g) (arguments e) → AreShaped g d e → DefinitionFits g w d s → DefinitionFits g w e s
  moved (types.Int x) (types.Int v) (Int b n) ld le a h = (h.0 ∙ sym a, subst (λ (m : ℕ). n < 2 ^ m) (sym a) h.1)
  moved (types.Int x) (types.Int v) _ ld le a h = absurd h
  moved (types.Int x) _ s ld le a h = absurd a
  moved (types.Ref t) (types.Ref k) Null ld le a h = tt
  moved (types.Ref t) (types.Ref k) (Object n) ld le a h = object_moved t k n (low_target g t ld) (low_target g k le) a h
  moved (types.Ref t) (types.Ref k) _ ld le a h = absurd h
  moved (types.Ref t) _ s ld le a h = absurd a
  moved (types.Iref t) (types.Iref k) Null ld le a h = tt
  moved (types.Iref t) (types.Iref k) (Place n at) ld le a h = place_moved t k n at (low_target g t ld) (low_target g k le) a h
  moved (types.Iref t) (types.Iref k) _ ld le a h = absurd h
  moved (types.Iref t) _ s ld le a h = absurd a
  moved (types.FuncRef r) (types.FuncRef k) Null ld le a h = tt
  moved (types.FuncRef r) (types.FuncRef k) (Func f) ld le a h = function_moved r k f a h
  moved (types.FuncRef r) (types.FuncRef k) _ ld le a h = absurd h
  moved (types.FuncRef r) _ s ld le a h = absurd a
  moved types.StackRef types.StackRef s ld le a h = h
  moved types.StackRef _ s ld le a h = absurd a
  moved types.ThreadRef types.ThreadRef s ld le a h = h
  moved types.ThreadRef _ s ld le a h = absurd a
  moved _ _ _ ld le a h = absurd h

  scalar_type : (d : TypeDef) (s : Scalar) → DefinitionFits g w d s → is_scalar (Some d) ≡ true
  scalar_type (types.Int x) s h = refl
  scalar_type (types.Ref t) s h = refl
  scalar_type (types.Iref t) s h = refl
  scalar_type (types.FuncRef r) s h = refl
  scalar_type types.StackRef s h = refl
  scalar_type types.ThreadRef s h = refl
  scalar_type _ _ h = absurd h

  -- a scalar that fits a type is a value of its one leaf
  pub one_leaf : LeavesAreOfParts g → (t : ℕ) (d : TypeDef) (s : Scalar) → slice_get g t ≡ Some d → DefinitionFits g w d s → ScalarsFit g w (leaf_classes g t) (s ∷ [])
  one_leaf leaves t d s e h =
      let lt : t < length g = slice_get_within g t d e in
      let k : ℕ = class_of g t in
      let lk : k < length g = class_within g graph t lt in
      let own : class_of g k ≡ class_of g t = class_own g graph t lt in
      let shape = has (AreShaped g d) (slice_get g k) (class_shape g graph t k d lt lk (sym own) e) in
      let here : DefinitionFits g w shape.value s = moved d shape.value s (args_within g graph t d e) (args_within g graph k shape.value shape.is) shape.holds h in
      let alone : leaf_classes g t ≡ k ∷ [] =
      class_leaves g graph t k lt lk (sym own) ∙ leaves.scalar k own (ap is_scalar shape.is ∙ scalar_type shape.value s here) in
      subst (λ (cs : List ℕ). ScalarsFit g w cs (s ∷ [])) (sym alone) (some_and (λ (x : TypeDef). DefinitionFits g w x s) (slice_get g k) shape.value shape.is here, tt)

-- ---- sources

pub chosen : (place : ℕ) (b : Bool) (xs ss : List Scalar) → where_fits place b xs ≡ Ok ss → (b ≡ true) × (xs ≡ ss)
chosen place true xs ss h = (refl, cc)
chosen place false xs ss h = cc

is_that : (c : ℕ) (o : Option ℕ) → is_class c o ≡ true → o ≡ Some c
is_that c None h = cc
is_that c (Some d) h = ap (λ (x : ℕ). Some x) (eqb-true d c h)

module _ (c : Code) (l : Lawful c) (s : Store) where
  abbrev Fit : ℕ → List Scalar → Type 0
  Fit t ss = ScalarsFit c.graph (world_of c s.objects) (leaf_classes c.graph t) ss

  leaf : (t : ℕ) (d : TypeDef) (x : Scalar) → slice_get c.graph t ≡ Some d → DefinitionFits c.graph (world_of c s.objects) d x → Fit t (x ∷ [])
  leaf t d x e h = one_leaf c.graph l.graph (world_of c s.objects) l.leaves t d x e h

  number_fits : (t : ℕ) (o : Option TypeDef) (n : Numeral) (ss : List Scalar) → slice_get c.graph t ≡ o → number_scalars (width_of o) n ≡ Ok ss → Fit t ss
  number_fits t (Some (types.Int v)) n ss e h = by (fits_width n.number.negative n.number.magnitude v) h
    where
      by : (b : Bool) → (if b then Ok (Int v (number_bits v n.number.negative n.number.magnitude) ∷ []) else Err (At OutOfRange n.place)) ≡ Ok ss → Fit t ss
      by true k =
          let same : Int v (number_bits v n.number.negative n.number.magnitude) ∷ [] ≡ ss = cc in
          subst (Fit t) same (leaf t (types.Int v) (Int v (number_bits v n.number.negative n.number.magnitude)) e (refl, bits_below v (if n.number.negative then neg_ℤ (pos n.number.magnitude) else pos n.number.magnitude)))
      by false k = cc
  number_fits t _ n ss e h = cc

  null_fits : (t : ℕ) (o : Option TypeDef) → slice_get c.graph t ≡ o → is_reference o ≡ true → Fit t (Null ∷ [])
  null_fits t (Some (types.Ref x)) e h = leaf t (types.Ref x) Null e tt
  null_fits t (Some (types.Iref x)) e h = leaf t (types.Iref x) Null e tt
  null_fits t (Some (types.FuncRef x)) e h = leaf t (types.FuncRef x) Null e tt
  null_fits t (Some types.StackRef) e h = leaf t types.StackRef Null e tt
  null_fits t (Some types.ThreadRef) e h = leaf t types.ThreadRef Null e tt
  null_fits t _ e h = cc

  found_fits : (t : ℕ) (o : Option TypeDef) (x : Scalar) → slice_get c.graph t ≡ o → is_found x ≡ true → refers c s.objects o x ≡ true → Fit t (x ∷ [])
  found_fits t None x e f h = cc
  found_fits t (Some d) x e f h = leaf t d x e ((refers_where_it_fits c (world_of c s.objects) d x refl f).0 h)

  told_fits : (t place : ℕ) (x : Scalar) (ss : List Scalar) → is_found x ≡ true → where_fits place (refers c s.objects (slice_get c.graph t) x) (x ∷ []) ≡ Ok ss → Fit t ss
  told_fits t place x ss f h =
      let both = chosen place (refers c s.objects (slice_get c.graph t) x) (x ∷ []) ss h in
      subst (Fit t) both.1 (found_fits t (slice_get c.graph t) x refl f both.0)

  constant_fits : (t place n : ℕ) (ss : List Scalar) → t < length c.graph → where_fits place (is_class (class_of c.graph t) (slice_get c.constants n)) (slice_index_or c.values n []) ≡ Ok ss → Fit t ss
  constant_fits t place n ss low h =
      let g : List TypeDef = c.graph in
      let both = chosen place (is_class (class_of g t) (slice_get c.constants n)) (slice_index_or c.values n []) ss h in
      let value = has (λ (v : List Scalar). ValueFits g (world_of c s.objects) (class_of g t) v) (slice_get c.values n)
      (l.constants n (class_of g t) (is_that (class_of g t) (slice_get c.constants n) both.0) (world_of c s.objects)) in
      let same : value.value ≡ ss = sym (get_or_from_slice_get c.values n value.value [] value.is) ∙ both.1 in
      let leaves : leaf_classes g (class_of g t) ≡ leaf_classes g t = class_leaves g l.graph (class_of g t) t (class_within g l.graph t low) low (class_own g l.graph t low) in
      subst (λ (cs : List ℕ). ScalarsFit g (world_of c s.objects) cs ss) leaves (subst (λ (v : List Scalar). ValueFits g (world_of c s.objects) (class_of g t) v) same value.holds)

  named_fits : (t place : ℕ) (o : Option Sort) (ss : List Scalar) → t < length c.graph → named_scalars c s.objects t place o ≡ Ok ss → Fit t ss
  named_fits t place (Some (sorts.Constant n)) ss low h = constant_fits t place n ss low h
  named_fits t place (Some (sorts.GlobalCell n)) ss low h = told_fits t place (Place n 0) ss refl h
  named_fits t place (Some (sorts.Function n)) ss low h = told_fits t place (Func n) ss refl h
  named_fits t place _ ss low h = cc

  object_fits : (t place : ℕ) (o : Option Made) (ss : List Scalar) → object_scalars c s.objects t place o ≡ Ok ss → Fit t ss
  object_fits t place None ss h = cc
  object_fits t place (Some m) ss h = told_fits t place (Object m.object) ss refl h

  spot_fits : (t place : ℕ) (spot : Result Spot (Fault LoadKind)) (ss : List Scalar) → place_scalars c s.objects t place spot ≡ Ok ss → Fit t ss
  spot_fits t place (Ok x) ss h = by (is_iref (slice_get c.graph t)) h
    where
      by : (b : Bool) → (if b then where_fits place (refers c s.objects (slice_get c.graph t) (Place x.object x.at)) (Place x.object x.at ∷ []) else Err (At WrongType place)) ≡ Ok ss → Fit t ss
      by true k = told_fits t place (Place x.object x.at) ss refl k
      by false k = cc
  spot_fits t place (Err f) ss h = by (is_iref (slice_get c.graph t)) h
    where
      by : (b : Bool) → (if b then Err f else Err (At WrongType place)) ≡ Ok ss → Fit t ss
      by true k = cc
      by false k = cc

  pub source_fits : (t : ℕ) (p : Piece) (more : List Piece) (ss : List Scalar) → t < length c.graph → is_index p ≡ false → scalars_of c s t p more ≡ Ok ss →
      ScalarsFit c.graph (world_of c s.objects) (leaf_classes c.graph t) ss
  source_fits t (pieces.Number n) more ss low i h = number_fits t (slice_get c.graph t) n ss refl h
  source_fits t (pieces.Null place) more ss low i h =
      let both = chosen place (is_reference (slice_get c.graph t)) (Null ∷ []) ss h in
      subst (Fit t) both.1 (null_fits t (slice_get c.graph t) refl both.0)
  source_fits t (pieces.Global n) more ss low i h = named_fits t n.place (found c.names n.text) ss low h
  source_fits t (pieces.Object n) more ss low i h = object_fits t n.place (found s.made n.text) ss h
  source_fits t (pieces.Reference place root) more ss low i h = spot_fits t place (target_spot c s.made root (next_indexes more)) ss h
  source_fits t (pieces.Index x) more ss low i h = cc
  source_fits t (pieces.List place many) more ss low i h = cc
