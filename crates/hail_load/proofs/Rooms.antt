-- Parts stand in their objects, and sources have no more scalars than their parts have leaves.
use Rattle.std.proofs.Common.{◌≡◌, ℕ, zero, suc, ◌+◌, ◌*◌, ◌^◌, ◌<◌, ◌≤◌, ◌==◌, Bool, true, false, List, [], ◌∷◌, ◌++◌, length, map, take, Option, Some, None, Result, Ok, Err, is_some, slice_get, slice_index_or, option_map, if◌then◌else◌, refl, sym, ap, subst, ◌∙◌, arith, suc-mul, zero-mul}
use Rattle.std.specs.Prelude.{sum_by, slice_index, IfOk}
use Rattle.std.specs.List.{All}
use Rattle.std.proofs.lemmas.Bool.{eqb-true}
use Rattle.std.proofs.lemmas.List.{length-append}
use Rattle.std.proofs.lemmas.List.Sums.{sum_by-cons, sum_by-append}
use Rattle.std.proofs.lemmas.List.Elements.{All-nil, All-cons, All-head, All-tail, All-append, All-weaker}
use Rattle.std.proofs.lemmas.Option.{slice_get-map}
use Rattle.demands.specs.declared.fault.Fault.{Fault}
use Rattle.demands.specs.declared.fault.Fault.TheVariants.{At}
use Rattle.name_scopes.specs.Names.{Names, found, added}
use Rattle.ir_lex.specs.declared.name.Name.{Name}
use Rattle.ir_lex.specs.declared.name.Numeral.{Numeral}
use Rattle.type_definitions.specs.declared.definition.TypeDef.{TypeDef}
use Rattle.type_definitions.specs.declared.definition.TypeDef.TheVariants as types
use Rattle.type_definitions.specs.Same.{IsGraph}
use Rattle.type_definitions.specs.Class.{class_of}
use Rattle.type_definitions.specs.Leaves.{times}
use Rattle.type_definitions.specs.Scalars.{is_scalar}
use Rattle.mu_values.specs.declared.scalars.Scalar.{Scalar}
use Rattle.mu_values.specs.declared.scalars.Scalar.TheVariants.{Int, Null, Object, Place, Func}
use Rattle.mu_values.specs.Constants.{width_of, is_reference, number_bits, fits as fits_width}
use Rattle.bundle_names.specs.declared.globals.Sort.{Sort}
use Rattle.bundle_names.specs.declared.globals.Sort.TheVariants as sorts
use Rattle.check_tables.specs.TypeTests.{repeated_of}
use Rattle.typed_heap.specs.Objects.{HeapObject, leaf_classes, run_of, run_classes, object_of}
use Rattle.typed_heap.specs.Heap.{cells_of}
use Rattle.hail_load.specs.declared.fault.LoadKind.{LoadKind}
use Rattle.hail_load.specs.declared.fault.LoadKind.TheVariants.{WrongType, OutOfRange}
use Rattle.hail_load.specs.declared.parts.Part.{Part}
use Rattle.hail_load.specs.declared.parts.Part.TheVariants.{Value, Hybrid, Elements}
use Rattle.hail_load.specs.declared.parts.Made.{Made}
use Rattle.hail_load.specs.declared.parts.Spot.{Spot}
use Rattle.hail_load.specs.declared.tree.Index.{Index}
use Rattle.hail_load.specs.declared.tree.Root.{Root}
use Rattle.hail_load.specs.declared.tree.Root.TheVariants as roots_of
use Rattle.hail_load.specs.declared.tree.Piece.{Piece}
use Rattle.hail_load.specs.declared.tree.Piece.TheVariants as pieces
use Rattle.hail_load.specs.Code.{Code}
use Rattle.hail_load.specs.Known.{IsKnown}
use Rattle.hail_load.specs.Rooms.{AreSized, FitsANumber, HasRoom, AreRoomy, KeepsCells}
use Rattle.hail_load.specs.Parts.{value_parts, hybrid_parts, parts_of, size_of, part_with, index_into, indexed, made_spot, typed_spot, global_spot, root_spot, target_spot, ◌>>=◌}
use Rattle.hail_load.specs.Fitting.{Store, refers, is_class, is_iref, where_fits, number_scalars, named_scalars, object_scalars, place_scalars, next_indexes, scalars_of}
use Rattle.hail_load.specs.Judging.{wanted_by, part_scalars, judged}
use Rattle.hail_load.specs.LoadAnswers.{AreGlobals}
use Rattle.hail_load.specs.Answering.{IsThere, Tells}
use Rattle.hail_load.specs.Lemmas.Knowing.{class_long}
use Rattle.hail_load.specs.Lemmas.Steps.{All_there, parts_there}
use Rattle.hail_load.proofs.Naming.{all_found}

-- ---- answers in order

went : {A B : Type 0} (r : Result A (Fault LoadKind)) (f : A → Result B (Fault LoadKind)) (b : B) → (r >>= f) ≡ Ok b → (a : A) × (r ≡ Ok a) × (f a ≡ Ok b)
went (Ok a) f b h = (a, refl, h)
went (Err e) f b h = cc

-- ---- sizes of parts

times_sized : (g : List TypeDef) (many t : ℕ) → sum_by (size_of g) (times many (Value t ∷ [])) ≡ many * length (leaf_classes g t)
times_sized g zero t = sym (zero-mul (length (leaf_classes g t)))
times_sized g (suc many) t =
    let more = times_sized g many t in
    sum_by-cons (size_of g) (Value t) (times many (Value t ∷ [])) ∙ omega (arith, more, suc-mul many (length (leaf_classes g t)))

value_sized : (g : List TypeDef) → AreSized g → (t : ℕ) (o : Option TypeDef) (ps : List Part) → slice_get g t ≡ o → value_parts o ≡ Some ps → sum_by (size_of g) ps ≡ length (leaf_classes g t)
value_sized g k t (Some (types.Struct fields)) ps e h = let same : map Value fields ≡ ps = cc in sym (k.struct t fields e ∙ ap (λ (qs : List Part). sum_by (size_of g) qs) same)
value_sized g k t (Some (types.Array element size)) ps e h =
    let same : times size (Value element ∷ []) ≡ ps = cc in sym (k.array t element size e ∙ sym (times_sized g size element) ∙ ap (λ (qs : List Part). sum_by (size_of g) qs) same)
value_sized g k t _ ps e h = cc

run_long : (g : List TypeDef) (t element many : ℕ) (fixed : List ℕ) → slice_get g t ≡ Some (types.Hybrid fixed element) → many * length (run_classes g t) ≡ many * length (leaf_classes g element)
run_long g t element many fixed e =
    let run : run_classes g t ≡ leaf_classes g element = ap (λ (o : Option TypeDef). run_of g (repeated_of o)) e in
    ap (λ (cs : List ℕ). many * length cs) run

last_sized : (g : List TypeDef) (many element : ℕ) (ps : List Part) → sum_by (size_of g) (ps ++ Elements element many ∷ []) ≡ sum_by (size_of g) ps + many * length (leaf_classes g element)
last_sized g many element ps =
    let both = sum_by-append (size_of g) ps (Elements element many ∷ []) in
    let one = sum_by-cons (size_of g) (Elements element many) [] in
    omega (arith, both, one)

hybrid_sized : (g : List TypeDef) → AreSized g → (t many : ℕ) (o : Option TypeDef) (ps : List Part) → slice_get g t ≡ o → hybrid_parts o many ≡ Some ps → sum_by (size_of g) ps ≡ size_of g (Hybrid t many)
hybrid_sized g k t many (Some (types.Hybrid fixed element)) ps e h =
    let same : map Value fixed ++ Elements element many ∷ [] ≡ ps = cc in
    let run = run_long g t element many fixed e in
    let all = last_sized g many element (map Value fixed) in
    let fields = k.hybrid t element fixed e in
    sym (ap (λ (qs : List Part). sum_by (size_of g) qs) same) ∙ omega (arith, all, fields, run)
hybrid_sized g k t many _ ps e h = cc

parts_sized : (g : List TypeDef) → AreSized g → (p : Part) (ps : List Part) → parts_of g p ≡ Some ps → sum_by (size_of g) ps ≡ size_of g p
parts_sized g k (Value t) ps h = value_sized g k t (slice_get g t) ps refl h
parts_sized g k (Hybrid t many) ps h = hybrid_sized g k t many (slice_get g t) ps refl h
parts_sized g k (Elements t many) ps h =
    let same : times many (Value t ∷ []) ≡ ps = cc in sym (ap (λ (qs : List Part). sum_by (size_of g) qs) same) ∙ times_sized g many t

-- ---- offsets

one_within : (f : Part → ℕ) (ps : List Part) (n : ℕ) (p : Part) → slice_get ps n ≡ Some p → sum_by f (take n ps) + f p ≤ sum_by f ps
one_within f [] n p e = cc
one_within f (q ∷ ps) zero p e =
    let is : q ≡ p = cc in
    let same = ap f is in
    omega (arith, same, sum_by-cons f q ps)
one_within f (q ∷ ps) (suc n) p e =
    let more = one_within f ps n p e in
    omega (arith, more, sum_by-cons f q ps, sum_by-cons f q (take n ps))

-- a spot stands in the cells of another
record IsWithin (g : List TypeDef) (s next : Spot) : Type 0 where
  object : next.object ≡ s.object
  cells : next.at + size_of g next.part ≤ s.at + size_of g s.part

part_within : (g : List TypeDef) (s next : Spot) (ps : List Part) (i : Index) (o : Option Part) → sum_by (size_of g) ps ≡ size_of g s.part → slice_get ps i.number.number.magnitude ≡ o → part_with g s ps i o ≡ Ok next → IsWithin g s next
part_within g s next ps i None a e k = cc
part_within g s next ps i (Some p) a e k =
    let n = i.number.number.magnitude in
    let same : record { object = s.object; at = s.at + sum_by (size_of g) (take n ps); part = p } ≡ next = cc in
    let one = one_within (size_of g) ps n p e in
    subst (IsWithin g s) same (record { object = refl; cells = omega (arith, one, a) })

index_in : (g : List TypeDef) → AreSized g → (s next : Spot) (i : Index) (o : Option (List Part)) → parts_of g s.part ≡ o → index_into g s i o ≡ Ok next → IsWithin g s next
index_in g k s next i None e f = cc
index_in g k s next i (Some ps) e f = part_within g s next ps i (slice_get ps i.number.number.magnitude) (parts_sized g k s.part ps e) refl f

-- what an index leads to has no more room than there was
index_room : (g : List TypeDef) (s next : Spot) (i : Index) → AreSized g → index_into g s i (parts_of g s.part) ≡ Ok next → next.at + size_of g next.part ≤ s.at + size_of g s.part
index_room g s next i k e = (index_in g k s next i (parts_of g s.part) refl e).cells

pub index_low : (g : List TypeDef) (s : Spot) (i : Index) (r : Result Spot (Fault LoadKind)) → AreSized g → s.at + size_of g s.part < 2 ^ 32 → Tells (index_into g s i (parts_of g s.part)) r →
    IfOk r (λ n. n.at + size_of g n.part < 2 ^ 32)
index_low g s i (Ok n) k l e = let room = index_room g s n i k e in omega (arith, room, l)
index_low g s i (Err f) k l e = tt

indexed_in : (g : List TypeDef) → AreSized g → (s last : Spot) (is : List Index) → indexed g s is ≡ Ok last → IsWithin g s last
indexed_in g k s last [] e = let same : s ≡ last = cc in subst (IsWithin g s) same (record { object = refl; cells = omega arith })
indexed_in g k s last (i ∷ is) e =
    let step = went (index_into g s i (parts_of g s.part)) (λ next. indexed g next is) last e in
    let one = index_in g k s step.0 i (parts_of g s.part) refl step.1 in
    let rest = indexed_in g k step.0 last is step.2 in
    record { object = rest.object ∙ one.object; cells = omega (arith, one.cells, rest.cells) }

-- what stands before a part, and the part, fit a number
pub value_room : (g : List TypeDef) (t at : ℕ) (d : TypeDef) → AreSized g → slice_get g t ≡ Some d → at + length (leaf_classes g t) < 2 ^ 32 → FitsANumber g at d
value_room g t at (types.Struct fields) k e l = let same = k.struct t fields e in omega (arith, l, same)
value_room g t at (types.Array element n) k e l = let same = k.array t element n e in omega (arith, l, same)
value_room g t at (types.Hybrid fixed element) k e l = let same = k.hybrid t element fixed e in omega (arith, l, same)
value_room g t at (types.Int w) k e l = tt
value_room g t at types.Void k e l = tt
value_room g t at (types.Ref d) k e l = tt
value_room g t at (types.Iref d) k e l = tt
value_room g t at (types.FuncRef d) k e l = tt
value_room g t at types.StackRef k e l = tt
value_room g t at types.ThreadRef k e l = tt
value_room g t at (types.Sig a b) k e l = tt

pub hybrid_room : (g : List TypeDef) (t many at : ℕ) (d : TypeDef) → AreSized g → slice_get g t ≡ Some d → at + size_of g (Hybrid t many) < 2 ^ 32 → FitsANumber g at d
hybrid_room g t many at d k e l = value_room g t at d k e (omega (arith, l))

pub field_within : (g : List TypeDef) (fields : List ℕ) (n : ℕ) → n < length fields → sum_by (size_of g) (map Value (take n fields)) + length (leaf_classes g (slice_index fields n)) ≤ sum_by (size_of g) (map Value fields)
field_within g [] n l = absurd (omega (arith, l))
field_within g (x ∷ fields) zero l = omega (arith, sum_by-cons (size_of g) (Value x) (map Value fields))
field_within g (x ∷ fields) (suc n) l =
    let more = field_within g fields n (omega (arith, l)) in
    omega (arith, more, sum_by-cons (size_of g) (Value x) (map Value fields), sum_by-cons (size_of g) (Value x) (map Value (take n fields)))

pub fields_within : (g : List TypeDef) (fields : List ℕ) (n : ℕ) → sum_by (size_of g) (map Value (take n fields)) ≤ sum_by (size_of g) (map Value fields)
fields_within g [] zero = omega arith
fields_within g [] (suc n) = omega arith
fields_within g (x ∷ fields) zero = omega arith
fields_within g (x ∷ fields) (suc n) =
    let more = fields_within g fields n in
    omega (arith, more, sum_by-cons (size_of g) (Value x) (map Value fields), sum_by-cons (size_of g) (Value x) (map Value (take n fields)))

-- ---- targets

made_room : (c : Code) (os : List HeapObject) (es : Names Made) (n : Name) (o : Option Made) (s : Spot) → AreRoomy c os es → found es n.text ≡ o → made_spot n o ≡ Ok s → HasRoom c.graph os s
made_room c os es n None s a f e = cc
made_room c os es n (Some m) s a f e =
    let same : record { object = m.object; at = 0; part = m.part } ≡ s = cc in
    let one = all_found (λ (x : Made). size_of c.graph x.part ≤ cells_of (slice_get os x.object)) es n.text m a.made f in
    subst (HasRoom c.graph os) same (omega (arith, one))

typed_room : (c : Code) (os : List HeapObject) (es : Names Made) (n : Name) (global : ℕ) (o : Option ℕ) (s : Spot) → AreRoomy c os es → slice_get c.globals global ≡ o → typed_spot n global o ≡ Ok s → HasRoom c.graph os s
typed_room c os es n global None s a f e = cc
typed_room c os es n global (Some t) s a f e =
    let same : record { object = global; at = 0; part = Value t } ≡ s = cc in
    let one = a.globals global t f in
    subst (HasRoom c.graph os) same (omega (arith, one))

global_room : (c : Code) (os : List HeapObject) (es : Names Made) (n : Name) (o : Option Sort) (s : Spot) → AreRoomy c os es → global_spot c.globals n o ≡ Ok s → HasRoom c.graph os s
global_room c os es n (Some (sorts.GlobalCell global)) s a e = typed_room c os es n global (slice_get c.globals global) s a refl e
global_room c os es n (Some (sorts.Written k)) s a e = cc
global_room c os es n (Some (sorts.Signature k)) s a e = cc
global_room c os es n (Some (sorts.Constant k)) s a e = cc
global_room c os es n (Some (sorts.Function k)) s a e = cc
global_room c os es n None s a e = cc

-- what a target begins with
pub root_room : (c : Code) (os : List HeapObject) (es : Names Made) (root : Root) (s : Spot) → AreRoomy c os es → root_spot c es root ≡ Ok s → HasRoom c.graph os s
root_room c os es (roots_of.Object n) s a e = made_room c os es n (found es n.text) s a refl e
root_room c os es (roots_of.Global n) s a e = global_room c os es n (found c.names n.text) s a e

target_room : (c : Code) → IsKnown c → (os : List HeapObject) (es : Names Made) (root : Root) (is : List Index) (s : Spot) → AreRoomy c os es → target_spot c es root is ≡ Ok s → HasRoom c.graph os s
target_room c k os es root is s a e =
    let step = went (root_spot c es root) (λ x. indexed c.graph x is) s e in
    let first = root_room c os es root step.0 a step.1 in
    let within = indexed_in c.graph k.sizes step.0 s is step.2 in
    let same = ap (λ (n : ℕ). cells_of (slice_get os n)) within.object in
    omega (arith, first, within.cells, same)

-- ---- sources

chosen : (place : ℕ) (b : Bool) (xs ss : List Scalar) → where_fits place b xs ≡ Ok ss → (b ≡ true) × (xs ≡ ss)
chosen place true xs ss h = (refl, cc)
chosen place false xs ss h = cc

is_that : (c : ℕ) (o : Option ℕ) → is_class c o ≡ true → o ≡ Some c
is_that c None h = cc
is_that c (Some d) h = ap (λ (x : ℕ). Some x) (eqb-true d c h)

reference_scalar : (o : Option TypeDef) → is_reference o ≡ true → is_scalar o ≡ true
reference_scalar (Some (types.Ref t)) h = refl
reference_scalar (Some (types.Iref t)) h = refl
reference_scalar (Some (types.FuncRef t)) h = refl
reference_scalar (Some types.StackRef) h = refl
reference_scalar (Some types.ThreadRef) h = refl
reference_scalar _ h = cc

refers_scalar : (c : Code) (os : List HeapObject) (o : Option TypeDef) (x : Scalar) → refers c os o x ≡ true → is_scalar o ≡ true
refers_scalar c os (Some (types.Ref t)) x h = refl
refers_scalar c os (Some (types.Iref t)) x h = refl
refers_scalar c os (Some (types.FuncRef t)) x h = refl
refers_scalar c os _ x h = cc

module _ (c : Code) (k : IsKnown c) (s : Store) where
  abbrev Short : ℕ → List Scalar → Type 0
  Short t ss = length ss ≤ length (leaf_classes c.graph t)

  one_short : (t : ℕ) (x : Scalar) (ss : List Scalar) → is_scalar (slice_get c.graph t) ≡ true → x ∷ [] ≡ ss → Short t ss
  one_short t x ss h e =
      let one = k.sizes.scalar t h in
      let long = ap (λ (xs : List Scalar). length xs) e in
      omega (arith, one, long)

  number_short : (t : ℕ) (o : Option TypeDef) (n : Numeral) (ss : List Scalar) → slice_get c.graph t ≡ o → number_scalars (width_of o) n ≡ Ok ss → Short t ss
  number_short t (Some (types.Int v)) n ss e h = by (fits_width n.number.negative n.number.magnitude v) h
    where
      by : (b : Bool) → (if b then Ok (Int v (number_bits v n.number.negative n.number.magnitude) ∷ []) else Err (At OutOfRange n.place)) ≡ Ok ss → Short t ss
      by true q =
          let same : Int v (number_bits v n.number.negative n.number.magnitude) ∷ [] ≡ ss = cc in
          one_short t (Int v (number_bits v n.number.negative n.number.magnitude)) ss (ap is_scalar e) same
      by false q = cc
  number_short t _ n ss e h = cc

  told_short : (t place : ℕ) (x : Scalar) (ss : List Scalar) → where_fits place (refers c s.objects (slice_get c.graph t) x) (x ∷ []) ≡ Ok ss → Short t ss
  told_short t place x ss h =
      let both = chosen place (refers c s.objects (slice_get c.graph t) x) (x ∷ []) ss h in
      one_short t x ss (refers_scalar c s.objects (slice_get c.graph t) x both.0) both.1

  constant_short : (t place n : ℕ) (ss : List Scalar) → t < length c.graph → where_fits place (is_class (class_of c.graph t) (slice_get c.constants n)) (slice_index_or c.values n []) ≡ Ok ss → Short t ss
  constant_short t place n ss low h =
      let both = chosen place (is_class (class_of c.graph t) (slice_get c.constants n)) (slice_index_or c.values n []) ss h in
      let long = k.constants n (class_of c.graph t) (is_that (class_of c.graph t) (slice_get c.constants n) both.0) in
      let same = ap (λ (xs : List Scalar). length xs) both.1 in
      omega (arith, long, same, class_long c.graph k.graph t low)

  named_short : (t place : ℕ) (o : Option Sort) (ss : List Scalar) → t < length c.graph → named_scalars c s.objects t place o ≡ Ok ss → Short t ss
  named_short t place (Some (sorts.Constant n)) ss low h = constant_short t place n ss low h
  named_short t place (Some (sorts.GlobalCell n)) ss low h = told_short t place (Place n 0) ss h
  named_short t place (Some (sorts.Function n)) ss low h = told_short t place (Func n) ss h
  named_short t place _ ss low h = cc

  object_short : (t place : ℕ) (o : Option Made) (ss : List Scalar) → object_scalars c s.objects t place o ≡ Ok ss → Short t ss
  object_short t place None ss h = cc
  object_short t place (Some m) ss h = told_short t place (Object m.object) ss h

  spot_short : (t place : ℕ) (spot : Result Spot (Fault LoadKind)) (ss : List Scalar) → place_scalars c s.objects t place spot ≡ Ok ss → Short t ss
  spot_short t place (Ok x) ss h = by (is_iref (slice_get c.graph t)) h
    where
      by : (b : Bool) → (if b then where_fits place (refers c s.objects (slice_get c.graph t) (Place x.object x.at)) (Place x.object x.at ∷ []) else Err (At WrongType place)) ≡ Ok ss → Short t ss
      by true q = told_short t place (Place x.object x.at) ss q
      by false q = cc
  spot_short t place (Err f) ss h = by (is_iref (slice_get c.graph t)) h
    where
      by : (b : Bool) → (if b then Err f else Err (At WrongType place)) ≡ Ok ss → Short t ss
      by true q = cc
      by false q = cc

  source_short : (t : ℕ) (p : Piece) (more : List Piece) (ss : List Scalar) → t < length c.graph → scalars_of c s t p more ≡ Ok ss → Short t ss
  source_short t (pieces.Number n) more ss low h = number_short t (slice_get c.graph t) n ss refl h
  source_short t (pieces.Null place) more ss low h =
      let both = chosen place (is_reference (slice_get c.graph t)) (Null ∷ []) ss h in
      one_short t Null ss (reference_scalar (slice_get c.graph t) both.0) both.1
  source_short t (pieces.Global n) more ss low h = named_short t n.place (found c.names n.text) ss low h
  source_short t (pieces.Object n) more ss low h = object_short t n.place (found s.made n.text) ss h
  source_short t (pieces.Reference place root) more ss low h = spot_short t place (target_spot c s.made root (next_indexes more)) ss h
  source_short t (pieces.Index x) more ss low h =
      let none : [] ≡ ss = cc in
      let long = ap (λ (xs : List Scalar). length xs) none in
      omega (arith, long)
  source_short t (pieces.List place many) more ss low h = cc

  part_short : (part : Part) (p : Piece) (more : List Piece) (ss : List Scalar) → IsThere c.graph part → part_scalars c s part p more ≡ Ok ss → length ss ≤ size_of c.graph part
  part_short (Value t) p more ss low h = source_short t p more ss low h
  part_short (Hybrid t many) p more ss low h = cc
  part_short (Elements t many) p more ss low h = cc

  wanted : (place many : ℕ) (o : Option (List Part)) (ps : List Part) → wanted_by place many o ≡ Ok ps → o ≡ Some ps
  wanted place many None ps h = cc
  wanted place many (Some qs) ps h = by (length qs == many) h
    where
      some_parts : List Part → Option (List Part)
      some_parts xs = Some xs

      by : (b : Bool) → (if b then Ok qs else Err (At WrongType place)) ≡ Ok ps → Some qs ≡ Some ps
      by true q = let same : qs ≡ ps = cc in ap some_parts same
      by false q = cc

  plain : (part : Part) (parts : List Part) (p : Piece) (ps : List Piece) (ss : List Scalar) → All_there c.graph (part ∷ parts) → ((rs : List Scalar) → judged c s parts ps ≡ Ok rs → length rs ≤ sum_by (size_of c.graph) parts) →
      (part_scalars c s part p ps >>= λ these. judged c s parts ps >>= λ more. Ok (these ++ more)) ≡ Ok ss → length ss ≤ sum_by (size_of c.graph) (part ∷ parts)
  plain part parts p ps ss a rest h =
      let one = went (part_scalars c s part p ps) (λ these. judged c s parts ps >>= λ more. Ok (these ++ more)) ss h in
      let two = went (judged c s parts ps) (λ more. Ok (one.0 ++ more)) ss one.2 in
      let same : one.0 ++ two.0 ≡ ss = (let e = two.2 in cc) in
      let here = part_short part p ps one.0 (All-head (IsThere c.graph) part parts a) one.1 in
      let behind = rest two.0 two.1 in
      let long = sym (length-append one.0 two.0) ∙ ap (λ (xs : List Scalar). length xs) same in
      omega (arith, here, behind, long, sum_by-cons (size_of c.graph) part parts)

  judged_short : (parts : List Part) (ps : List Piece) (ss : List Scalar) → All_there c.graph parts → judged c s parts ps ≡ Ok ss → length ss ≤ sum_by (size_of c.graph) parts
  judged_short parts [] ss a h =
      let none : [] ≡ ss = cc in
      let long = ap (λ (xs : List Scalar). length xs) none in
      omega (arith, long)
  judged_short parts (pieces.Index i ∷ ps) ss a h = judged_short parts ps ss a h
  judged_short (part ∷ parts) (pieces.List place many ∷ ps) ss a h =
      let g = c.graph in
      let step = went (wanted_by place many (parts_of g part)) (λ inner. judged c s (inner ++ parts) ps) ss h in
      let are : parts_of g part ≡ Some step.0 = wanted place many (parts_of g part) step.0 step.1 in
      let there : All_there g step.0 = parts_there g k.graph part step.0 (All-head (IsThere g) part parts a) are in
      let more = judged_short (step.0 ++ parts) ps ss (All-append (IsThere g) step.0 parts there (All-tail (IsThere g) part parts a)) step.2 in
      let inner = parts_sized g k.sizes part step.0 are in
      omega (arith, more, inner, sum_by-append (size_of g) step.0 parts, sum_by-cons (size_of g) part parts)
  judged_short (part ∷ parts) (pieces.Number n ∷ ps) ss a h = plain part parts (pieces.Number n) ps ss a (λ rs q. judged_short parts ps rs (All-tail (IsThere c.graph) part parts a) q) h
  judged_short (part ∷ parts) (pieces.Null n ∷ ps) ss a h = plain part parts (pieces.Null n) ps ss a (λ rs q. judged_short parts ps rs (All-tail (IsThere c.graph) part parts a) q) h
  judged_short (part ∷ parts) (pieces.Global n ∷ ps) ss a h = plain part parts (pieces.Global n) ps ss a (λ rs q. judged_short parts ps rs (All-tail (IsThere c.graph) part parts a) q) h
  judged_short (part ∷ parts) (pieces.Object n ∷ ps) ss a h = plain part parts (pieces.Object n) ps ss a (λ rs q. judged_short parts ps rs (All-tail (IsThere c.graph) part parts a) q) h
  judged_short (part ∷ parts) (pieces.Reference n root ∷ ps) ss a h = plain part parts (pieces.Reference n root) ps ss a (λ rs q. judged_short parts ps rs (All-tail (IsThere c.graph) part parts a) q) h
  judged_short [] (p ∷ ps) ss a h = cc

  -- the scalars of a source stand in the object of its target
  pub source_room : (root : Root) (is : List Index) (source : List Piece) (spot : Spot) (ss : List Scalar) → AreRoomy c s.objects s.made → IsThere c.graph spot.part → target_spot c s.made root is ≡ Ok spot →
      judged c s (spot.part ∷ []) source ≡ Ok ss → spot.at + length ss ≤ cells_of (slice_get s.objects spot.object)
  source_room root is source spot ss a there e j =
      let room = target_room c k s.objects s.made root is spot a e in
      let short = judged_short (spot.part ∷ []) source ss (All-cons (IsThere c.graph) spot.part [] there (All-nil (IsThere c.graph))) j in
      omega (arith, room, short, sum_by-cons (size_of c.graph) spot.part [])

-- ---- objects that are made

cells_more : (os : List HeapObject) (o : HeapObject) (n : ℕ) → cells_of (slice_get os n) ≤ cells_of (slice_get (os ++ o ∷ []) n)
cells_more [] o n = omega arith
cells_more (p ∷ os) o zero = omega arith
cells_more (p ∷ os) o (suc n) = cells_more os o n

newest_cells : (os : List HeapObject) (o : HeapObject) → cells_of (slice_get (os ++ o ∷ []) (length os)) ≡ length o.leaves
newest_cells [] o = refl
newest_cells (p ∷ os) o = newest_cells os o

added_all : (P : List ℕ × Made → Type 0) (es : Names Made) (n : List ℕ) (m : Made) → All P es → P (n, m) → All P (added es n m)
added_all P es n m a h = by (is_some (found es n))
  where
    by : (b : Bool) → All P (if b then es else es ++ (n, m) ∷ [])
    by true = a
    by false = All-append P es ((n, m) ∷ []) a (All-cons P (n, m) [] h (All-nil P))

pub roomy_more : (c : Code) (os ps : List HeapObject) (es fs : Names Made) (name : List ℕ) (o : HeapObject) (part : Part) → ps ≡ os ++ o ∷ [] → fs ≡ added es name (record { object = length os; part = part }) →
    size_of c.graph part ≤ length o.leaves → AreRoomy c os es → AreRoomy c ps fs
roomy_more c os ps es fs name o part objects names room a =
    let g = c.graph in
    let qs : List HeapObject = os ++ o ∷ [] in
    let P : List ℕ × Made → Type 0 = λ e. size_of g e.1.part ≤ cells_of (slice_get os e.1.object) in
    let Q : List ℕ × Made → Type 0 = λ e. size_of g e.1.part ≤ cells_of (slice_get qs e.1.object) in
    let newest = newest_cells os o in
    let here : size_of g part ≤ cells_of (slice_get qs (length os)) = omega (arith, newest, room) in
    let now : AreRoomy c qs (added es name (record { object = length os; part = part })) = record {
      globals = λ n t e. (let l = a.globals n t e in omega (arith, l, cells_more os o n));
      made = added_all Q es name (record { object = length os; part = part }) (All-weaker P Q (λ e l. omega (arith, l, cells_more os o e.1.object)) es a.made) here;
    } in
    subst (λ (xs : List HeapObject). AreRoomy c xs fs) (sym objects) (subst (λ (xs : Names Made). AreRoomy c qs xs) (sym names) now)

kept_more : (os : List HeapObject) (o : HeapObject) → KeepsCells os (os ++ o ∷ [])
kept_more [] o n l = absurd (omega (arith, l))
kept_more (p ∷ os) o zero l = refl
kept_more (p ∷ os) o (suc n) l = kept_more os o n l

pub kept_behind : (os ps : List HeapObject) (o : HeapObject) → ps ≡ os ++ o ∷ [] → KeepsCells os ps
kept_behind os ps o e = subst (λ (xs : List HeapObject). KeepsCells os xs) (sym e) (kept_more os o)

pub kept_all : (os ps : List HeapObject) → ps ≡ os → KeepsCells os ps
kept_all os ps e = λ n l. ap (λ (xs : List HeapObject). cells_of (slice_get xs n)) e

-- before the first command
pub roomy_first : (c : Code) (os : List HeapObject) → AreGlobals c os → AreRoomy c os []
roomy_first c os e =
    let g = c.graph in
    let f : ℕ → HeapObject = λ t. object_of g (leaf_classes g t) in
    record {
      globals = λ n t h.
          (let there : slice_get os n ≡ Some (f t) = ap (λ (xs : List HeapObject). slice_get xs n) e ∙ slice_get-map f c.globals n ∙ ap (option_map f) h in
          let cells = ap (λ (o : Option HeapObject). cells_of o) there in
          omega (arith, cells));
      made = All-nil (λ (x : List ℕ × Made). size_of g x.1.part ≤ cells_of (slice_get os x.1.object));
    }
