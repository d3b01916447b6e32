-- Sources are judged by what objects are, and not by what their cells begin with.
use Rattle.std.proofs.Common.{◌≡◌, ℕ, zero, suc, ◌+◌, ◌-◌, ◌≤◌, Bool, true, false, List, [], ◌∷◌, ◌++◌, length, take, Option, Some, None, Result, Ok, Err, if◌then◌else◌, slice_get, refl, sym, ap, subst, ◌∙◌, arith}
use Rattle.std.specs.Prelude.{nat_le, OnErr}
use Rattle.demands.specs.declared.fault.Fault.{Fault}
use Rattle.demands.specs.declared.fault.Fault.TheVariants.{Memory, At}
use Rattle.name_scopes.specs.Names.{Names, added, found}
use Rattle.type_definitions.specs.declared.definition.TypeDef.{TypeDef}
use Rattle.type_definitions.specs.declared.definition.TypeDef.TheVariants.{Ref, Iref, FuncRef}
use Rattle.mu_values.specs.declared.scalars.Scalar.{Scalar}
use Rattle.mu_values.specs.declared.scalars.Scalar.TheVariants.{Object, Place, Func}
use Rattle.ir_lex.specs.declared.name.Name.{Name}
use Rattle.bundle_names.specs.declared.globals.Sort.{Sort}
use Rattle.bundle_names.specs.declared.globals.Sort.TheVariants as sorts
use Rattle.check_tables.specs.TypeTests.{is_hybrid, is_no_hybrid}
use Rattle.typed_heap.specs.Objects.{HeapObject, object_of, with_filled}
use Rattle.typed_heap.specs.Heap.{HeapContents}
use Rattle.hail_load.specs.declared.fault.LoadKind.{LoadKind}
use Rattle.hail_load.specs.declared.fault.LoadKind.TheVariants.{WrongType, HeapFull}
use Rattle.hail_load.specs.declared.fills.Fill.{Fill}
use Rattle.hail_load.specs.declared.fills.Fills.{Fills}
use Rattle.hail_load.specs.declared.parts.Part.{Part}
use Rattle.hail_load.specs.declared.parts.Part.TheVariants.{Value, Hybrid, Elements}
use Rattle.hail_load.specs.declared.parts.Spot.{Spot}
use Rattle.hail_load.specs.declared.parts.Made.{Made}
use Rattle.hail_load.specs.declared.tree.Piece.{Piece}
use Rattle.hail_load.specs.declared.tree.Piece.TheVariants as pieces
use Rattle.hail_load.specs.declared.tree.Target.{Target}
use Rattle.hail_load.specs.declared.tree.Command.{Command}
use Rattle.hail_load.specs.Code.{Code}
use Rattle.hail_load.specs.Parts.{parts_of, leaves_of, size_of, target_spot, ◌>>=◌}
use Rattle.hail_load.specs.Fitting.{Store, Scalars, object_fits, place_in_fits, refers, is_iref, where_fits, named_scalars, object_scalars, place_scalars, next_indexes, scalars_of}
use Rattle.hail_load.specs.Judging.{wanted_by, part_scalars, judged}
use Rattle.hail_load.specs.Loading.{Stored, with_object, make, new_of, newhybrid_of, fill, init_of, load}
use Rattle.hail_load.specs.LoadAnswers.{Holds, Loads, loaded_from}
use Rattle.hail_load.specs.Answering.{Tells, Makes, behind, store_of}
use Rattle.hail_load.specs.Fills.{made, shown, blank, Every, Fits}
use Rattle.hail_load.proofs.Making.{all_more, made_blank, made_long, made_more}

-- ---- references

object_blank : (g : List TypeDef) (os : List HeapObject) (t n : ℕ) → object_fits g t (slice_get (blank os) n) ≡ object_fits g t (slice_get os n)
object_blank g [] t n = refl
object_blank g (o ∷ os) t zero = refl
object_blank g (o ∷ os) t (suc n) = object_blank g os t n

object_shown : (g : List TypeDef) (os : List HeapObject) (made_by : List Fill) (t n : ℕ) → object_fits g t (slice_get (made os made_by) n) ≡ object_fits g t (slice_get os n)
object_shown g os made_by t n = sym (object_blank g (made os made_by) t n) ∙ ap (λ (xs : List HeapObject). object_fits g t (slice_get xs n)) (made_blank os made_by) ∙ object_blank g os t n

place_blank : (g : List TypeDef) (os : List HeapObject) (t n at : ℕ) → place_in_fits g t (slice_get (blank os) n) at ≡ place_in_fits g t (slice_get os n) at
place_blank g [] t n at = refl
place_blank g (o ∷ os) t zero at = refl
place_blank g (o ∷ os) t (suc n) at = place_blank g os t n at

place_shown : (g : List TypeDef) (os : List HeapObject) (made_by : List Fill) (t n at : ℕ) → place_in_fits g t (slice_get (made os made_by) n) at ≡ place_in_fits g t (slice_get os n) at
place_shown g os made_by t n at = sym (place_blank g (made os made_by) t n at) ∙ ap (λ (xs : List HeapObject). place_in_fits g t (slice_get xs n) at) (made_blank os made_by) ∙ place_blank g os t n at

refers_shown : (c : Code) (os : List HeapObject) (made_by : List Fill) (d : Option TypeDef) (s : Scalar) → refers c (made os made_by) d s ≡ refers c os d s
refers_shown c os made_by (Some (Ref t)) (Object n) = object_shown c.graph os made_by t n
refers_shown c os made_by (Some (Iref t)) (Place n at) = place_shown c.graph os made_by t n at
refers_shown c os made_by (Some (FuncRef t)) (Func f) = refl
refers_shown c os made_by _ _ = refl

-- ---- sources

named_shown : (c : Code) (os : List HeapObject) (made_by : List Fill) (t place : ℕ) (o : Option Sort) → named_scalars c (made os made_by) t place o ≡ named_scalars c os t place o
named_shown c os made_by t place (Some (sorts.GlobalCell n)) = ap (λ b. where_fits place b (Place n 0 ∷ [])) (refers_shown c os made_by (slice_get c.graph t) (Place n 0))
named_shown c os made_by t place (Some (sorts.Function n)) = ap (λ b. where_fits place b (Func n ∷ [])) (refers_shown c os made_by (slice_get c.graph t) (Func n))
named_shown c os made_by t place _ = refl

made_shown : (c : Code) (os : List HeapObject) (made_by : List Fill) (t place : ℕ) (o : Option Made) → object_scalars c (made os made_by) t place o ≡ object_scalars c os t place o
made_shown c os made_by t place None = refl
made_shown c os made_by t place (Some m) = ap (λ b. where_fits place b (Object m.object ∷ [])) (refers_shown c os made_by (slice_get c.graph t) (Object m.object))

wanted_shown : (b : Bool) (f g : Scalars) (place : ℕ) → f ≡ g → (if b then f else Err (At WrongType place)) ≡ (if b then g else Err (At WrongType place))
wanted_shown true f g place e = e
wanted_shown false f g place e = refl

target_shown : (c : Code) (os : List HeapObject) (made_by : List Fill) (t place : ℕ) (r : Result Spot (Fault LoadKind)) → place_scalars c (made os made_by) t place r ≡ place_scalars c os t place r
target_shown c os made_by t place (Ok s) =
    let d = slice_get c.graph t in
    wanted_shown (is_iref d) (where_fits place (refers c (made os made_by) d (Place s.object s.at)) (Place s.object s.at ∷ [])) (where_fits place (refers c os d (Place s.object s.at)) (Place s.object s.at ∷ [])) place
    (ap (λ b. where_fits place b (Place s.object s.at ∷ [])) (refers_shown c os made_by d (Place s.object s.at)))
target_shown c os made_by t place (Err e) = refl

scalars_shown : (c : Code) (h : HeapContents) (l : Fills) (es : Names Made) (t : ℕ) (p : Piece) (more : List Piece) → scalars_of c (store_of (shown h l) es) t p more ≡ scalars_of c (store_of h es) t p more
scalars_shown c h l es t (pieces.Global n) more = named_shown c h.objects l.fills.items t n.place (found c.names n.text)
scalars_shown c h l es t (pieces.Object n) more = made_shown c h.objects l.fills.items t n.place (found es n.text)
scalars_shown c h l es t (pieces.Reference place root) more = target_shown c h.objects l.fills.items t place (target_spot c es root (next_indexes more))
scalars_shown c h l es t _ more = refl

part_shown : (c : Code) (h : HeapContents) (l : Fills) (es : Names Made) (part : Part) (p : Piece) (more : List Piece) → part_scalars c (store_of (shown h l) es) part p more ≡ part_scalars c (store_of h es) part p more
part_shown c h l es (Value t) p more = scalars_shown c h l es t p more
part_shown c h l es (Hybrid t many) p more = refl
part_shown c h l es (Elements t many) p more = refl

both_shown : (xs ys later more : Scalars) → xs ≡ ys → later ≡ more → (xs >>= λ these. later >>= λ rest. Ok (these ++ rest)) ≡ (ys >>= λ these. more >>= λ rest. Ok (these ++ rest))
both_shown xs ys later more e f = ap (λ (r : Scalars). r >>= λ these. later >>= λ rest. Ok (these ++ rest)) e ∙ ap (λ (r : Scalars). ys >>= λ these. r >>= λ rest. Ok (these ++ rest)) f

inner_shown : (r : Result (List Part) (Fault LoadKind)) (f g : List Part → Scalars) → ((ps : List Part) → f ps ≡ g ps) → (r >>= f) ≡ (r >>= g)
inner_shown (Ok ps) f g e = e ps
inner_shown (Err x) f g e = refl

pub judged_shown : (c : Code) (h : HeapContents) (l : Fills) (es : Names Made) (parts : List Part) (ps : List Piece) → judged c (store_of (shown h l) es) parts ps ≡ judged c (store_of h es) parts ps
judged_shown c h l es parts [] = refl
judged_shown c h l es parts (pieces.Index i ∷ ps) = judged_shown c h l es parts ps
judged_shown c h l es [] (p ∷ ps) = refl
judged_shown c h l es (part ∷ parts) (pieces.List place many ∷ ps) =
    inner_shown (wanted_by place many (parts_of c.graph part)) (λ inner. judged c (store_of (shown h l) es) (inner ++ parts) ps) (λ inner. judged c (store_of h es) (inner ++ parts) ps) (λ inner. judged_shown c h l es (inner ++ parts) ps)
judged_shown c h l es (part ∷ parts) (p ∷ ps) =
    both_shown (part_scalars c (store_of (shown h l) es) part p ps) (part_scalars c (store_of h es) part p ps) (judged c (store_of (shown h l) es) parts ps) (judged c (store_of h es) parts ps) (part_shown c h l es part p ps) (judged_shown c h l es parts ps)

-- ---- objects that are made

add_shown : (c : Code) (old new : HeapContents) (l : Fills) (es fs : Names Made) (n : Name) (part : Part) → Every (Fits old.objects) l.fills.items → with_object c (store_of old es) n part ≡ store_of new fs →
    with_object c (store_of (shown old l) es) n part ≡ store_of (shown new l) fs
add_shown c old new l es fs n part fits e =
    let o = object_of c.graph (leaves_of c.graph part) in
    let os = made old.objects l.fills.items in
    let objects : os ++ o ∷ [] ≡ made new.objects l.fills.items =
    sym (made_more old.objects l.fills.items o fits) ∙ ap (λ (s : Store). made s.objects l.fills.items) e in
    let left : old.left - size_of c.graph part ≡ new.left = ap (λ (s : Store). s.left) e in
    let names : added es n.text (record { object = length os; part = part }) ≡ fs =
    ap (λ (k : ℕ). added es n.text (record { object = k; part = part })) (made_long old.objects l.fills.items) ∙ ap (λ (s : Store). s.made) e in
    ap (λ (xs : List HeapObject). let s : Store = record { objects = xs; left = old.left - size_of c.graph part; made = added es n.text (record { object = length os; part = part }) } in s) objects
    ∙ ap (λ (k : ℕ). let s : Store = record { objects = made new.objects l.fills.items; left = k; made = added es n.text (record { object = length os; part = part }) } in s) left
    ∙ ap (λ (xs : Names Made). let s : Store = record { objects = made new.objects l.fills.items; left = new.left; made = xs } in s) names

make_shown : (c : Code) (old new : HeapContents) (l : Fills) (es fs : Names Made) (place : ℕ) (n : Name) (part : Part) (r : Result (Unit {0}) (Fault LoadKind)) → Every (Fits old.objects) l.fills.items →
    Makes (make c (store_of old es) place n part) (store_of new fs) r → Makes (make c (store_of (shown old l) es) place n part) (store_of (shown new l) fs) r
make_shown c old new l es fs place n part r fits m = by (nat_le (size_of c.graph part) old.left) r m
  where
    by : (b : Bool) (r : Result (Unit {0}) (Fault LoadKind)) → Makes (elim b [ true ↦ Ok (with_object c (store_of old es) n part) | false ↦ Err (At HeapFull place) ]) (store_of new fs) r →
        Makes (elim b [ true ↦ Ok (with_object c (store_of (shown old l) es) n part) | false ↦ Err (At HeapFull place) ]) (store_of (shown new l) fs) r
    by true (Ok x) k = let same : with_object c (store_of old es) n part ≡ store_of new fs = cc in ap (λ (s : Store). let t : Stored = Ok s in t) (add_shown c old new l es fs n part fits same)
    by true (Err Memory) k = tt
    by true (Err (At kind where_at)) k = cc
    by false (Ok x) k = cc
    by false (Err Memory) k = tt
    by false (Err (At kind where_at)) k = k

refused_shown : (fault : Fault LoadKind) (s t : Store) (r : Result (Unit {0}) (Fault LoadKind)) → Makes (let x : Stored = Err fault in x) s r → Makes (let x : Stored = Err fault in x) t r
refused_shown fault s t (Ok x) m = cc
refused_shown fault s t (Err Memory) m = tt
refused_shown fault s t (Err (At kind place)) m = m

-- `.new`
pub new_shown : (c : Code) (old new : HeapContents) (l : Fills) (es fs : Names Made) (place : ℕ) (n of_type : Name) (o : Option ℕ) (r : Result (Unit {0}) (Fault LoadKind)) → Every (Fits old.objects) l.fills.items →
    Makes (new_of c (store_of old es) place n of_type o) (store_of new fs) r → Makes (new_of c (store_of (shown old l) es) place n of_type o) (store_of (shown new l) fs) r
new_shown c old new l es fs place n of_type None r fits m = refused_shown (At WrongType of_type.place) (store_of new fs) (store_of (shown new l) fs) r m
new_shown c old new l es fs place n of_type (Some t) r fits m = by (is_no_hybrid (slice_get c.graph t)) m
  where
    by : (b : Bool) → Makes (if b then make c (store_of old es) place n (Value t) else Err (At WrongType of_type.place)) (store_of new fs) r →
        Makes (if b then make c (store_of (shown old l) es) place n (Value t) else Err (At WrongType of_type.place)) (store_of (shown new l) fs) r
    by true k = make_shown c old new l es fs place n (Value t) r fits k
    by false k = refused_shown (At WrongType of_type.place) (store_of new fs) (store_of (shown new l) fs) r k

-- `.newhybrid`
pub newhybrid_shown : (c : Code) (old new : HeapContents) (l : Fills) (es fs : Names Made) (place : ℕ) (n of_type : Name) (many : ℕ) (o : Option ℕ) (r : Result (Unit {0}) (Fault LoadKind)) → Every (Fits old.objects) l.fills.items →
    Makes (newhybrid_of c (store_of old es) place n of_type many o) (store_of new fs) r → Makes (newhybrid_of c (store_of (shown old l) es) place n of_type many o) (store_of (shown new l) fs) r
newhybrid_shown c old new l es fs place n of_type many None r fits m = refused_shown (At WrongType of_type.place) (store_of new fs) (store_of (shown new l) fs) r m
newhybrid_shown c old new l es fs place n of_type many (Some t) r fits m = by (is_hybrid (slice_get c.graph t)) m
  where
    by : (b : Bool) → Makes (if b then make c (store_of old es) place n (Hybrid t many) else Err (At WrongType of_type.place)) (store_of new fs) r →
        Makes (if b then make c (store_of (shown old l) es) place n (Hybrid t many) else Err (At WrongType of_type.place)) (store_of (shown new l) fs) r
    by true k = make_shown c old new l es fs place n (Hybrid t many) r fits k
    by false k = refused_shown (At WrongType of_type.place) (store_of new fs) (store_of (shown new l) fs) r k

-- where fills fit, once an object is made
fits_made : (c : Code) (old new : HeapContents) (gs : List Fill) (es fs : Names Made) (place : ℕ) (n : Name) (part : Part) (r : Result (Unit {0}) (Fault LoadKind)) → Every (Fits old.objects) gs → OnErr r (new ≡ old) →
    Makes (make c (store_of old es) place n part) (store_of new fs) r → Every (Fits new.objects) gs
fits_made c old new gs es fs place n part (Err e) h same m = subst (λ (k : HeapContents). Every (Fits k.objects) gs) (sym same) h
fits_made c old new gs es fs place n part (Ok x) h same m = by (nat_le (size_of c.graph part) old.left) m
  where
    by : (b : Bool) → Makes (elim b [ true ↦ Ok (with_object c (store_of old es) n part) | false ↦ Err (At HeapFull place) ]) (store_of new fs) (Ok x) → Every (Fits new.objects) gs
    by true k =
        let made_so : with_object c (store_of old es) n part ≡ store_of new fs = cc in
        let o = object_of c.graph (leaves_of c.graph part) in
        subst (λ (os : List HeapObject). Every (Fits os) gs) (ap (λ (s : Store). s.objects) made_so) (all_more old.objects o gs h)
    by false k = absurd cc

none_made : (c : Code) (old new : HeapContents) (gs : List Fill) (fault : Fault LoadKind) (s : Store) (r : Result (Unit {0}) (Fault LoadKind)) → Every (Fits old.objects) gs → OnErr r (new ≡ old) → Makes (let x : Stored = Err fault in x) s r →
    Every (Fits new.objects) gs
none_made c old new gs fault s (Err e) h same m = subst (λ (k : HeapContents). Every (Fits k.objects) gs) (sym same) h
none_made c old new gs fault s (Ok x) h same m = absurd cc

pub fits_new : (c : Code) (old new : HeapContents) (gs : List Fill) (es fs : Names Made) (place : ℕ) (n of_type : Name) (o : Option ℕ) (r : Result (Unit {0}) (Fault LoadKind)) → Every (Fits old.objects) gs → OnErr r (new ≡ old) →
    Makes (new_of c (store_of old es) place n of_type o) (store_of new fs) r → Every (Fits new.objects) gs
fits_new c old new gs es fs place n of_type None r h same m = none_made c old new gs (At WrongType of_type.place) (store_of new fs) r h same m
fits_new c old new gs es fs place n of_type (Some t) r h same m = by (is_no_hybrid (slice_get c.graph t)) m
  where
    by : (b : Bool) → Makes (if b then make c (store_of old es) place n (Value t) else Err (At WrongType of_type.place)) (store_of new fs) r → Every (Fits new.objects) gs
    by true k = fits_made c old new gs es fs place n (Value t) r h same k
    by false k = none_made c old new gs (At WrongType of_type.place) (store_of new fs) r h same k

pub fits_newhybrid : (c : Code) (old new : HeapContents) (gs : List Fill) (es fs : Names Made) (place : ℕ) (n of_type : Name) (many : ℕ) (o : Option ℕ) (r : Result (Unit {0}) (Fault LoadKind)) → Every (Fits old.objects) gs → OnErr r (new ≡ old) →
    Makes (newhybrid_of c (store_of old es) place n of_type many o) (store_of new fs) r → Every (Fits new.objects) gs
fits_newhybrid c old new gs es fs place n of_type many None r h same m = none_made c old new gs (At WrongType of_type.place) (store_of new fs) r h same m
fits_newhybrid c old new gs es fs place n of_type many (Some t) r h same m = by (is_hybrid (slice_get c.graph t)) m
  where
    by : (b : Bool) → Makes (if b then make c (store_of old es) place n (Hybrid t many) else Err (At WrongType of_type.place)) (store_of new fs) r → Every (Fits new.objects) gs
    by true k = fits_made c old new gs es fs place n (Hybrid t many) r h same k
    by false k = none_made c old new gs (At WrongType of_type.place) (store_of new fs) r h same k

-- ---- `.init`

-- a source that is refused
pub source_refused : (c : Code) (h new : HeapContents) (l m : Fills) (es fs : Names Made) (target : Target) (source : List Piece) (spot : Spot) (ss : List Scalar) (fault : Fault LoadKind) → target_spot c es target.root target.indexes ≡ Ok spot →
    Makes (behind [] (judged c (store_of h es) (spot.part ∷ []) source)) ss (Err fault) → Makes (init_of c (store_of (shown h l) es) target source) (store_of (shown new m) fs) (Err fault)
source_refused c h new l m es fs target source spot ss Memory e j = tt
source_refused c h new l m es fs target source spot ss (At kind place) e j =
    let refused : judged c (store_of (shown h l) es) (spot.part ∷ []) source ≡ Err (At kind place) = judged_shown c h l es (spot.part ∷ []) source ∙ behind_refused (judged c (store_of h es) (spot.part ∷ []) source) (At kind place) j in
    rw (e, refused) refl
  where
    behind_refused : (r : Scalars) (fault : Fault LoadKind) → behind [] r ≡ Err fault → r ≡ Err fault
    behind_refused (Ok xs) fault k = cc
    behind_refused (Err x) fault k = k

-- one whose cells are set
pub source_done : (c : Code) (h new : HeapContents) (l m : Fills) (es : Names Made) (target : Target) (source : List Piece) (spot : Spot) (ss : List Scalar) → target_spot c es target.root target.indexes ≡ Ok spot →
    judged c (store_of h es) (spot.part ∷ []) source ≡ Ok ss → made new.objects m.fills.items ≡ with_filled (made h.objects l.fills.items) spot.object spot.at ss (slice_get (made h.objects l.fills.items) spot.object) →
    new.left ≡ h.left → init_of c (store_of (shown h l) es) target source ≡ Ok (store_of (shown new m) es)
source_done c h new l m es target source spot ss e j objects left =
    let told : judged c (store_of (shown h l) es) (spot.part ∷ []) source ≡ Ok ss = judged_shown c h l es (spot.part ∷ []) source ∙ j in
    let stored : fill (store_of (shown h l) es) spot ss ≡ store_of (shown new m) es =
    ap (λ (xs : List HeapObject). let s : Store = record { objects = xs; left = h.left; made = es } in s) (sym objects)
    ∙ ap (λ (k : ℕ). let s : Store = record { objects = made new.objects m.fills.items; left = k; made = es } in s) (sym left) in
    rw (e, told) (ap (λ (s : Store). let r : Stored = Ok s in r) stored)

pub behind_none : (r : Scalars) (ss : List Scalar) → behind [] r ≡ Ok ss → r ≡ Ok ss
behind_none (Ok xs) ss e = e
behind_none (Err x) ss e = cc

-- ---- the heap with nothing filled, and the one that is settled

pub loads_settled : (c : Code) (commands : List Command) (old was now new : HeapContents) (r : Result (Unit {0}) (Fault LoadKind)) → was.objects ≡ old.objects → was.left ≡ old.left → new.objects ≡ now.objects → new.left ≡ now.left →
    Loads c commands was now r → Loads c commands old new r
loads_settled c commands old was now new r objects left so many l = after r (before_it r l)
  where
    begun : record { objects = was.objects; left = was.left; made = [] } ≡ (let s : Store = record { objects = old.objects; left = old.left; made = [] } in s)
    begun =
        ap (λ (xs : List HeapObject). let s : Store = record { objects = xs; left = was.left; made = [] } in s) objects
        ∙ ap (λ (k : ℕ). let s : Store = record { objects = old.objects; left = k; made = [] } in s) left

    held : (s : Store) → Holds s now → Holds s new
    held s h = (so ∙ h.0, many ∙ h.1)

    before_it : (r : Result (Unit {0}) (Fault LoadKind)) → Loads c commands was now r → Loads c commands old now r
    before_it (Ok x) k = subst (λ (s : Store). ((load c s commands).fault ≡ None) × Holds (load c s commands).store now) begun k
    before_it (Err (At kind place)) k = subst (λ (s : Store). ((load c s commands).fault ≡ Some (At kind place)) × Holds (load c s commands).store now) begun k
    before_it (Err Memory) k = subst (λ (s : Store). (n : ℕ) × ((load c s (take n commands)).fault ≡ None) × Holds (load c s (take n commands)).store now) begun k

    after : (r : Result (Unit {0}) (Fault LoadKind)) → Loads c commands old now r → Loads c commands old new r
    after (Ok x) k = (k.0, held (loaded_from c old commands).store k.1)
    after (Err (At kind place)) k = (k.0, held (loaded_from c old commands).store k.1)
    after (Err Memory) k = (k.0, k.1, held (loaded_from c old (take k.0 commands)).store k.2)
