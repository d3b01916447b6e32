-- The parts of a part have its leaves, and each stands at its offset.
use Rattle.std.proofs.Common.{◌≡◌, ℕ, zero, suc, ◌+◌, ◌<◌, List, [], ◌∷◌, ◌++◌, length, map, take, Option, Some, None, Result, Ok, Err, slice_get, refl, sym, ap, subst, ◌∙◌, append_assoc}
use Rattle.std.specs.Prelude.{sum_by}
use Rattle.std.specs.List.{All, flat_map}
use Rattle.std.proofs.lemmas.List.{length-append, append-nil}
use Rattle.std.proofs.lemmas.List.Concat.{flat_map-cons}
use Rattle.std.proofs.lemmas.List.Sums.{sum_by-cons}
use Rattle.std.proofs.lemmas.List.Elements.{All-nil, All-cons, All-head, All-tail, All-append, All-map}
use Rattle.std.proofs.lemmas.Grind.{flat_map-append}
use Rattle.demands.specs.declared.fault.Fault.{Fault}
use Rattle.type_definitions.specs.declared.definition.TypeDef.{TypeDef}
use Rattle.type_definitions.specs.declared.definition.TypeDef.TheVariants as types
use Rattle.type_definitions.specs.Definition.{arguments}
use Rattle.type_definitions.specs.Same.{IsGraph}
use Rattle.type_definitions.specs.Leaves.{times}
use Rattle.type_definitions.specs.Lemmas.Depth.{args_within}
use Rattle.typed_heap.specs.Objects.{HeapObject, leaf_classes, run_of, run_classes}
use Rattle.typed_heap.specs.Heap.{hybrid_classes}
use Rattle.typed_heap.specs.Lemmas.Runs.{times_length}
use Rattle.bundle_facts.specs.Facts.{LeavesAreOfParts}
use Rattle.check_tables.specs.TypeTests.{repeated_of}
use Rattle.hail_load.specs.declared.fault.LoadKind.{LoadKind}
use Rattle.hail_load.specs.declared.parts.Part.{Part}
use Rattle.hail_load.specs.declared.parts.Part.TheVariants.{Value, Hybrid, Elements}
use Rattle.hail_load.specs.declared.parts.Spot.{Spot}
use Rattle.hail_load.specs.declared.tree.Index.{Index}
use Rattle.hail_load.specs.Answering.{IsThere}
use Rattle.hail_load.specs.Parts.{value_parts, hybrid_parts, parts_of, leaves_of, size_of, part_with, index_into, indexed, ◌>>=◌}
use Rattle.hail_load.specs.Lemmas.Steps.{All_there, hybrid_size}

-- ---- answers in order

pub went : {A B : Type 0} (r : Result A (Fault LoadKind)) (f : A → Result B (Fault LoadKind)) (b : B) → (r >>= f) ≡ Ok b → (a : A) × (r ≡ Ok a) × (f a ≡ Ok b)
went (Ok a) f b h = (a, refl, h)
went (Err e) f b h = cc

-- ---- sizes

abbrev pub leaves_in : List TypeDef → List Part → List ℕ
leaves_in g ps = flat_map (leaves_of g) ps

pub sized : (g : List TypeDef) (p : Part) → length (leaves_of g p) ≡ size_of g p
sized g (Value t) = refl
sized g (Hybrid t many) = hybrid_size g t many
sized g (Elements t many) = times_length many (leaf_classes g t)

pub all_sized : (g : List TypeDef) (ps : List Part) → length (leaves_in g ps) ≡ sum_by (size_of g) ps
all_sized g [] = refl
all_sized g (p ∷ ps) =
    ap length (flat_map-cons (leaves_of g) p ps) ∙ length-append (leaves_of g p) (leaves_in g ps)
    ∙ ap (λ (n : ℕ). n + length (leaves_in g ps)) (sized g p) ∙ ap (λ (n : ℕ). size_of g p + n) (all_sized g ps) ∙ sym (sum_by-cons (size_of g) p ps)

-- ---- the leaves of the parts are those of the part

fields_leaves : (g : List TypeDef) (fields : List ℕ) → leaves_in g (map Value fields) ≡ flat_map (leaf_classes g) fields
fields_leaves g [] = refl
fields_leaves g (t ∷ ts) =
    flat_map-cons (leaves_of g) (Value t) (map Value ts) ∙ ap (λ (cs : List ℕ). leaf_classes g t ++ cs) (fields_leaves g ts) ∙ sym (flat_map-cons (leaf_classes g) t ts)

times_leaves : (g : List TypeDef) (many t : ℕ) → leaves_in g (times many (Value t ∷ [])) ≡ times many (leaf_classes g t)
times_leaves g zero t = refl
times_leaves g (suc many) t = flat_map-cons (leaves_of g) (Value t) (times many (Value t ∷ [])) ∙ ap (λ (cs : List ℕ). leaf_classes g t ++ cs) (times_leaves g many t)

hybrid_leaves : (g : List TypeDef) (fixed : List ℕ) (element many : ℕ) → leaves_in g (map Value fixed ++ Elements element many ∷ []) ≡ flat_map (leaf_classes g) fixed ++ times many (leaf_classes g element)
hybrid_leaves g fixed element many =
    flat_map-append (leaves_of g) (map Value fixed) (Elements element many ∷ [])
    ∙ ap (λ (cs : List ℕ). cs ++ leaves_in g (Elements element many ∷ [])) (fields_leaves g fixed)
    ∙ ap (λ (cs : List ℕ). flat_map (leaf_classes g) fixed ++ cs) (flat_map-cons (leaves_of g) (Elements element many) [] ∙ append-nil (times many (leaf_classes g element)))

value_leaves : (g : List TypeDef) → LeavesAreOfParts g → (t : ℕ) (o : Option TypeDef) (ps : List Part) → slice_get g t ≡ o → value_parts o ≡ Some ps → leaf_classes g t ≡ leaves_in g ps
value_leaves g k t (Some (types.Struct fields)) ps e h = let same : map Value fields ≡ ps = cc in k.struct t fields e ∙ sym (fields_leaves g fields) ∙ ap (leaves_in g) same
value_leaves g k t (Some (types.Array element size)) ps e h =
    let same : times size (Value element ∷ []) ≡ ps = cc in k.array t element size e ∙ sym (times_leaves g size element) ∙ ap (leaves_in g) same
value_leaves g k t _ ps e h = cc

hybrid_all : (g : List TypeDef) → LeavesAreOfParts g → (t many : ℕ) (o : Option TypeDef) (ps : List Part) → slice_get g t ≡ o → hybrid_parts o many ≡ Some ps → hybrid_classes g t many ≡ leaves_in g ps
hybrid_all g k t many (Some (types.Hybrid fixed element)) ps e h =
    let same : map Value fixed ++ Elements element many ∷ [] ≡ ps = cc in
    let run : run_classes g t ≡ leaf_classes g element = ap (λ (o : Option TypeDef). run_of g (repeated_of o)) e in
    ap (λ (cs : List ℕ). cs ++ times many (run_classes g t)) (k.hybrid t element fixed e)
    ∙ ap (λ (cs : List ℕ). flat_map (leaf_classes g) fixed ++ times many cs) run
    ∙ sym (hybrid_leaves g fixed element many) ∙ ap (leaves_in g) same
hybrid_all g k t many _ ps e h = cc

pub parts_leaves : (g : List TypeDef) → LeavesAreOfParts g → (p : Part) (ps : List Part) → parts_of g p ≡ Some ps → leaves_of g p ≡ leaves_in g ps
parts_leaves g k (Value t) ps h = value_leaves g k t (slice_get g t) ps refl h
parts_leaves g k (Hybrid t many) ps h = hybrid_all g k t many (slice_get g t) ps refl h
parts_leaves g k (Elements t many) ps h = let same : times many (Value t ∷ []) ≡ ps = cc in sym (times_leaves g many t) ∙ ap (leaves_in g) same

-- ---- they are there

times_there : (g : List TypeDef) (many t : ℕ) → t < length g → All_there g (times many (Value t ∷ []))
times_there g zero t l = All-nil (IsThere g)
times_there g (suc many) t l = All-cons (IsThere g) (Value t) (times many (Value t ∷ [])) l (times_there g many t l)

front : (g : List TypeDef) (xs : List ℕ) (x : ℕ) → All (λ y. y < length g) (xs ++ x ∷ []) → All (λ y. y < length g) xs × (x < length g)
front g [] x a = (All-nil (λ y. y < length g), All-head (λ y. y < length g) x [] a)
front g (y ∷ xs) x a =
    let P : ℕ → Type 0 = λ z. z < length g in
    let more = front g xs x (All-tail P y (xs ++ x ∷ []) a) in
    (All-cons P y xs (All-head P y (xs ++ x ∷ []) a) more.0, more.1)

value_there : (g : List TypeDef) (o : Option TypeDef) (ps : List Part) → ((d : TypeDef) → o ≡ Some d → All (λ y. y < length g) (arguments d)) → value_parts o ≡ Some ps → All_there g ps
value_there g (Some (types.Struct fields)) ps a e = let same : map Value fields ≡ ps = cc in subst (All_there g) same (All-map (IsThere g) Value fields (a (types.Struct fields) refl))
value_there g (Some (types.Array element size)) ps a e =
    let same : times size (Value element ∷ []) ≡ ps = cc in
    subst (All_there g) same (times_there g size element (All-head (λ y. y < length g) element [] (a (types.Array element size) refl)))
value_there g _ ps a e = cc

hybrid_there : (g : List TypeDef) (o : Option TypeDef) (many : ℕ) (ps : List Part) → ((d : TypeDef) → o ≡ Some d → All (λ y. y < length g) (arguments d)) → hybrid_parts o many ≡ Some ps → All_there g ps
hybrid_there g (Some (types.Hybrid fixed element)) many ps a e =
    let same : map Value fixed ++ Elements element many ∷ [] ≡ ps = cc in
    let both = front g fixed element (a (types.Hybrid fixed element) refl) in
    subst (All_there g) same
    (All-append (IsThere g) (map Value fixed) (Elements element many ∷ []) (All-map (IsThere g) Value fixed both.0) (All-cons (IsThere g) (Elements element many) [] both.1 (All-nil (IsThere g))))
hybrid_there g _ many ps a e = cc

pub parts_there : (g : List TypeDef) → IsGraph g → (p : Part) (ps : List Part) → IsThere g p → parts_of g p ≡ Some ps → All_there g ps
parts_there g i (Value t) ps l e = value_there g (slice_get g t) ps (λ d h. args_within g i t d h) e
parts_there g i (Hybrid t many) ps l e = hybrid_there g (slice_get g t) many ps (λ d h. args_within g i t d h) e
parts_there g i (Elements t many) ps l e = let same : times many (Value t ∷ []) ≡ ps = cc in subst (All_there g) same (times_there g many t l)

-- ---- one of them

-- the leaves before part n, its own and those behind it
pub record Split (g : List TypeDef) (ps : List Part) (n : ℕ) (p : Part) : Type 0 where
  pub behind : List ℕ
  pub all : leaves_in g ps ≡ leaves_in g (take n ps) ++ (leaves_of g p ++ behind)
  pub there : IsThere g p

pub split : (g : List TypeDef) (ps : List Part) (n : ℕ) (p : Part) → All_there g ps → slice_get ps n ≡ Some p → Split g ps n p
split g [] n p a e = cc
split g (q ∷ ps) zero p a e =
    let same : q ≡ p = cc in
    record {
      behind = leaves_in g ps;
      all = flat_map-cons (leaves_of g) q ps ∙ ap (λ (x : Part). leaves_of g x ++ leaves_in g ps) same;
      there = subst (IsThere g) same (All-head (IsThere g) q ps a);
    }
split g (q ∷ ps) (suc n) p a e =
    let more = split g ps n p (All-tail (IsThere g) q ps a) e in
    record {
      behind = more.behind;
      all = flat_map-cons (leaves_of g) q ps ∙ ap (λ (cs : List ℕ). leaves_of g q ++ cs) more.all ∙ sym (append_assoc (leaves_of g q) (leaves_in g (take n ps)) (leaves_of g p ++ more.behind))
          ∙ ap (λ (cs : List ℕ). cs ++ (leaves_of g p ++ more.behind)) (sym (flat_map-cons (leaves_of g) q (take n ps)));
      there = more.there;
    }

-- ---- places

-- the leaves of a part stand in an object at an offset
pub record Stands (g : List TypeDef) (os : List HeapObject) (s : Spot) : Type 0 where
  pub object : HeapObject
  pub is : slice_get os s.object ≡ Some object
  pub before : List ℕ
  pub behind : List ℕ
  pub leaves : object.leaves ≡ before ++ (leaves_of g s.part ++ behind)
  pub offset : length before ≡ s.at
  pub there : IsThere g s.part

part_stands : (g : List TypeDef) (os : List HeapObject) (s next : Spot) (ps : List Part) (i : Index) (o : Option Part) → Stands g os s → leaves_of g s.part ≡ leaves_in g ps → All_there g ps →
    slice_get ps i.number.number.magnitude ≡ o → part_with g s ps i o ≡ Ok next → Stands g os next
part_stands g os s next ps i None h e a at k = cc
part_stands g os s next ps i (Some p) h e a at k =
    let n : ℕ = i.number.number.magnitude in
    let one = split g ps n p a at in
    let same : record { object = s.object; at = s.at + sum_by (size_of g) (take n ps); part = p } ≡ next = cc in
    let all : h.object.leaves ≡ (h.before ++ leaves_in g (take n ps)) ++ (leaves_of g p ++ (one.behind ++ h.behind)) =
    h.leaves
    ∙ ap (λ (cs : List ℕ). h.before ++ (cs ++ h.behind)) (e ∙ one.all)
    ∙ ap (λ (cs : List ℕ). h.before ++ cs)
    (append_assoc (leaves_in g (take n ps)) (leaves_of g p ++ one.behind) h.behind ∙ ap (λ (cs : List ℕ). leaves_in g (take n ps) ++ cs) (append_assoc (leaves_of g p) one.behind h.behind))
    ∙ sym (append_assoc h.before (leaves_in g (take n ps)) (leaves_of g p ++ (one.behind ++ h.behind))) in
    subst (Stands g os) same
    (record {
      object = h.object;
      is = h.is;
      before = h.before ++ leaves_in g (take n ps);
      behind = one.behind ++ h.behind;
      leaves = all;
      offset = length-append h.before (leaves_in g (take n ps)) ∙ ap (λ (m : ℕ). m + length (leaves_in g (take n ps))) h.offset ∙ ap (λ (m : ℕ). s.at + m) (all_sized g (take n ps));
      there = one.there;
    })

index_stands : (g : List TypeDef) → IsGraph g → LeavesAreOfParts g → (os : List HeapObject) (s next : Spot) (i : Index) (o : Option (List Part)) → Stands g os s → parts_of g s.part ≡ o →
    index_into g s i o ≡ Ok next → Stands g os next
index_stands g graph k os s next i None h e f = cc
index_stands g graph k os s next i (Some ps) h e f =
    part_stands g os s next ps i (slice_get ps i.number.number.magnitude) h (parts_leaves g k s.part ps e) (parts_there g graph s.part ps h.there e) refl f

-- what indexes lead to stands too
pub indexed_stands : (g : List TypeDef) → IsGraph g → LeavesAreOfParts g → (os : List HeapObject) (s last : Spot) (is : List Index) → Stands g os s → indexed g s is ≡ Ok last → Stands g os last
indexed_stands g graph k os s last [] h e = let same : s ≡ last = cc in subst (Stands g os) same h
indexed_stands g graph k os s last (i ∷ is) h e =
    let step = went (index_into g s i (parts_of g s.part)) (λ next. indexed g next is) last e in
    indexed_stands g graph k os step.0 last is (index_stands g graph k os s step.0 i (parts_of g s.part) h refl step.1) step.2
