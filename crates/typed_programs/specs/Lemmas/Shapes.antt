-- Types of one class: what fits them, and the parts that their definitions name.
use Rattle.std.proofs.Common.{◌≡◌, ◌<◌, ◌||◌, ◌&&◌, ◌==◌, ◌%◌, ◌/◌, nat_lt, ℕ, zero, suc, Bool, true, List, [], ◌∷◌, ◌++◌, Option, Some, None, map, length, drop, slice_get, refl, sym, ◌∙◌, ap, subst, append-nil, arith}
use Rattle.std.proofs.lemmas.Bool.{and_from}
use Rattle.std.proofs.lemmas.Bool.Decides.{nat_tests}
use Rattle.std.proofs.lemmas.List.Elements.{All-get_or}
use Rattle.std.proofs.lemmas.Option.{slice_get_within, get_or_from_slice_get}
use Rattle.std.proofs.lemmas.Slice.Eq.{bytes_eq-Decides}
use Rattle.std.proofs.Math.Nat.{mul-mod_left}
use Rattle.std.proofs.Math.Seq.{drop-append_seam}
use Rattle.std.specs.List.{All}
use Rattle.ir_tree.specs.declared.items.Item.{Item}
use Rattle.type_definitions.specs.declared.definition.TypeDef.{TypeDef}
use Rattle.type_definitions.specs.declared.definition.TypeDef.TheVariants as types
use Rattle.type_definitions.specs.Same.{IsGraph}
use Rattle.type_definitions.specs.Class.{class_of}
use Rattle.type_definitions.specs.Leaves.{times}
use Rattle.mu_values.specs.declared.scalars.Scalar.{Scalar}
use Rattle.mu_values.specs.declared.scalars.Scalar.TheVariants.{Null, Place}
use Rattle.check_tables.specs.Types.{class_at, definition_at}
use Rattle.check_tables.specs.TypeTests.{fields_of, fixed_fields_of, element_of, repeated_of}
use Rattle.checked_code.specs.Checking.{bundle_tables}
use Rattle.bundle_laws.specs.Typed.{nth_of, nth_field, nth_fixed_field}
use Rattle.typed_heap.specs.Objects.{HeapObject, leaf_classes, run_of, run_classes}
use Rattle.typed_heap.specs.Fits.{DefinitionFits, begins, are_runs, rest_fits, fits, place_fits}
use Rattle.typed_heap.specs.Lemmas.Found.{target_within, fields_within}
use Rattle.typed_heap.specs.Lemmas.LeafClasses.{element_within}
use Rattle.typed_heap.specs.Lemmas.Runs.{times_length, times_at, runs_decide, times_none}
use Rattle.mu_model.specs.Types.{class_definition}
use Rattle.model_laws.specs.Lemmas.Basics.{some_more}
use Rattle.bundle_facts.specs.Facts.{AreShaped}
use Rattle.bundle_facts.specs.Lemmas.Accepted as facts
use Rattle.bundle_laws.specs.Lemmas.Tables.{tables_fit}
use Rattle.typed_programs.specs.Lemmas.Sources.{graph_of, Moment}
use Rattle.typed_programs.specs.Lemmas.Classes.{shaped}

-- ---- lists

all_at : (P : ℕ → Type 0) (xs : List ℕ) (n x : ℕ) → All P xs → slice_get xs n ≡ Some x → P x
all_at P xs n x h e = subst P (get_or_from_slice_get xs n x x e) (All-get_or P xs n x (slice_get_within xs n x e) h)

map_same : (f : ℕ → ℕ) (xs ys : List ℕ) (n y : ℕ) → map f xs ≡ map f ys → slice_get ys n ≡ Some y → (x : ℕ) × (slice_get xs n ≡ Some x) × (f x ≡ f y)
map_same f xs [] n y e h = cc
map_same f [] (y ∷ ys) n z e h = cc
map_same f (x ∷ xs) (y ∷ ys) zero z e h = (x, refl, cc)
map_same f (x ∷ xs) (y ∷ ys) (suc n) z e h = map_same f xs ys n z (cc) h

-- ---- a type fits the leaves that are made of it

begins_front : (xs ys : List ℕ) → begins xs (xs ++ ys) ≡ true
begins_front [] ys = refl
begins_front (x ∷ xs) ys = let rest = begins_front xs ys in and_from (x == x) (begins xs (xs ++ ys)) (grind (arith, nat_tests)) rest

runs_of_times : (run : List ℕ) (many : ℕ) → are_runs run (times many run) ≡ true
runs_of_times [] many = let none = times_none many [] refl in rw none (let also = times_none (0 / 0) [] refl in (bytes_eq-Decides [] (times (0 / 0) [])).1 (sym also))
runs_of_times (x ∷ run) many = (runs_decide (x ∷ run) (times many (x ∷ run)) (omega arith)).1 (record {
  whole = ap (λ n. n % length (x ∷ run)) (times_length many (x ∷ run)) ∙ mul-mod_left many (length (x ∷ run));
  each = λ k low. times_at many (x ∷ run) k (omega (arith, times_length many (x ∷ run), low));
})

rest_itself : (graph : List TypeDef) (o : Option ℕ) (many : ℕ) → rest_fits graph o (times many (run_of graph o)) ≡ true
rest_itself graph None many = refl
rest_itself graph (Some element) many = runs_of_times (leaf_classes graph element) many

pub fits_itself : (graph : List TypeDef) (t many : ℕ) → fits graph t (leaf_classes graph t ++ times many (run_classes graph t)) ≡ true
fits_itself graph t many =
    and_from (begins (leaf_classes graph t) (leaf_classes graph t ++ times many (run_classes graph t))) _ (begins_front (leaf_classes graph t) (times many (run_classes graph t)))
    (subst (λ ls. rest_fits graph (repeated_of (slice_get graph t)) ls ≡ true) (sym (drop-append_seam (leaf_classes graph t) (times many (run_classes graph t)))) (rest_itself graph (repeated_of (slice_get graph t)) many))

pub fits_alone : (graph : List TypeDef) (t : ℕ) → fits graph t (leaf_classes graph t) ≡ true
fits_alone graph t = subst (λ ls. fits graph t ls ≡ true) (append-nil (leaf_classes graph t)) (fits_itself graph t 0)

-- what fits an object fits its place 0
pub place_first : (graph : List TypeDef) (t : ℕ) (o : HeapObject) → fits graph t o.leaves ≡ true → place_fits graph t o 0 ≡ true
place_first graph t o h = by o.leaves h
  where
    at : (n : ℕ) (b : Bool) → b ≡ true → ((0 == suc n) || (nat_lt 0 (suc n) && b)) ≡ true
    at n b h = grind (arith, nat_tests)

    by : (ls : List ℕ) → fits graph t ls ≡ true → ((0 == length ls) || (nat_lt 0 (length ls) && fits graph t (drop 0 ls))) ≡ true
    by [] h = refl
    by (x ∷ ls) h = at (length ls) (fits graph t (x ∷ ls)) h

-- ---- the parts of a class by those of a type of it

abbrev Fields : List TypeDef → List ℕ → Option (List ℕ) → Type 0
Fields graph fields found = (ks : List ℕ) × (found ≡ Some ks) × (map (class_of graph) ks ≡ map (class_of graph) fields)

shaped_struct : (graph : List TypeDef) (d k : TypeDef) (fields : List ℕ) → fields_of (Some d) ≡ Some fields → AreShaped graph d k → (ks : List ℕ) × (k ≡ types.Struct ks) × (map (class_of graph) ks ≡ map (class_of graph) fields)
shaped_struct graph (types.Struct fs) (types.Struct ks) fields e h = let same : fs ≡ fields = cc in (ks, refl, h ∙ ap (map (class_of graph)) same)
shaped_struct graph (types.Struct fs) k fields e h = absurd h
shaped_struct graph _ k fields e h = cc

shaped_fields : (graph : List TypeDef) (d k : TypeDef) (fields : List ℕ) → fixed_fields_of (Some d) ≡ Some fields → AreShaped graph d k → Fields graph fields (fixed_fields_of (Some k))
shaped_fields graph (types.Struct fs) (types.Struct ks) fields e h = let same : fs ≡ fields = cc in (ks, refl, h ∙ ap (map (class_of graph)) same)
shaped_fields graph (types.Hybrid fs x) (types.Hybrid ks y) fields e h = let same : fs ≡ fields = cc in (ks, refl, h.0 ∙ ap (map (class_of graph)) same)
shaped_fields graph (types.Struct fs) k fields e h = absurd h
shaped_fields graph (types.Hybrid fs x) k fields e h = absurd h
shaped_fields graph _ k fields e h = cc

shaped_element : (graph : List TypeDef) (d k : TypeDef) (t : ℕ) → element_of (Some d) ≡ Some t → AreShaped graph d k → (j n : ℕ) × (k ≡ types.Array j n) × (class_of graph j ≡ class_of graph t)
shaped_element graph (types.Array u n) (types.Array j m) t e h = let same : u ≡ t = cc in (j, m, refl, h.0 ∙ ap (class_of graph) same)
shaped_element graph (types.Array u n) k t e h = absurd h
shaped_element graph _ k t e h = cc

shaped_repeated : (graph : List TypeDef) (d k : TypeDef) (t : ℕ) → repeated_of (Some d) ≡ Some t → AreShaped graph d k → (ks : List ℕ) × (j : ℕ) × (k ≡ types.Hybrid ks j) × (class_of graph j ≡ class_of graph t)
shaped_repeated graph (types.Hybrid fs u) (types.Hybrid ks j) t e h = let same : u ≡ t = cc in (ks, j, refl, h.1 ∙ ap (class_of graph) same)
shaped_repeated graph (types.Hybrid fs u) k t e h = absurd h
shaped_repeated graph _ k t e h = cc

module _ (bundle : List Item) (r : Moment bundle) where
  -- ---- types of one class

  pub record AreSame (a b : ℕ) : Type 0 where
    pub left : a < length (graph_of bundle)
    pub right : b < length (graph_of bundle)
    pub class : class_of (graph_of bundle) a ≡ class_of (graph_of bundle) b

  pub same_leaves : (a b : ℕ) → AreSame a b → leaf_classes (graph_of bundle) a ≡ leaf_classes (graph_of bundle) b
  same_leaves a b s = (facts.classes_decide_fits bundle r.names r.checked a b s.left s.right s.class).0

  pub same_fits : (a b : ℕ) → AreSame a b → (ls : List ℕ) → fits (graph_of bundle) a ls ≡ fits (graph_of bundle) b ls
  same_fits a b s = (facts.classes_decide_fits bundle r.names r.checked a b s.left s.right s.class).1

  pub same_place : (a b : ℕ) → AreSame a b → (o : HeapObject) (at : ℕ) → place_fits (graph_of bundle) a o at ≡ place_fits (graph_of bundle) b o at
  same_place a b s = (facts.classes_decide_fits bundle r.names r.checked a b s.left s.right s.class).2

  pub iref_same : (a b : ℕ) → AreSame a b → (x : Scalar) → DefinitionFits (graph_of bundle) r.world (types.Iref a) x → DefinitionFits (graph_of bundle) r.world (types.Iref b) x
  iref_same a b s Null h = tt
  iref_same a b s (Place n at) h =
      some_more (slice_get r.world.objects n) (λ o. place_fits (graph_of bundle) a o at ≡ true) (λ o. place_fits (graph_of bundle) b o at ≡ true) (λ o k. sym (same_place a b s o at) ∙ k) h
  iref_same a b s _ h = absurd h

  -- a type that is written, and its class
  pub class_is : (t c : ℕ) → class_at (bundle_tables bundle).types t ≡ Some c → AreSame c t
  class_is t c e =
      let k = (facts.classes_are_defined bundle r.names r.checked t c e).class in
      record { left = k.within; right = k.written; class = k.own ∙ sym k.class }

  graph_is : IsGraph (graph_of bundle)
  graph_is = (tables_fit bundle r.names r.checked).graph

  -- ---- parts

  -- part number n of the fields of a class, where a type of it has the part k there
  pub record Part (found : Option (List ℕ)) (n k : ℕ) : Type 0 where
    pub fields : List ℕ
    pub are : found ≡ Some fields
    pub part : ℕ
    pub there : slice_get fields n ≡ Some part
    pub within : part < length (graph_of bundle)
    pub class : class_of (graph_of bundle) part ≡ class_of (graph_of bundle) k

  part_of_fields : (c n k : ℕ) (found : Option (List ℕ)) (ks fields : List ℕ) → found ≡ Some ks → fixed_fields_of (class_definition (bundle_tables bundle) c) ≡ Some ks → map (class_of (graph_of bundle)) ks ≡ map (class_of (graph_of bundle)) fields →
      slice_get fields n ≡ Some k → Part found n k
  part_of_fields c n k found ks fields e f same there =
      let j = map_same (class_of (graph_of bundle)) ks fields n k same there in
      record {
        fields = ks;
        are = e;
        part = j.0;
        there = j.1;
        class = j.2;
        within = all_at (λ x. x < length (graph_of bundle)) ks n j.0 (fields_within (graph_of bundle) graph_is c ks f) j.1;
      }

  nth_there : (o : Option (List ℕ)) (n k : ℕ) → nth_of o n ≡ Some k → (fields : List ℕ) × (o ≡ Some fields) × (slice_get fields n ≡ Some k)
  nth_there None n k h = cc
  nth_there (Some fields) n k h = (fields, refl, h)

  defined : {A : Type 0} (f : Option TypeDef → Option A) (o : Option TypeDef) (a : A) → f None ≡ None → f o ≡ Some a → (d : TypeDef) × (o ≡ Some d) × (f (Some d) ≡ Some a)
  defined f None a none h = let z : None ≡ Some a = sym none ∙ h in cc
  defined f (Some d) a none h = (d, refl, h)

  pub fixed_part : (t c n k : ℕ) → class_at (bundle_tables bundle).types t ≡ Some c → nth_fixed_field n (definition_at (bundle_tables bundle).types t) ≡ Some k →
      Part (fixed_fields_of (class_definition (bundle_tables bundle) c)) n k
  fixed_part t c n k e h =
      let fields = nth_there (fixed_fields_of (definition_at (bundle_tables bundle).types t)) n k h in
      let d = defined fixed_fields_of (definition_at (bundle_tables bundle).types t) fields.0 refl fields.1 in
      let s = shaped bundle r.names r.checked t c d.0 e d.1 in
      let ks = shaped_fields (graph_of bundle) d.0 s.0 fields.0 d.2 s.2 in
      let are : fixed_fields_of (class_definition (bundle_tables bundle) c) ≡ Some ks.0 = ap fixed_fields_of s.1 ∙ ks.1 in
      part_of_fields c n k (fixed_fields_of (class_definition (bundle_tables bundle) c)) ks.0 fields.0 are are ks.2 fields.2

  -- a struct, and one of its fields
  pub record StructPart (c n k : ℕ) : Type 0 where
    pub fields : List ℕ
    pub definition : class_definition (bundle_tables bundle) c ≡ Some (types.Struct fields)
    pub part : Part (Some fields) n k

  pub struct_part : (t c n k : ℕ) → class_at (bundle_tables bundle).types t ≡ Some c → nth_field n (definition_at (bundle_tables bundle).types t) ≡ Some k → StructPart c n k
  struct_part t c n k e h =
      let fields = nth_there (fields_of (definition_at (bundle_tables bundle).types t)) n k h in
      let d = defined fields_of (definition_at (bundle_tables bundle).types t) fields.0 refl fields.1 in
      let s = shaped bundle r.names r.checked t c d.0 e d.1 in
      let ks = shaped_struct (graph_of bundle) d.0 s.0 fields.0 d.2 s.2 in
      let definition : class_definition (bundle_tables bundle) c ≡ Some (types.Struct ks.0) = s.1 ∙ ap (λ x. Some x) ks.1 in
      record { fields = ks.0; definition = definition; part = part_of_fields c n k (Some ks.0) ks.0 fields.0 refl (ap fixed_fields_of definition) ks.2 fields.2 }

  -- the element of an array, and that of a hybrid
  pub record Element (c k : ℕ) : Type 0 where
    pub element : ℕ
    pub size : ℕ
    pub definition : class_definition (bundle_tables bundle) c ≡ Some (types.Array element size)
    pub within : element < length (graph_of bundle)
    pub class : class_of (graph_of bundle) element ≡ class_of (graph_of bundle) k

  pub element_part : (t c k : ℕ) → class_at (bundle_tables bundle).types t ≡ Some c → element_of (definition_at (bundle_tables bundle).types t) ≡ Some k → Element c k
  element_part t c k e h =
      let d = defined element_of (definition_at (bundle_tables bundle).types t) k refl h in
      let s = shaped bundle r.names r.checked t c d.0 e d.1 in
      let j = shaped_element (graph_of bundle) d.0 s.0 k d.2 s.2 in
      let definition : class_definition (bundle_tables bundle) c ≡ Some (types.Array j.0 j.1) = s.1 ∙ ap (λ x. Some x) j.2 in
      record { element = j.0; size = j.1; definition = definition; within = target_within (graph_of bundle) graph_is c j.0 (types.Array j.0 j.1) definition refl; class = j.3 }

  pub record Repeated (c k : ℕ) : Type 0 where
    pub element : ℕ
    pub is : repeated_of (class_definition (bundle_tables bundle) c) ≡ Some element
    pub within : element < length (graph_of bundle)
    pub class : class_of (graph_of bundle) element ≡ class_of (graph_of bundle) k

  pub repeated_part : (t c k : ℕ) → class_at (bundle_tables bundle).types t ≡ Some c → repeated_of (definition_at (bundle_tables bundle).types t) ≡ Some k → Repeated c k
  repeated_part t c k e h =
      let d = defined repeated_of (definition_at (bundle_tables bundle).types t) k refl h in
      let s = shaped bundle r.names r.checked t c d.0 e d.1 in
      let j = shaped_repeated (graph_of bundle) d.0 s.0 k d.2 s.2 in
      let definition : class_definition (bundle_tables bundle) c ≡ Some (types.Hybrid j.0 j.1) = s.1 ∙ ap (λ x. Some x) j.2 in
      record { element = j.1; is = ap repeated_of definition; within = element_within (graph_of bundle) graph_is c j.0 j.1 definition; class = j.3 }
