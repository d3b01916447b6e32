-- Instructions that make objects, find places and cast references do what fits.
use Rattle.std.proofs.Common.{◌≡◌, ◌<◌, ◌^◌, ◌==◌, ℕ, Bool, true, false, List, [], ◌∷◌, ◌++◌, Option, Some, None, IsSomeAnd, Result, Ok, Err, length, take, slice_get, if◌then◌else◌, refl, sym, ◌∙◌, ap, subst, inl, inr}
use Rattle.std.specs.Prelude.{ℤ, pos, IfOk}
use Rattle.std.proofs.lemmas.Bool.Decides.{eqb_tells}
use Rattle.ir_tree.specs.declared.items.Item.{Item}
use Rattle.type_definitions.specs.declared.definition.TypeDef.{TypeDef}
use Rattle.type_definitions.specs.declared.definition.TypeDef.TheVariants as types
use Rattle.type_definitions.specs.Class.{class_of}
use Rattle.type_definitions.specs.Leaves.{times}
use Rattle.mu_values.specs.declared.scalars.Scalar.{Scalar}
use Rattle.mu_values.specs.declared.scalars.Scalar.TheVariants.{Null, Object, Place, Func}
use Rattle.mu_values.specs.Constants.{width_of, member_count}
use Rattle.mu_values.specs.Integers.{signed}
use Rattle.check_tables.specs.Types.{definition_at, ref_at, iref_at}
use Rattle.check_tables.specs.TypeTests.{is_int, is_castable, are_cast, is_index_type, is_scalar, fixed_fields_of, element_of, repeated_of}
use Rattle.checked_code.specs.Checking.{bundle_tables}
use Rattle.checked_code.specs.declared.code.Source.{Source}
use Rattle.checked_code.specs.declared.code.ComputationForm.TheVariants as computing
use Rattle.checked_code.specs.declared.code.AllocationForm.{AllocationForm}
use Rattle.checked_code.specs.declared.code.AllocationForm.TheVariants as making
use Rattle.checked_code.specs.declared.code.AddressingForm.{AddressingForm}
use Rattle.checked_code.specs.declared.code.AddressingForm.TheVariants as finding
use Rattle.bundle_laws.specs.Typed.{SourceFits, PlaceFits, HasType, GivesPlace, ComputationFits, AllocationFits, AddressingFits, nth_fixed_field}
use Rattle.typed_heap.specs.declared.faults.PlaceFault.{PlaceFault}
use Rattle.typed_heap.specs.Objects.{HeapObject, leaf_classes, run_classes, object_of}
use Rattle.typed_heap.specs.Fits.{World, DefinitionFits, ScalarFits, fits, place_fits}
use Rattle.typed_heap.specs.Places.{with_some, cast_if, Way, Field, Element as ElementOf, Shift, VarPart, Move, leaves_together, units, within, move, moved, find_place}
use Rattle.typed_heap.specs.Lemmas.Landing.{found_fits}
use Rattle.mu_model.specs.Types.{class_width}
use Rattle.mu_model.specs.Acts as acts
use Rattle.mu_model.specs.Acts.{Act}
use Rattle.mu_model.specs.Objects.{cast_any}
use Rattle.mu_model.specs.Operands.{scalar_in, bits_in}
use Rattle.mu_model.specs.ComputationForms.{scalar_act}
use Rattle.mu_model.specs.ObjectForms.{object_act, find_by_act}
use Rattle.model_laws.specs.ActsFit.{MadeFits}
use Rattle.model_laws.specs.Lemmas.Basics.{some_is, some_of, some_more, and_then, itself}
use Rattle.model_numbers.specs.Sources.{value_at}
use Rattle.model_numbers.specs.Numbered.{numbered}
use Rattle.model_numbers.specs.Forms.{allocation_at, addressing_at}
use Rattle.bundle_facts.specs.Facts.{AreShaped, RefersTo}
use Rattle.bundle_facts.specs.Lemmas.Accepted as facts
use Rattle.typed_programs.specs.PlacesOf.{places_of}
use Rattle.typed_programs.specs.Lemmas.Classes.{int_class, shaped, scalar_leaf}
use Rattle.typed_programs.specs.Lemmas.Sources.{graph_of, Moment, one_scalar, bits_fit}
use Rattle.typed_programs.specs.Lemmas.Computing.{FitsAt, DoesFit, GivesAt, known_then, gives_one}
use Rattle.typed_programs.specs.Lemmas.Shapes.{fits_itself, fits_alone, place_first, AreSame, same_fits, same_place, iref_same, class_is, fixed_part, element_part, repeated_part}

if_ok : {A E : Type 0} (P Q : A → Type 0) (r : Result A E) → ((a : A) → P a → Q a) → IfOk r P → IfOk r Q
if_ok P Q (Ok a) f h = f a h
if_ok P Q (Err e) f h = h

index_is_int : (d : Option TypeDef) → is_index_type d ≡ true → is_int d ≡ true
index_is_int (Some (types.Int width)) h = refl
index_is_int _ h = cc

move_field : (graph : List TypeDef) (c n : ℕ) (ks : List ℕ) (j : ℕ) → fixed_fields_of (slice_get graph c) ≡ Some ks → slice_get ks n ≡ Some j →
    move graph (Field c n) ≡ Some (record { by = Some (pos (leaves_together graph (take n ks))); wanted = j })
move_field graph c n ks j e f = rw (e, f) refl

move_element : (graph : List TypeDef) (c : ℕ) (i : ℤ) (j size : ℕ) → slice_get graph c ≡ Some (types.Array j size) →
    move graph (ElementOf c i) ≡ Some (record { by = if within size i then Some (units graph j i) else None; wanted = j })
move_element graph c i j size e =
    let element : element_of (slice_get graph c) ≡ Some j = ap element_of e in
    let count : member_count (slice_get graph c) ≡ Some size = ap member_count e in
    rw (element, count) refl

move_repeated : (graph : List TypeDef) (c j : ℕ) → repeated_of (slice_get graph c) ≡ Some j → move graph (VarPart c) ≡ Some (record { by = Some (units graph c (pos 1)); wanted = j })
move_repeated graph c j e = rw e refl

-- some place is found, or it is a fault
found_some : (graph : List TypeDef) (w : World) (m : Move) (k : ℕ) (x : Scalar) → DefinitionFits graph w (types.Iref k) x → IsSomeAnd (find_place graph w.objects (Some m) x) (λ y. Unit {0})
found_some graph w m k Null h = tt
found_some graph w m k (Place n at) h = by (slice_get w.objects n) h
  where
    by : (o : Option HeapObject) → IsSomeAnd o (λ o. place_fits graph k o at ≡ true) → IsSomeAnd (with_some o (λ o. Some (moved graph n o at m.wanted m.by))) (λ y. Unit {0})
    by None h = absurd h
    by (Some o) h = tt
found_some graph w m k _ h = absurd h

cast_if_fits : (s : Scalar) (b : Bool) (P : Scalar → Type 0) → (b ≡ true → P s) → IfOk (cast_if s b) P
cast_if_fits s true P h = h refl
cast_if_fits s false P h = tt

number_is : (a b : ℕ) → (a == b) ≡ true → a ≡ b
number_is a b h = elim (eqb_tells a b) [ inl r ↦ r.1 | inr r ↦ cc ]

written_there : (test : Option TypeDef → Bool) (o : Option TypeDef) → test None ≡ false → test o ≡ true → (d : TypeDef) × (o ≡ Some d)
written_there test None none h = let z : false ≡ true = sym none ∙ h in cc
written_there test (Some d) none h = (d, refl)

cast_there : (a b : Option TypeDef) → are_cast a b ≡ true → (d : TypeDef) × (b ≡ Some d)
cast_there a (Some d) h = (d, refl)
cast_there (Some (types.Ref t)) None h = cc
cast_there (Some (types.Iref t)) None h = cc
cast_there (Some (types.FuncRef t)) None h = cc
cast_there _ None h = cc

cast_scalars : (a b : Option TypeDef) → are_cast a b ≡ true → (is_scalar a ≡ true) × (is_scalar b ≡ true)
cast_scalars (Some (types.Ref t)) (Some (types.Ref u)) h = (refl, refl)
cast_scalars (Some (types.Iref t)) (Some (types.Iref u)) h = (refl, refl)
cast_scalars (Some (types.FuncRef t)) (Some (types.FuncRef u)) h = (refl, refl)
cast_scalars _ _ h = cc

-- both are references of one kind
same_kind : (graph : List TypeDef) (x y k j : TypeDef) → are_cast (Some x) (Some y) ≡ true → AreShaped graph x k → AreShaped graph y j → are_cast (Some k) (Some j) ≡ true
same_kind graph (types.Ref a) (types.Ref b) (types.Ref c) (types.Ref d) e h i = refl
same_kind graph (types.Iref a) (types.Iref b) (types.Iref c) (types.Iref d) e h i = refl
same_kind graph (types.FuncRef a) (types.FuncRef b) (types.FuncRef c) (types.FuncRef d) e h i = refl
same_kind graph (types.Ref a) (types.Ref b) (types.Ref c) j e h i = absurd i
same_kind graph (types.Iref a) (types.Iref b) (types.Iref c) j e h i = absurd i
same_kind graph (types.FuncRef a) (types.FuncRef b) (types.FuncRef c) j e h i = absurd i
same_kind graph (types.Ref a) (types.Ref b) k j e h i = absurd h
same_kind graph (types.Iref a) (types.Iref b) k j e h i = absurd h
same_kind graph (types.FuncRef a) (types.FuncRef b) k j e h i = absurd h
same_kind graph _ _ k j e h i = cc

module _ (bundle : List Item) (r : Moment bundle) (block at : ℕ) where
  -- ---- what is made

  made_fits : (reference : ℕ → TypeDef) (class t : ℕ) (gs : List ℕ) (fit : ℕ → Bool) (refers : RefersTo (graph_of bundle) class reference t) → gs ≡ class ∷ [] → GivesAt bundle block at gs →
      fit refers.target ≡ true → MadeFits (numbered bundle) (places_of bundle) block at reference fit
  made_fits reference class t gs fit refers same gives h = record {
    class = class;
    leaf = refers.leaf;
    gives = gives ∙ ap (λ cs. Some cs) same;
    target = refers.target;
    definition = refers.definition;
    there = h;
  }

  -- what a reference refers to is of the class of the type that is named
  target_same : (reference : ℕ → TypeDef) (class t c : ℕ) (refers : RefersTo (graph_of bundle) class reference t) → AreSame bundle r c t → AreSame bundle r refers.target c
  target_same reference class t c refers s = record { left = refers.within; right = s.left; class = refers.class ∙ sym s.class }

  pub allocation_fits : (f : AllocationForm) (gs : List ℕ) → AllocationFits (bundle_tables bundle) r.classes f gs → GivesAt bundle block at gs → DoesFit bundle r.world block at (allocation_at bundle r.values f)
  allocation_fits (making.New c) gs h gives =
      let g : (k : ℕ) × (ref_at (bundle_tables bundle).types h.0.number ≡ Some k) × (gs ≡ k ∷ []) = some_of _ (λ k. gs ≡ k ∷ []) h.1 in
      let refers = facts.refs_are_defined bundle r.names r.checked h.0.number g.0 g.1 in
      let same = target_same types.Ref g.0 h.0.number c refers (class_is bundle r h.0.number c h.0.class) in
      made_fits types.Ref g.0 h.0.number gs (λ d. fits (graph_of bundle) d (leaf_classes (graph_of bundle) c)) refers g.2 gives
      (same_fits bundle r refers.target c same (leaf_classes (graph_of bundle) c) ∙ fits_alone (graph_of bundle) c)
  allocation_fits (making.Newhybrid c d n) gs h gives =
      let g : (k : ℕ) × (ref_at (bundle_tables bundle).types h.0.number ≡ Some k) × (gs ≡ k ∷ []) = some_of _ (λ k. gs ≡ k ∷ []) h.3 in
      let refers = facts.refs_are_defined bundle r.names r.checked h.0.number g.0 g.1 in
      let same = target_same types.Ref g.0 h.0.number c refers (class_is bundle r h.0.number c h.0.class) in
      let k = int_class bundle r.names r.checked d (record { number = h.1.number; class = h.1.class; passes = index_is_int _ h.1.passes }) in
      subst (λ o. IsSomeAnd (with_some (bits_in o (value_at bundle r.values n)) (λ many. Some (acts.MakesHybrid c many))) (FitsAt bundle r.world block at)) (sym (ap width_of k.wide.class.definition))
      (and_then (bits_in (Some k.width) (value_at bundle r.values n)) _ (λ n. n < 2 ^ k.width) _ (bits_fit bundle r d k.width n k.wide.class k.wide.least k.wide.most h.2) (λ many low.
      made_fits types.Ref g.0 h.0.number gs (λ d. fits (graph_of bundle) d (leaf_classes (graph_of bundle) c ++ times many (run_classes (graph_of bundle) c))) refers g.2 gives
      (same_fits bundle r refers.target c same (leaf_classes (graph_of bundle) c ++ times many (run_classes (graph_of bundle) c)) ∙ fits_itself (graph_of bundle) c many)))
  allocation_fits (making.Alloca c) gs h gives =
      let g : (k : ℕ) × (iref_at (bundle_tables bundle).types h.0.number ≡ Some k) × (gs ≡ k ∷ []) = some_of _ (λ k. gs ≡ k ∷ []) h.1 in
      let refers = facts.irefs_are_defined bundle r.names r.checked h.0.number g.0 g.1 in
      let same = target_same types.Iref g.0 h.0.number c refers (class_is bundle r h.0.number c h.0.class) in
      made_fits types.Iref g.0 h.0.number gs (λ d. place_fits (graph_of bundle) d (object_of (graph_of bundle) (leaf_classes (graph_of bundle) c)) 0) refers g.2 gives
      (same_place bundle r refers.target c same (object_of (graph_of bundle) (leaf_classes (graph_of bundle) c)) 0
      ∙ place_first (graph_of bundle) c (object_of (graph_of bundle) (leaf_classes (graph_of bundle) c)) (fits_alone (graph_of bundle) c))

  -- ---- places

  -- a reference to a place of a type: its class, and its scalar
  pub record PlaceOf (l : Source) (t : ℕ) : Type 0 where
    pub class : ℕ
    pub refers : RefersTo (graph_of bundle) class types.Iref t
    pub scalar : IsSomeAnd (scalar_in (value_at bundle r.values l)) (DefinitionFits (graph_of bundle) r.world (types.Iref refers.target))

  pub place_of : (l : Source) (t : ℕ) → PlaceFits (bundle_tables bundle) r.classes l t → PlaceOf l t
  place_of l t h =
      let c : (c : ℕ) × (iref_at (bundle_tables bundle).types t ≡ Some c) × SourceFits (bundle_tables bundle) r.classes l c = some_of _ (λ c. SourceFits (bundle_tables bundle) r.classes l c) h in
      let refers = facts.irefs_are_defined bundle r.names r.checked t c.0 c.1 in
      record {
        class = c.0;
        refers = refers;
        scalar = one_scalar bundle r c.0 (types.Iref refers.target) l (record { leaf = refers.leaf; definition = refers.definition }) c.2;
      }

  -- a place that is found is of the class that the instruction gives
  found_is : (m : Move) (i k : ℕ) (refers : RefersTo (graph_of bundle) i types.Iref k) → AreSame bundle r m.wanted refers.target → (x : Scalar) (o : Option (Result Scalar PlaceFault)) →
      find_place (graph_of bundle) r.world.objects (Some m) x ≡ o → IsSomeAnd o (λ y. Unit {0}) → IsSomeAnd o (λ y. IfOk y (ScalarFits (graph_of bundle) r.world i))
  found_is m i k refers same x None e h = absurd h
  found_is m i k refers same x (Some (Err f)) e h = tt
  found_is m i k refers same x (Some (Ok y)) e h =
      some_is _ (λ d. DefinitionFits (graph_of bundle) r.world d y) (types.Iref refers.target) refers.definition
      (iref_same bundle r m.wanted refers.target same y (found_fits (graph_of bundle) r.world m x y e))

  finds_fit : (way : Way) (m : Move) (l : Source) (t k : ℕ) (gs : List ℕ) → move (graph_of bundle) way ≡ Some m → m.wanted < length (graph_of bundle) → class_of (graph_of bundle) m.wanted ≡ class_of (graph_of bundle) k →
      PlaceFits (bundle_tables bundle) r.classes l t → GivesPlace (bundle_tables bundle) k gs → GivesAt bundle block at gs → DoesFit bundle r.world block at (scalar_act (acts.Finds way) (value_at bundle r.values l))
  finds_fit way m l t k gs e within class h given gives =
      let p = place_of l t h in
      let i : (i : ℕ) × (iref_at (bundle_tables bundle).types k ≡ Some i) × (gs ≡ i ∷ []) = some_of _ (λ i. gs ≡ i ∷ []) given in
      let refers = facts.irefs_are_defined bundle r.names r.checked k i.0 i.1 in
      let same : AreSame bundle r m.wanted refers.target = record { left = within; right = refers.within; class = class ∙ sym refers.class } in
      and_then (scalar_in (value_at bundle r.values l)) _ (DefinitionFits (graph_of bundle) r.world (types.Iref p.refers.target)) _ p.scalar (λ x hx.
      record {
        class = i.0;
        leaf = refers.leaf;
        gives = gives ∙ ap (λ cs. Some cs) i.2;
        found = subst (λ o. IsSomeAnd (find_place (graph_of bundle) r.world.objects o x) (λ y. IfOk y (ScalarFits (graph_of bundle) r.world i.0))) (sym e)
            (found_is m i.0 k refers same x (find_place (graph_of bundle) r.world.objects (Some m) x) refl (found_some (graph_of bundle) r.world m p.refers.target x hx));
      })

  -- by an index or an offset
  by_index : (way : ℤ → Way) (d : ℕ) (l x : Source) → HasType (bundle_tables bundle) is_index_type d → SourceFits (bundle_tables bundle) r.classes x d →
      ((i : ℤ) → DoesFit bundle r.world block at (scalar_act (acts.Finds (way i)) (value_at bundle r.values l))) →
      DoesFit bundle r.world block at (find_by_act (bundle_tables bundle) way d (value_at bundle r.values l) (value_at bundle r.values x))
  by_index way d l x h hx go =
      let k = int_class bundle r.names r.checked d (record { number = h.number; class = h.class; passes = index_is_int _ h.passes }) in
      known_then (class_width (bundle_tables bundle) d) k.width _ _ (ap width_of k.wide.class.definition)
      (and_then (bits_in (Some k.width) (value_at bundle r.values x)) _ (λ n. n < 2 ^ k.width) _ (bits_fit bundle r d k.width x k.wide.class k.wide.least k.wide.most hx) (λ n low.
      go (signed k.width n)))

  object_place : (k i t : ℕ) (gs : List ℕ) (refers : RefersTo (graph_of bundle) i types.Iref t) → AreSame bundle r k refers.target → gs ≡ i ∷ [] → GivesAt bundle block at gs → (x : Scalar) →
      DefinitionFits (graph_of bundle) r.world (types.Ref k) x → DoesFit bundle r.world block at (object_act x)
  object_place k i t gs refers same e gives Null hx = tt
  object_place k i t gs refers same e gives (Object n) hx =
      gives_one bundle r.world block at i (types.Iref refers.target) (Place n 0) gs (record { leaf = refers.leaf; definition = refers.definition })
      (some_more (slice_get r.world.objects n) (λ o. fits (graph_of bundle) k o.leaves ≡ true) (λ o. place_fits (graph_of bundle) refers.target o 0 ≡ true)
      (λ o f. sym (same_place bundle r k refers.target same o 0) ∙ place_first (graph_of bundle) k o f) hx) e gives
  object_place k i t gs refers same e gives _ hx = absurd hx

  pub addressing_fits : (f : AddressingForm) (gs : List ℕ) → AddressingFits (bundle_tables bundle) r.classes f gs → GivesAt bundle block at gs → DoesFit bundle r.world block at (addressing_at bundle r.values f)
  addressing_fits (finding.Getiref c s) gs h gives =
      let o : (o : ℕ) × (ref_at (bundle_tables bundle).types h.0.number ≡ Some o) × SourceFits (bundle_tables bundle) r.classes s o = some_of _ (λ c. SourceFits (bundle_tables bundle) r.classes s c) h.1 in
      let object = facts.refs_are_defined bundle r.names r.checked h.0.number o.0 o.1 in
      let i : (i : ℕ) × (iref_at (bundle_tables bundle).types h.0.number ≡ Some i) × (gs ≡ i ∷ []) = some_of _ (λ i. gs ≡ i ∷ []) h.2 in
      let place = facts.irefs_are_defined bundle r.names r.checked h.0.number i.0 i.1 in
      and_then (scalar_in (value_at bundle r.values s)) _ (DefinitionFits (graph_of bundle) r.world (types.Ref object.target)) _
      (one_scalar bundle r o.0 (types.Ref object.target) s (record { leaf = object.leaf; definition = object.definition }) o.2) (λ x hx.
      object_place object.target i.0 h.0.number gs place (record { left = object.within; right = place.within; class = object.class ∙ sym place.class }) i.2 gives x hx)
  addressing_fits (finding.Getfieldiref c n l) gs h gives =
      let k : (k : ℕ) × (nth_fixed_field n (definition_at (bundle_tables bundle).types h.0.number) ≡ Some k) × GivesPlace (bundle_tables bundle) k gs = some_of _ (λ k. GivesPlace (bundle_tables bundle) k gs) h.2 in
      let part = fixed_part bundle r h.0.number c n k.0 h.0.class k.1 in
      finds_fit (Field c n) _ l h.0.number k.0 gs (move_field (graph_of bundle) c n part.fields part.part part.are part.there) part.within part.class h.1 k.2 gives
  addressing_fits (finding.Getelemiref c d l x) gs h gives =
      let k : (k : ℕ) × (element_of (definition_at (bundle_tables bundle).types h.0.number) ≡ Some k) × GivesPlace (bundle_tables bundle) k gs = some_of _ (λ k. GivesPlace (bundle_tables bundle) k gs) h.4 in
      let part = element_part bundle r h.0.number c k.0 h.0.class k.1 in
      by_index (ElementOf c) d l x h.1 h.3 (λ i.
      finds_fit (ElementOf c i) _ l h.0.number k.0 gs (move_element (graph_of bundle) c i part.element part.size part.definition) part.within part.class h.2 k.2 gives)
  addressing_fits (finding.Shiftiref c d l x) gs h gives =
      by_index (Shift c) d l x h.1 h.3 (λ i.
      let same = class_is bundle r h.0.number c h.0.class in
      finds_fit (Shift c i) (record { by = Some (units (graph_of bundle) c i); wanted = c }) l h.0.number h.0.number gs refl same.left same.class h.2 h.4 gives)
  addressing_fits (finding.Getvarpartiref c l) gs h gives =
      let k : (k : ℕ) × (repeated_of (definition_at (bundle_tables bundle).types h.0.number) ≡ Some k) × GivesPlace (bundle_tables bundle) k gs = some_of _ (λ k. GivesPlace (bundle_tables bundle) k gs) h.2 in
      let part = repeated_part bundle r h.0.number c k.0 h.0.class k.1 in
      finds_fit (VarPart c) _ l h.0.number k.0 gs (move_repeated (graph_of bundle) c part.element part.is) part.within part.class h.1 k.2 gives

  -- ---- casts

  casted : (k j : TypeDef) (x : Scalar) → are_cast (Some k) (Some j) ≡ true → DefinitionFits (graph_of bundle) r.world k x →
      IsSomeAnd (cast_any (bundle_tables bundle) r.world.objects (Some j) x) (λ y. IfOk y (DefinitionFits (graph_of bundle) r.world j))
  casted (types.Ref t) (types.Ref u) Null e h = tt
  casted (types.Ref t) (types.Ref u) (Object n) e h =
      and_then (slice_get r.world.objects n) _ (λ o. slice_get r.world.objects n ≡ Some o) _ (itself (slice_get r.world.objects n) (λ o. fits (graph_of bundle) t o.leaves ≡ true) h) (λ o there.
      cast_if_fits (Object n) (fits (graph_of bundle) u o.leaves) (DefinitionFits (graph_of bundle) r.world (types.Ref u)) (λ f. some_is _ (λ o. fits (graph_of bundle) u o.leaves ≡ true) o there f))
  casted (types.Ref t) (types.Ref u) _ e h = absurd h
  casted (types.Iref t) (types.Iref u) Null e h = tt
  casted (types.Iref t) (types.Iref u) (Place n m) e h =
      and_then (slice_get r.world.objects n) _ (λ o. slice_get r.world.objects n ≡ Some o) _ (itself (slice_get r.world.objects n) (λ o. place_fits (graph_of bundle) t o m ≡ true) h) (λ o there.
      cast_if_fits (Place n m) (place_fits (graph_of bundle) u o m) (DefinitionFits (graph_of bundle) r.world (types.Iref u)) (λ f. some_is _ (λ o. place_fits (graph_of bundle) u o m ≡ true) o there f))
  casted (types.Iref t) (types.Iref u) _ e h = absurd h
  casted (types.FuncRef t) (types.FuncRef u) Null e h = tt
  casted (types.FuncRef t) (types.FuncRef u) (Func f) e h =
      subst (λ fs. IsSomeAnd (with_some (slice_get fs f) (λ g. Some (cast_if (Func f) (g == class_of (graph_of bundle) u)))) (λ y. IfOk y (DefinitionFits (graph_of bundle) r.world (types.FuncRef u)))) r.globals.functions
      (and_then (slice_get r.world.signatures f) _ (λ g. slice_get r.world.signatures f ≡ Some g) _ (itself (slice_get r.world.signatures f) (λ g. g ≡ class_of (graph_of bundle) t) h) (λ g there.
      cast_if_fits (Func f) (g == class_of (graph_of bundle) u) (DefinitionFits (graph_of bundle) r.world (types.FuncRef u)) (λ same. some_is _ (λ g. g ≡ class_of (graph_of bundle) u) g there (number_is g (class_of (graph_of bundle) u) same))))
  casted (types.FuncRef t) (types.FuncRef u) _ e h = absurd h
  casted _ _ x e h = cc

  pub refcast_fits : (c d : ℕ) (a : Source) (gs : List ℕ) → ComputationFits (bundle_tables bundle) r.classes (computing.Refcast c d a) gs → GivesAt bundle block at gs →
      DoesFit bundle r.world block at (scalar_act (acts.Casts d) (value_at bundle r.values a))
  refcast_fits c d a gs h gives =
      let x = written_there is_castable (definition_at (bundle_tables bundle).types h.0.number) refl h.0.passes in
      let y = cast_there (definition_at (bundle_tables bundle).types h.0.number) (definition_at (bundle_tables bundle).types h.1.number) h.1.passes in
      let k = shaped bundle r.names r.checked h.0.number c x.0 h.0.class x.1 in
      let j = shaped bundle r.names r.checked h.1.number d y.0 h.1.class y.1 in
      let kind : are_cast (Some k.0) (Some j.0) ≡ true = same_kind (graph_of bundle) x.0 y.0 k.0 j.0 (subst (λ o. are_cast o (Some y.0) ≡ true) x.1 (subst (λ o. are_cast (definition_at (bundle_tables bundle).types h.0.number) o ≡ true) y.1 h.1.passes)) k.2 j.2 in
      let from : is_scalar (Some k.0) ≡ true = (cast_scalars (Some k.0) (Some j.0) kind).0 in
      let to : is_scalar (Some j.0) ≡ true = (cast_scalars (Some k.0) (Some j.0) kind).1 in
      and_then (scalar_in (value_at bundle r.values a)) _ (DefinitionFits (graph_of bundle) r.world k.0) _
      (one_scalar bundle r c k.0 a (record { leaf = scalar_leaf bundle r.names r.checked h.0.number c h.0.class (ap is_scalar k.1 ∙ from); definition = k.1 }) h.2) (λ s hs.
      record {
        class = d;
        leaf = scalar_leaf bundle r.names r.checked h.1.number d h.1.class (ap is_scalar j.1 ∙ to);
        gives = gives ∙ ap (λ cs. Some cs) h.3;
        found = subst (λ o. IsSomeAnd (cast_any (bundle_tables bundle) r.world.objects o s) (λ y. IfOk y (ScalarFits (graph_of bundle) r.world d))) (sym j.1)
            (some_more (cast_any (bundle_tables bundle) r.world.objects (Some j.0) s) (λ y. IfOk y (DefinitionFits (graph_of bundle) r.world j.0)) (λ y. IfOk y (ScalarFits (graph_of bundle) r.world d))
            (λ y f. if_ok (DefinitionFits (graph_of bundle) r.world j.0) (ScalarFits (graph_of bundle) r.world d) y (λ z g. some_is _ (λ e. DefinitionFits (graph_of bundle) r.world e z) j.0 j.1 g) f)
            (casted k.0 j.0 s kind hs));
      })
