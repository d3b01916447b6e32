-- Fields of structs in variables: what is taken out of a value, and put into one, fits.
use Rattle.std.proofs.Common.{◌≡◌, ◌+◌, ℕ, zero, suc, List, [], ◌∷◌, ◌++◌, Some, length, take, drop, slice_get, refl, sym, ◌∙◌, ap, subst, append_assoc, option_map, arith}
use Rattle.std.specs.List.{flat_map, sum_by}
use Rattle.std.proofs.lemmas.List.{drop-drop}
use Rattle.std.proofs.lemmas.List.Concat.{flat_map-cons}
use Rattle.std.proofs.lemmas.List.Sums.{sum_by-cons}
use Rattle.std.proofs.Math.Seq.{take-add}
use Rattle.ir_tree.specs.declared.items.Item.{Item}
use Rattle.type_definitions.specs.declared.definition.TypeDef.{TypeDef}
use Rattle.type_definitions.specs.declared.definition.TypeDef.TheVariants as types
use Rattle.mu_values.specs.declared.scalars.Scalar.{Scalar}
use Rattle.check_tables.specs.declared.tables.Tables.{Tables}
use Rattle.check_tables.specs.Types.{class_at, definition_at}
use Rattle.check_tables.specs.TypeTests.{fields_of}
use Rattle.checked_code.specs.Checking.{bundle_tables}
use Rattle.checked_code.specs.declared.code.Source.{Source}
use Rattle.checked_code.specs.declared.code.ComputationForm.TheVariants as computing
use Rattle.bundle_laws.specs.Typed.{SourceFits, TypeFits, GivesType, ComputationFits, nth_field}
use Rattle.typed_heap.specs.Objects.{leaf_classes}
use Rattle.typed_heap.specs.Fits.{World, ScalarsFit, ValueFits}
use Rattle.typed_heap.specs.Places.{leaves_together}
use Rattle.mu_model.specs.Types.{type_graph, class_definition}
use Rattle.mu_model.specs.ComputationForms.{part_of, extractvalue_act, insertvalue_act}
use Rattle.model_laws.specs.Lemmas.Basics.{some_is, some_of, and_then}
use Rattle.model_numbers.specs.Sources.{value_at}
use Rattle.bundle_facts.specs.Lemmas.Accepted as facts
use Rattle.typed_programs.specs.Lemmas.Sources.{graph_of, Moment, source_fits}
use Rattle.typed_programs.specs.Lemmas.Computing.{DoesFit, GivesAt, known_then}
use Rattle.typed_programs.specs.Lemmas.Shapes.{same_leaves, class_is, struct_part}

-- ---- scalars of two lists of leaves

scalars_append : (graph : List TypeDef) (w : World) (cs ds : List ℕ) (u v : List Scalar) → ScalarsFit graph w cs u → ScalarsFit graph w ds v → ScalarsFit graph w (cs ++ ds) (u ++ v)
scalars_append graph w [] ds [] v h k = k
scalars_append graph w [] ds (x ∷ u) v h k = absurd h
scalars_append graph w (c ∷ cs) ds [] v h k = absurd h
scalars_append graph w (c ∷ cs) ds (x ∷ u) v h k = (h.0, scalars_append graph w cs ds u v h.1 k)

scalars_take : (graph : List TypeDef) (w : World) (cs ds : List ℕ) (v : List Scalar) → ScalarsFit graph w (cs ++ ds) v → ScalarsFit graph w cs (take (length cs) v)
scalars_take graph w [] ds v h = tt
scalars_take graph w (c ∷ cs) ds [] h = absurd h
scalars_take graph w (c ∷ cs) ds (x ∷ v) h = (h.0, scalars_take graph w cs ds v h.1)

scalars_drop : (graph : List TypeDef) (w : World) (cs ds : List ℕ) (v : List Scalar) → ScalarsFit graph w (cs ++ ds) v → ScalarsFit graph w ds (drop (length cs) v)
scalars_drop graph w [] ds v h = h
scalars_drop graph w (c ∷ cs) ds [] h = absurd h
scalars_drop graph w (c ∷ cs) ds (x ∷ v) h = scalars_drop graph w cs ds v h.1

zero_more : (n : ℕ) → n ≡ 0 + n
zero_more n = omega arith

put_together : (a b size : ℕ) (u v : List Scalar) → take a v ++ (take b (drop a v) ++ u ++ drop (b + size) (drop a v)) ≡ take (a + b) v ++ u ++ drop ((a + b) + size) v
put_together a b size u v =
    let more : a + (b + size) ≡ (a + b) + size = omega arith in
    sym (append_assoc (take a v) (take b (drop a v) ++ u) (drop (b + size) (drop a v)))
    ∙ ap (λ z. z ++ drop (b + size) (drop a v)) (sym (append_assoc (take a v) (take b (drop a v)) u))
    ∙ ap (λ z. z ++ u ++ drop (b + size) (drop a v)) (sym (take-add a b v))
    ∙ ap (λ z. take (a + b) v ++ u ++ z) (drop-drop (b + size) a v ∙ ap (λ n. drop n v) more)

-- ---- one field

module _ (graph : List TypeDef) (w : World) where
  abbrev of : ℕ → List ℕ
  of t = leaf_classes graph t

  abbrev width : ℕ → ℕ
  width t = length (leaf_classes graph t)

  extracted : (fields : List ℕ) (n j : ℕ) (v : List Scalar) → slice_get fields n ≡ Some j → ScalarsFit graph w (flat_map of fields) v →
      ScalarsFit graph w (of j) (take (width j) (drop (sum_by width (take n fields)) v))
  extracted [] n j v e h = cc
  extracted (x ∷ fields) zero j v e h =
      let same : x ≡ j = cc in
      subst (λ k. ScalarsFit graph w (of k) (take (width k) v)) same (scalars_take graph w (of x) (flat_map of fields) v (subst (λ ls. ScalarsFit graph w ls v) (flat_map-cons of x fields) h))
  extracted (x ∷ fields) (suc n) j v e h =
      let rest = extracted fields n j (drop (width x) v) e (scalars_drop graph w (of x) (flat_map of fields) v (subst (λ ls. ScalarsFit graph w ls v) (flat_map-cons of x fields) h)) in
      subst (λ k. ScalarsFit graph w (of j) (take (width j) (drop k v))) (sym (sum_by-cons width x (take n fields)))
      (subst (λ u. ScalarsFit graph w (of j) (take (width j) u)) (drop-drop (sum_by width (take n fields)) (width x) v) rest)

  inserted : (fields : List ℕ) (n j : ℕ) (u v : List Scalar) → slice_get fields n ≡ Some j → ScalarsFit graph w (of j) u → ScalarsFit graph w (flat_map of fields) v →
      ScalarsFit graph w (flat_map of fields) (take (sum_by width (take n fields)) v ++ u ++ drop (sum_by width (take n fields) + width j) v)
  inserted [] n j u v e k h = cc
  inserted (x ∷ fields) zero j u v e k h =
      let same : j ≡ x = cc in
      let whole = subst (λ ls. ScalarsFit graph w ls v) (flat_map-cons of x fields) h in
      subst (λ ls. ScalarsFit graph w ls (u ++ drop (0 + width j) v)) (sym (flat_map-cons of x fields))
      (subst (λ m. ScalarsFit graph w (of x ++ flat_map of fields) (u ++ drop m v)) (ap width (sym same) ∙ zero_more (width j))
      (scalars_append graph w (of x) (flat_map of fields) u (drop (width x) v) (subst (λ t. ScalarsFit graph w (of t) u) same k) (scalars_drop graph w (of x) (flat_map of fields) v whole)))
  inserted (x ∷ fields) (suc n) j u v e k h =
      let whole = subst (λ ls. ScalarsFit graph w ls v) (flat_map-cons of x fields) h in
      let b = sum_by width (take n fields) in
      let rest = inserted fields n j u (drop (width x) v) e k (scalars_drop graph w (of x) (flat_map of fields) v whole) in
      let all = scalars_append graph w (of x) (flat_map of fields) (take (width x) v) (take b (drop (width x) v) ++ u ++ drop (b + width j) (drop (width x) v)) (scalars_take graph w (of x) (flat_map of fields) v whole) rest in
      subst (λ ls. ScalarsFit graph w ls (take (sum_by width (x ∷ take n fields)) v ++ u ++ drop (sum_by width (x ∷ take n fields) + width j) v)) (sym (flat_map-cons of x fields))
      (subst (λ t. ScalarsFit graph w (of x ++ flat_map of fields) (take t v ++ u ++ drop (t + width j) v)) (sym (sum_by-cons width x (take n fields)))
      (subst (λ z. ScalarsFit graph w (of x ++ flat_map of fields) z) (put_together (width x) b (width j) u v) all))

module _ (bundle : List Item) (r : Moment bundle) (block at : ℕ) where
  part_is : (p : Tables) (c n : ℕ) (fields : List ℕ) (j : ℕ) → fields_of (class_definition p c) ≡ Some fields → slice_get fields n ≡ Some j →
      part_of p c n ≡ Some (record { before = leaves_together (type_graph p) (take n fields); size = length (leaf_classes (type_graph p) j) })
  part_is p c n fields j e f = rw (e, f) refl

  pub extractvalue_fits : (c n : ℕ) (a : Source) (gs : List ℕ) → ComputationFits (bundle_tables bundle) r.classes (computing.Extractvalue c n a) gs → GivesAt bundle block at gs →
      DoesFit bundle r.world block at (extractvalue_act (bundle_tables bundle) c n (value_at bundle r.values a))
  extractvalue_fits c n a gs h gives =
      let k : (k : ℕ) × (nth_field n (definition_at (bundle_tables bundle).types h.0.number) ≡ Some k) × GivesType (bundle_tables bundle) k gs = some_of _ (λ k. GivesType (bundle_tables bundle) k gs) h.2 in
      let d : (d : ℕ) × (class_at (bundle_tables bundle).types k.0 ≡ Some d) × (gs ≡ d ∷ []) = some_of _ (λ d. gs ≡ d ∷ []) k.2 in
      let s = struct_part bundle r h.0.number c n k.0 h.0.class k.1 in
      let same = class_is bundle r k.0 d.0 d.1 in
      let leaves = same_leaves bundle r s.part.part d.0 (record { left = s.part.within; right = same.left; class = s.part.class ∙ sym same.class }) in
      let definition : class_definition (bundle_tables bundle) c ≡ Some (types.Struct s.part.fields) = s.definition ∙ ap (option_map (λ (ks : List ℕ). types.Struct ks)) s.part.are in
      known_then (part_of (bundle_tables bundle) c n) _ _ _ (part_is (bundle_tables bundle) c n s.part.fields s.part.part (ap fields_of definition) s.part.there)
      (and_then (value_at bundle r.values a) _ (ValueFits (graph_of bundle) r.world c) _ (source_fits bundle r a c h.1) (λ v hv.
      some_is _ _ (d.0 ∷ []) (gives ∙ ap (λ cs. Some cs) d.2) (
        subst (λ ls. ScalarsFit (graph_of bundle) r.world ls (take (length (leaf_classes (graph_of bundle) s.part.part)) (drop (leaves_together (graph_of bundle) (take n s.part.fields)) v))) leaves (extracted (graph_of bundle) r.world s.part.fields n s.part.part v s.part.there
            (subst (λ ls. ScalarsFit (graph_of bundle) r.world ls v) ((facts.leaves_of_classes bundle r.names r.checked).struct c s.part.fields definition) hv)),
        tt,
      )))

  pub insertvalue_fits : (c n : ℕ) (a b : Source) (gs : List ℕ) → ComputationFits (bundle_tables bundle) r.classes (computing.Insertvalue c n a b) gs → GivesAt bundle block at gs →
      DoesFit bundle r.world block at (insertvalue_act (bundle_tables bundle) c n (value_at bundle r.values a) (value_at bundle r.values b))
  insertvalue_fits c n a b gs h gives =
      let k : (k : ℕ) × (nth_field n (definition_at (bundle_tables bundle).types h.0.number) ≡ Some k) × TypeFits (bundle_tables bundle) r.classes b k = some_of _ (λ k. TypeFits (bundle_tables bundle) r.classes b k) h.2 in
      let d : (d : ℕ) × (class_at (bundle_tables bundle).types k.0 ≡ Some d) × SourceFits (bundle_tables bundle) r.classes b d = some_of _ (λ d. SourceFits (bundle_tables bundle) r.classes b d) k.2 in
      let s = struct_part bundle r h.0.number c n k.0 h.0.class k.1 in
      let same = class_is bundle r k.0 d.0 d.1 in
      let leaves = same_leaves bundle r s.part.part d.0 (record { left = s.part.within; right = same.left; class = s.part.class ∙ sym same.class }) in
      let definition : class_definition (bundle_tables bundle) c ≡ Some (types.Struct s.part.fields) = s.definition ∙ ap (option_map (λ (ks : List ℕ). types.Struct ks)) s.part.are in
      let whole = (facts.leaves_of_classes bundle r.names r.checked).struct c s.part.fields definition in
      known_then (part_of (bundle_tables bundle) c n) _ _ _ (part_is (bundle_tables bundle) c n s.part.fields s.part.part (ap fields_of definition) s.part.there)
      (and_then (value_at bundle r.values a) _ (ValueFits (graph_of bundle) r.world c) _ (source_fits bundle r a c h.1) (λ v hv.
      and_then (value_at bundle r.values b) _ (ValueFits (graph_of bundle) r.world d.0) _ (source_fits bundle r b d.0 d.2) (λ u hu.
      some_is _ _ (c ∷ []) (gives ∙ ap (λ cs. Some cs) h.3) (
        subst (λ ls. ScalarsFit (graph_of bundle) r.world ls (take (leaves_together (graph_of bundle) (take n s.part.fields)) v ++ u
            ++ drop (leaves_together (graph_of bundle) (take n s.part.fields) + length (leaf_classes (graph_of bundle) s.part.part)) v)) (sym whole) (inserted (graph_of bundle) r.world s.part.fields n s.part.part u v s.part.there
            (subst (λ ls. ScalarsFit (graph_of bundle) r.world ls u) (sym leaves) hu) (subst (λ ls. ScalarsFit (graph_of bundle) r.world ls v) whole hv)),
        tt,
      ))))
