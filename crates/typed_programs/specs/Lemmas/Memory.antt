-- Accesses of memory, waits and wakes do what fits.
use Rattle.std.proofs.Common.{◌≡◌, ◌<◌, ◌≤◌, ◌^◌, ◌==◌, ◌&&◌, ◌||◌, nat_eq, nat_lt, ℕ, zero, suc, Bool, true, false, List, [], ◌∷◌, Option, Some, None, IsSomeAnd, length, drop, slice_get, if◌then◌else◌, refl, sym, ◌∙◌, ap, subst, inl, inr, arith}
use Rattle.std.proofs.lemmas.Bool.{and_parts}
use Rattle.std.proofs.lemmas.Bool.Decides.{eqb_tells, nat_tests}
use Rattle.ir_tree.specs.declared.items.Item.{Item}
use Rattle.type_definitions.specs.declared.definition.TypeDef.{TypeDef}
use Rattle.type_definitions.specs.declared.definition.TypeDef.TheVariants as types
use Rattle.type_definitions.specs.Class.{class_of}
use Rattle.mu_values.specs.declared.scalars.Scalar.{Scalar}
use Rattle.mu_values.specs.declared.scalars.Scalar.TheVariants.{Int, Null, Place}
use Rattle.mu_base.specs.declared.operators.UpdateOp.{UpdateOp}
use Rattle.mu_base.specs.declared.operators.UpdateOp.TheVariants as updates
use Rattle.mu_values.specs.Updates.{updated_bits}
use Rattle.mu_values.specs.Lemmas.Widths.{updated_below}
use Rattle.mu_values.specs.declared.cells.CellId.{CellId}
use Rattle.check_tables.specs.Types.{class_at, definition_at, int32}
use Rattle.check_tables.specs.TypeTests.{is_int, is_scalar, is_int64}
use Rattle.checked_code.specs.Checking.{bundle_tables}
use Rattle.checked_code.specs.declared.code.Source.{Source}
use Rattle.checked_code.specs.declared.code.AccessForm.{AccessForm}
use Rattle.checked_code.specs.declared.code.AccessForm.TheVariants as accessing
use Rattle.checked_code.specs.Accesses.{updates_type, may_load, may_update}
use Rattle.bundle_laws.specs.Typed.{SourceFits, PlaceFits, HasType, Int64Fits, AccessFits}
use Rattle.typed_heap.specs.Objects.{HeapObject, leaf_classes}
use Rattle.typed_heap.specs.Fits.{World, DefinitionFits, ScalarFits, begins, fits, place_fits}
use Rattle.mu_model.specs.Acts as acts
use Rattle.mu_model.specs.Acts.{Act, Access}
use Rattle.mu_model.specs.Accesses.{updated}
use Rattle.mu_model.specs.AccessForms.{cell_act, access_act}
use Rattle.mu_model.specs.StackForms.{futex_wait_act, futex_wait_timeout_act, futex_wake_act}
use Rattle.mu_model.specs.Operands.{scalar_in, is_integer, bits_in}
use Rattle.model_laws.specs.Orders.{OrdersFit}
use Rattle.model_laws.specs.Places.{IsScalarClass}
use Rattle.model_laws.specs.AccessesFit.{CellFits, AccessOf, access_gives}
use Rattle.model_laws.specs.Lemmas.Basics.{some_is, some_at, and_then}
use Rattle.model_numbers.specs.Sources.{value_at}
use Rattle.model_numbers.specs.Forms.{access_at}
use Rattle.bundle_facts.specs.Lemmas.Accepted as facts
use Rattle.typed_programs.specs.Lemmas.Classes.{int_class, int_is, scalar_class}
use Rattle.typed_programs.specs.Lemmas.Sources.{graph_of, Moment, one_leaf, one_scalar, scalar_of, bits_of_one, bits_fit}
use Rattle.typed_programs.specs.Lemmas.Computing.{FitsAt, DoesFit, GivesAt, integers_compare}
use Rattle.typed_programs.specs.Lemmas.Shapes.{same_leaves, class_is}
use Rattle.typed_programs.specs.Lemmas.Making.{PlaceOf, place_of}

-- ---- the cell of a scalar type at a place

begins_one : (c : ℕ) (ls : List ℕ) (at : ℕ) → begins (c ∷ []) (drop at ls) ≡ true → slice_get ls at ≡ Some c
begins_one c [] zero h = cc
begins_one c [] (suc at) h = cc
begins_one c (x ∷ ls) zero h = elim (eqb_tells c x) [ inl r ↦ ap (λ y. Some y) (sym r.1) | inr r ↦ cc ]
begins_one c (x ∷ ls) (suc at) h = begins_one c ls at h

inside : (at n : ℕ) (b : Bool) → ((at == n) || (nat_lt at n && b)) ≡ true → at < n → b ≡ true
inside at n b h low = grind (arith, nat_tests)

place_cell : (graph : List TypeDef) (w : World) (k c n at : ℕ) → leaf_classes graph k ≡ c ∷ [] → DefinitionFits graph w (types.Iref k) (Place n at) → CellFits w (record { object = n; at = at }) c
place_cell graph w k c n at leaf h = by (slice_get w.objects n) h
  where
    one : (o : HeapObject) → place_fits graph k o at ≡ true → at < length o.leaves → slice_get o.leaves at ≡ Some c
    one o e low =
        begins_one c o.leaves at (subst (λ ls. begins ls (drop at o.leaves) ≡ true) leaf
        (and_parts (begins (leaf_classes graph k) (drop at o.leaves)) _ (inside at (length o.leaves) (fits graph k (drop at o.leaves)) e low)).0)

    by : (o : Option HeapObject) → IsSomeAnd o (λ o. place_fits graph k o at ≡ true) → IsSomeAnd o (λ o. at < length o.leaves → slice_get o.leaves at ≡ Some c)
    by None h = absurd h
    by (Some o) h = one o h

-- ---- updates

is_int64_there : (d : Option TypeDef) → is_int64 d ≡ true → d ≡ Some (types.Int 64)
is_int64_there (Some (types.Int w)) h = let e : w ≡ 64 = grind (arith, nat_tests) in ap (λ (x : ℕ). Some (types.Int x)) e
is_int64_there _ h = cc

abbrev of_one_width : UpdateOp → ℕ → ℕ → ℕ → ℕ → Option Scalar
of_one_width op w a v b = if nat_eq w v && is_integer w a && is_integer w b then Some (Int w (updated_bits op w a b)) else None

module _ (bundle : List Item) (r : Moment bundle) where
  integers_updated : (op : UpdateOp) (c width : ℕ) → IsScalarClass (bundle_tables bundle) c (types.Int width) → 1 ≤ width → width ≤ 128 → ((w a v b : ℕ) → updated op (Int w a) (Int v b) ≡ of_one_width op w a v b) →
      (y x : Scalar) → ScalarFits (graph_of bundle) r.world c y → ScalarFits (graph_of bundle) r.world c x → IsSomeAnd (updated op x y) (ScalarFits (graph_of bundle) r.world c)
  integers_updated op c width k least most e y x hy hx =
      by y x (some_at _ (λ d. DefinitionFits (graph_of bundle) r.world d y) (types.Int width) k.definition hy) (some_at _ (λ d. DefinitionFits (graph_of bundle) r.world d x) (types.Int width) k.definition hx)
    where
      low : (w a b : ℕ) → w ≡ width → a < 2 ^ width → b < 2 ^ width → updated_bits op w a b < 2 ^ width
      low w a b same la lb = subst (λ v. updated_bits op v a b < 2 ^ width) (sym same) (updated_below op width a b la lb)

      of_width : (w a v b : ℕ) → w ≡ width → v ≡ width → a < 2 ^ width → b < 2 ^ width → (nat_eq w v && is_integer w a && is_integer w b) ≡ true
      of_width w a v b left right low also = rw (left, right) (integers_compare width a b least most low also)

      by : (y x : Scalar) → DefinitionFits (graph_of bundle) r.world (types.Int width) y → DefinitionFits (graph_of bundle) r.world (types.Int width) x → IsSomeAnd (updated op x y) (ScalarFits (graph_of bundle) r.world c)
      by (Int v b) (Int w a) hy hx = some_is (updated op (Int w a) (Int v b)) (ScalarFits (graph_of bundle) r.world c) (Int w (updated_bits op w a b))
          (e w a v b ∙ ap (λ t. if t then Some (Int w (updated_bits op w a b)) else None) (of_width w a v b hx.0 hy.0 hx.1 hy.1))
          (some_is _ (λ d. DefinitionFits (graph_of bundle) r.world d (Int w (updated_bits op w a b))) (types.Int width) k.definition (hx.0, low w a b hx.0 hx.1 hy.1))
      by (Int v b) _ hy hx = absurd hx
      by _ x hy hx = absurd hy

  ints_updated : (op : UpdateOp) (c : ℕ) → HasType (bundle_tables bundle) is_int c → ((w a v b : ℕ) → updated op (Int w a) (Int v b) ≡ of_one_width op w a v b) →
      (y : Scalar) → ScalarFits (graph_of bundle) r.world c y → (x : Scalar) → ScalarFits (graph_of bundle) r.world c x → IsSomeAnd (updated op x y) (ScalarFits (graph_of bundle) r.world c)
  ints_updated op c h e y hy x hx = let k = int_class bundle r.names r.checked c h in integers_updated op c k.width k.wide.class k.wide.least k.wide.most e y x hy hx

  updates_fit : (op : UpdateOp) (c : ℕ) → HasType (bundle_tables bundle) (updates_type op) c → (y : Scalar) → ScalarFits (graph_of bundle) r.world c y →
      (x : Scalar) → ScalarFits (graph_of bundle) r.world c x → IsSomeAnd (updated op x y) (ScalarFits (graph_of bundle) r.world c)
  updates_fit updates.Xchg c h y hy x hx = hy
  updates_fit updates.Add c h y hy x hx = ints_updated updates.Add c h (λ w a v b. refl) y hy x hx
  updates_fit updates.Sub c h y hy x hx = ints_updated updates.Sub c h (λ w a v b. refl) y hy x hx
  updates_fit updates.And c h y hy x hx = ints_updated updates.And c h (λ w a v b. refl) y hy x hx
  updates_fit updates.Nand c h y hy x hx = ints_updated updates.Nand c h (λ w a v b. refl) y hy x hx
  updates_fit updates.Or c h y hy x hx = ints_updated updates.Or c h (λ w a v b. refl) y hy x hx
  updates_fit updates.Xor c h y hy x hx = ints_updated updates.Xor c h (λ w a v b. refl) y hy x hx
  updates_fit updates.Max c h y hy x hx = ints_updated updates.Max c h (λ w a v b. refl) y hy x hx
  updates_fit updates.Min c h y hy x hx = ints_updated updates.Min c h (λ w a v b. refl) y hy x hx
  updates_fit updates.Umax c h y hy x hx = ints_updated updates.Umax c h (λ w a v b. refl) y hy x hx
  updates_fit updates.Umin c h y hy x hx = ints_updated updates.Umin c h (λ w a v b. refl) y hy x hx

  -- what an operator updates is a scalar
  updates_scalars : (op : UpdateOp) (d : Option TypeDef) → updates_type op d ≡ true → is_scalar d ≡ true
  updates_scalars updates.Xchg d h = h
  updates_scalars op (Some (types.Int w)) h = refl
  updates_scalars op _ h = cc

  module _ (block at : ℕ) where
    celled : (act : CellId → Act) (k c : ℕ) → leaf_classes (graph_of bundle) k ≡ c ∷ [] → ((cell : CellId) → CellFits r.world cell c → FitsAt bundle r.world block at (act cell)) →
        (x : Scalar) → DefinitionFits (graph_of bundle) r.world (types.Iref k) x → DoesFit bundle r.world block at (cell_act act x)
    celled act k c leaf go (Place n m) hx = go (record { object = n; at = m }) (place_cell (graph_of bundle) r.world k c n m leaf hx)
    celled act k c leaf go Null hx = tt
    celled act k c leaf go _ hx = absurd hx

    -- the type that a place of a type leads to has the type's only leaf
    target_leaf : (l : Source) (t c : ℕ) (d : TypeDef) → IsScalarClass (bundle_tables bundle) c d → class_at (bundle_tables bundle).types t ≡ Some c → (p : PlaceOf bundle r block at l t) →
        leaf_classes (graph_of bundle) p.refers.target ≡ c ∷ []
    target_leaf l t c d k e p =
        let same = class_is bundle r t c e in
        same_leaves bundle r p.refers.target c (record { left = p.refers.within; right = same.left; class = p.refers.class ∙ sym same.class }) ∙ k.leaf

    accesses : (l : Source) (t c : ℕ) (d : TypeDef) (o : Option Access) (gs : List ℕ) → IsScalarClass (bundle_tables bundle) c d → class_at (bundle_tables bundle).types t ≡ Some c →
        PlaceFits (bundle_tables bundle) r.classes l t → GivesAt bundle block at gs → IsSomeAnd o (λ a. AccessOf (graph_of bundle) r.world c a × (gs ≡ access_gives (bundle_tables bundle) c a) × OrdersFit a) →
        DoesFit bundle r.world block at (access_act (value_at bundle r.values l) o)
    accesses l t c d o gs k e h gives ho =
        let p = place_of bundle r block at l t h in
        and_then (scalar_in (value_at bundle r.values l)) _ (DefinitionFits (graph_of bundle) r.world (types.Iref p.refers.target)) _ p.scalar (λ x hx.
        and_then o _ (λ a. AccessOf (graph_of bundle) r.world c a × (gs ≡ access_gives (bundle_tables bundle) c a) × OrdersFit a) _ ho (λ a ha.
        celled (acts.Accesses a) p.refers.target c (target_leaf l t c d k e p) (λ cell there.
        record { class = c; leaf = k.leaf; there = there; access = ha.0; orders = ha.2; gives = gives ∙ ap (λ cs. Some cs) ha.1 }) x hx))

    pub access_fits : (f : AccessForm) (gs : List ℕ) → AccessFits (bundle_tables bundle) r.classes f gs → GivesAt bundle block at gs → DoesFit bundle r.world block at (access_at bundle r.values f)
    access_fits (accessing.Load o c l) gs h gives =
        let k = scalar_class bundle r.names r.checked c h.1 in
        accesses l h.1.number c k.0 (Some (acts.Loads o)) gs k.1 h.1.class h.2 gives (tt, h.3, h.0)
    access_fits (accessing.Store o c l v) gs h gives =
        let k = scalar_class bundle r.names r.checked c h.1 in
        accesses l h.1.number c k.0 _ gs k.1 h.1.class h.2 gives
        (and_then (scalar_in (value_at bundle r.values v)) _ (ScalarFits (graph_of bundle) r.world c) _ (scalar_of bundle r c k.0 v k.1 h.3) (λ y hy. (hy, h.4, h.0)))
    access_fits (accessing.Cmpxchg w o f c l v u) gs h gives =
        let k = scalar_class bundle r.names r.checked c h.2 in
        accesses l h.2.number c k.0 _ gs k.1 h.2.class h.3 gives
        (and_then (scalar_in (value_at bundle r.values v)) _ (ScalarFits (graph_of bundle) r.world c) _ (scalar_of bundle r c k.0 v k.1 h.4) (λ x hx.
        and_then (scalar_in (value_at bundle r.values u)) _ (ScalarFits (graph_of bundle) r.world c) _ (scalar_of bundle r c k.0 u k.1 h.5) (λ y hy. (hy, h.6, (h.0, (and_parts (may_load f) (may_update f) h.1).0)))))
    access_fits (accessing.Atomicrmw o op c l v) gs h gives =
        let k = scalar_class bundle r.names r.checked c (record { number = h.1.number; class = h.1.class; passes = updates_scalars op _ h.1.passes }) in
        accesses l h.1.number c k.0 _ gs k.1 h.1.class h.2 gives
        (and_then (scalar_in (value_at bundle r.values v)) _ (ScalarFits (graph_of bundle) r.world c) _ (scalar_of bundle r c k.0 v k.1 h.3) (λ y hy. ((λ x hx. updates_fit op c h.1 y hy x hx), h.4, h.0)))
    access_fits (accessing.Fence o) gs h gives = (gives ∙ ap (λ cs. Some cs) h.1, h.0)

    -- ---- waits and wakes

    pub wait_fits : (timed : Bool) (c : ℕ) (l v : Source) (gs : List ℕ) → (t : HasType (bundle_tables bundle) is_int c) → PlaceFits (bundle_tables bundle) r.classes l t.number →
        SourceFits (bundle_tables bundle) r.classes v c → gs ≡ int32 (bundle_tables bundle).types ∷ [] → GivesAt bundle block at gs →
        DoesFit bundle r.world block at (futex_wait_act timed (value_at bundle r.values l) (value_at bundle r.values v))
    wait_fits timed c l v gs t h hv same gives =
        let k = int_class bundle r.names r.checked c t in
        let p = place_of bundle r block at l t.number h in
        and_then (scalar_in (value_at bundle r.values l)) _ (DefinitionFits (graph_of bundle) r.world (types.Iref p.refers.target)) _ p.scalar (λ x hx.
        and_then (scalar_in (value_at bundle r.values v)) _ (DefinitionFits (graph_of bundle) r.world (types.Int k.width)) _ (one_scalar bundle r c (types.Int k.width) v k.wide.class hv) (λ y hy.
        celled (acts.Waits timed y) p.refers.target c (target_leaf l t.number c (types.Int k.width) k.wide.class t.class p) (λ cell there.
        record { class = c; leaf = k.wide.class.leaf; there = there; gives = gives ∙ ap (λ cs. Some cs) same }) x hx))

    -- a limit is an integer of 64 bits
    limit_fits : (n : Source) → Int64Fits (bundle_tables bundle) r.classes n → IsSomeAnd (bits_in (Some 64) (value_at bundle r.values n)) (λ m. m < 2 ^ 64)
    limit_fits n h =
        let written : definition_at (bundle_tables bundle).types h.0 ≡ Some (types.Int 64) = is_int64_there (definition_at (bundle_tables bundle).types h.0) h.2 in
        let c : class_at (bundle_tables bundle).types h.0 ≡ Some (class_of (graph_of bundle) h.0) = by (nat_lt h.0 (bundle_tables bundle).types.written) written in
        let k = int_is bundle r.names r.checked h.0 (class_of (graph_of bundle) h.0) 64 c written in
        let leaf = sym (facts.classes_are_defined bundle r.names r.checked h.0 (class_of (graph_of bundle) h.0) c).class.leaves ∙ k.class.leaf in
        bits_of_one bundle r 64 (scalar_in (value_at bundle r.values n)) k.least k.most (one_leaf bundle r h.0 (class_of (graph_of bundle) h.0) (types.Int 64) n leaf k.class.definition h.1)
      where
        by : (b : Bool) → (if b then slice_get (graph_of bundle) h.0 else None) ≡ Some (types.Int 64) → (if b then Some (class_of (graph_of bundle) h.0) else None) ≡ Some (class_of (graph_of bundle) h.0)
        by true e = refl
        by false e = cc

    pub timed_wait_fits : (c : ℕ) (l v n : Source) (gs : List ℕ) → (t : HasType (bundle_tables bundle) is_int c) → PlaceFits (bundle_tables bundle) r.classes l t.number →
        SourceFits (bundle_tables bundle) r.classes v c → Int64Fits (bundle_tables bundle) r.classes n → gs ≡ int32 (bundle_tables bundle).types ∷ [] → GivesAt bundle block at gs →
        DoesFit bundle r.world block at (futex_wait_timeout_act (value_at bundle r.values l) (value_at bundle r.values v) (value_at bundle r.values n))
    timed_wait_fits c l v n gs t h hv hn same gives =
        and_then (bits_in (Some 64) (value_at bundle r.values n)) _ (λ m. m < 2 ^ 64) _ (limit_fits n hn) (λ m low. wait_fits true c l v gs t h hv same gives)

    pub wake_fits : (c : ℕ) (l n : Source) (gs : List ℕ) → (t : HasType (bundle_tables bundle) is_int c) → PlaceFits (bundle_tables bundle) r.classes l t.number →
        SourceFits (bundle_tables bundle) r.classes n (int32 (bundle_tables bundle).types) → gs ≡ int32 (bundle_tables bundle).types ∷ [] → GivesAt bundle block at gs →
        DoesFit bundle r.world block at (futex_wake_act (value_at bundle r.values l) (value_at bundle r.values n))
    wake_fits c l n gs t h hn same gives =
        let k = int_class bundle r.names r.checked c t in
        let p = place_of bundle r block at l t.number h in
        and_then (scalar_in (value_at bundle r.values l)) _ (DefinitionFits (graph_of bundle) r.world (types.Iref p.refers.target)) _ p.scalar (λ x hx.
        and_then (bits_in (Some 32) (value_at bundle r.values n)) _ (λ m. m < 2 ^ 32) _
        (bits_fit bundle r (int32 (bundle_tables bundle).types) 32 n (facts.types_are_there bundle r.names r.checked).int32 (omega arith) (omega arith) hn) (λ many low.
        celled (acts.Wakes many) p.refers.target c (target_leaf l t.number c (types.Int k.width) k.wide.class t.class p) (λ cell there.
        (record { class = c; leaf = k.wide.class.leaf; there = there; gives = gives ∙ ap (λ cs. Some cs) same }, low)) x hx))
