-- The operands of well typed code have values that fit their classes.
use Rattle.std.proofs.Common.{◌≡◌, ◌<◌, ◌≤◌, ◌^◌, ◌&&◌, nat_eq, ℕ, zero, suc, true, List, [], ◌∷◌, Option, Some, None, IsSomeAnd, map, slice_get, is_some, if◌then◌else◌, refl, sym, subst, arith}
use Rattle.std.proofs.lemmas.Bool.Decides.{nat_tests}
use Rattle.demands.specs.Demands.{first_unmet}
use Rattle.ir_tree.specs.declared.items.Item.{Item}
use Rattle.type_definitions.specs.declared.definition.TypeDef.{TypeDef}
use Rattle.type_definitions.specs.declared.definition.TypeDef.TheVariants as types
use Rattle.mu_values.specs.declared.scalars.Scalar.{Scalar}
use Rattle.mu_values.specs.declared.scalars.Scalar.TheVariants.{Int, Place}
use Rattle.bundle_names.specs.Naming.{name_demands}
use Rattle.checked_code.specs.Checking.{bundle_tables, check_demands}
use Rattle.checked_code.specs.declared.code.Source.{Source}
use Rattle.checked_code.specs.declared.code.Source.TheVariants as sources
use Rattle.bundle_laws.specs.Typed.{SourceFits, SourcesFit, AreVariables}
use Rattle.typed_heap.specs.Objects.{leaf_classes}
use Rattle.typed_heap.specs.Fits.{World, DefinitionFits, ScalarFits, ScalarsFit, ValueFits}
use Rattle.frames.specs.Activations.{Value}
use Rattle.mu_model.specs.Types.{type_graph, class_definition}
use Rattle.mu_model.specs.Operands.{all_some, scalar_in, is_integer, bits_of_width, bits_in}
use Rattle.mu_model.specs.Programs.{typed_values}
use Rattle.model_laws.specs.Values.{ValuesFit, TypedFit, HasGlobals}
use Rattle.model_laws.specs.Places.{IsScalarClass}
use Rattle.model_laws.specs.Lemmas.Basics.{some_is, some_of, some_at, some_more, and_then}
use Rattle.model_numbers.specs.Sources.{value_at, values_at, class_at, classes_at}
use Rattle.bundle_facts.specs.Lemmas.Accepted as facts
use Rattle.bundle_laws.specs.Lemmas.Tables.{tables_fit}
use Rattle.model_numbers.specs.Numbered.{kept_at}

abbrev pub graph_of : List Item → List TypeDef
graph_of bundle = type_graph (bundle_tables bundle)

variable_fits : (graph : List TypeDef) (w : World) (ks : List ℕ) (vs : List Value) (n c : ℕ) → ValuesFit graph w ks vs → slice_get ks n ≡ Some c → IsSomeAnd (slice_get vs n) (ValueFits graph w c)
variable_fits graph w [] vs n c h e = cc
variable_fits graph w (k ∷ ks) [] n c h e = absurd h
variable_fits graph w (k ∷ ks) (v ∷ vs) zero c h e = let same : k ≡ c = cc in subst (λ c. ValueFits graph w c v) same h.0
variable_fits graph w (k ∷ ks) (v ∷ vs) (suc n) c h e = variable_fits graph w ks vs n c h.1 e

all_more : {A : Type 0} (o : Option A) (a : A) (os : List (Option A)) (xs : List A) → o ≡ Some a → all_some os ≡ Some xs → all_some (o ∷ os) ≡ Some (a ∷ xs)
all_more o a os xs e f = rw (e, f) refl

-- a moment of an accepted bundle: what there is, and values that fit variables of these classes
pub record Moment (bundle : List Item) : Type 0 where
  pub names : first_unmet (name_demands bundle) ≡ None
  pub checked : first_unmet (check_demands bundle) ≡ None
  pub world : World
  pub globals : HasGlobals (bundle_tables bundle) world
  pub classes : List ℕ
  pub values : List Value
  pub fit : ValuesFit (type_graph (bundle_tables bundle)) world classes values

module _ (bundle : List Item) (r : Moment bundle) where
  pub source_fits : (s : Source) (c : ℕ) → SourceFits (bundle_tables bundle) r.classes s c → IsSomeAnd (value_at bundle r.values s) (ValueFits (graph_of bundle) r.world c)
  source_fits (sources.Variable n) c h = variable_fits (type_graph (bundle_tables bundle)) r.world r.classes r.values n c r.fit h
  source_fits (sources.Constant n) c h = facts.constant_values_fit bundle r.names r.checked n c h r.world
  source_fits (sources.GlobalCell n) c h =
      let cell = (tables_fit bundle r.names r.checked).cells n c h in
      let refers = facts.irefs_are_defined bundle r.names r.checked cell.0 c cell.1 in
      subst (λ ls. ScalarsFit (graph_of bundle) r.world ls (Place n 0 ∷ [])) (sym refers.leaf) (r.globals.places n c h, tt)
  source_fits (sources.Function n) c h = facts.function_values_fit bundle r.names r.checked r.world n c r.globals.functions h

  pub sources_fit : (ss : List Source) (cs : List ℕ) → SourcesFit (bundle_tables bundle) r.classes ss cs → IsSomeAnd (values_at bundle r.values ss) (ValuesFit (graph_of bundle) r.world cs)
  sources_fit [] [] h = tt
  sources_fit [] (c ∷ cs) h = absurd h
  sources_fit (s ∷ ss) [] h = absurd h
  sources_fit (s ∷ ss) (c ∷ cs) h =
      and_then (value_at bundle r.values s) _ (ValueFits (graph_of bundle) r.world c) _ (source_fits s c h.0) (λ v hv.
      and_then (values_at bundle r.values ss) _ (ValuesFit (graph_of bundle) r.world cs) _ (sources_fit ss cs h.1) (λ vs hvs. (hv, hvs)))

  -- the one scalar of a value of a class with one leaf
  pub one_leaf : (c k : ℕ) (d : TypeDef) (s : Source) → leaf_classes (graph_of bundle) c ≡ k ∷ [] → class_definition (bundle_tables bundle) k ≡ Some d → SourceFits (bundle_tables bundle) r.classes s c →
      IsSomeAnd (scalar_in (value_at bundle r.values s)) (DefinitionFits (graph_of bundle) r.world d)
  one_leaf c k d s leaf definition h =
      let here : (v : Value) × (value_at bundle r.values s ≡ Some v) × ValueFits (graph_of bundle) r.world c v = some_of _ (ValueFits (graph_of bundle) r.world c) (source_fits s c h) in
      subst (λ o. IsSomeAnd (scalar_in o) (DefinitionFits (graph_of bundle) r.world d)) (sym here.1)
      (by here.0 (subst (λ ls. ScalarsFit (graph_of bundle) r.world ls here.0) leaf here.2))
    where
      by : (v : Value) → ScalarsFit (graph_of bundle) r.world (k ∷ []) v → IsSomeAnd (scalar_in (Some v)) (DefinitionFits (graph_of bundle) r.world d)
      by [] h = absurd h
      by (s ∷ []) h = some_at _ (λ d. DefinitionFits (graph_of bundle) r.world d s) d definition h.0
      by (s ∷ r ∷ ss) h = absurd h.1

  pub one_scalar : (c : ℕ) (d : TypeDef) (s : Source) → IsScalarClass (bundle_tables bundle) c d → SourceFits (bundle_tables bundle) r.classes s c →
      IsSomeAnd (scalar_in (value_at bundle r.values s)) (DefinitionFits (graph_of bundle) r.world d)
  one_scalar c d s k h = one_leaf c c d s k.leaf k.definition h

  pub scalar_of : (c : ℕ) (d : TypeDef) (s : Source) → IsScalarClass (bundle_tables bundle) c d → SourceFits (bundle_tables bundle) r.classes s c →
      IsSomeAnd (scalar_in (value_at bundle r.values s)) (ScalarFits (graph_of bundle) r.world c)
  scalar_of c d s k h =
      some_more _ (DefinitionFits (graph_of bundle) r.world d) (ScalarFits (graph_of bundle) r.world c)
      (λ x hx. some_is _ (λ d. DefinitionFits (graph_of bundle) r.world d x) d k.definition hx) (one_scalar c d s k h)

  -- the bits of an integer
  pub bits_of_one : (width : ℕ) (o : Option Scalar) → 1 ≤ width → width ≤ 128 → IsSomeAnd o (DefinitionFits (graph_of bundle) r.world (types.Int width)) →
      IsSomeAnd (bits_of_width (Some width) o) (λ n. n < 2 ^ width)
  bits_of_one width o least most h = by o h
    where
      at : (x n : ℕ) → x ≡ width → n < 2 ^ width → IsSomeAnd (bits_of_width (Some width) (Some (Int x n))) (λ n. n < 2 ^ width)
      at x n same low =
          let test : (nat_eq width x && is_integer width n) ≡ true = grind (arith, nat_tests) in
          subst (λ b. IsSomeAnd (if b then Some n else None) (λ n. n < 2 ^ width)) (sym test) low

      by : (o : Option Scalar) → IsSomeAnd o (DefinitionFits (graph_of bundle) r.world (types.Int width)) → IsSomeAnd (bits_of_width (Some width) o) (λ n. n < 2 ^ width)
      by None h = absurd h
      by (Some (Int x n)) h = at x n h.0 h.1
      by (Some _) h = absurd h

  pub bits_fit : (c width : ℕ) (s : Source) → IsScalarClass (bundle_tables bundle) c (types.Int width) → 1 ≤ width → width ≤ 128 → SourceFits (bundle_tables bundle) r.classes s c →
      IsSomeAnd (bits_in (Some width) (value_at bundle r.values s)) (λ n. n < 2 ^ width)
  bits_fit c width s k least most h = bits_of_one width (scalar_in (value_at bundle r.values s)) least most (one_scalar c (types.Int width) s k h)

  -- ---- RET's classes, and values that are kept, among the classes of all variables of the block

  class_fits : (types : List ℕ) (s : Source) (c : ℕ) → ((n c : ℕ) → slice_get r.classes n ≡ Some c → slice_get types n ≡ Some c) → SourceFits (bundle_tables bundle) r.classes s c → class_at (bundle_tables bundle) types s ≡ Some c
  class_fits types (sources.Variable n) c more h = more n c h
  class_fits types (sources.Constant n) c more h = h
  class_fits types (sources.GlobalCell n) c more h = h
  class_fits types (sources.Function n) c more h = h

  pub classes_fit : (types : List ℕ) (ss : List Source) (cs : List ℕ) → ((n c : ℕ) → slice_get r.classes n ≡ Some c → slice_get types n ≡ Some c) → SourcesFit (bundle_tables bundle) r.classes ss cs →
      classes_at (bundle_tables bundle) types ss ≡ Some cs
  classes_fit types [] [] more h = refl
  classes_fit types [] (c ∷ cs) more h = absurd h
  classes_fit types (s ∷ ss) [] more h = absurd h
  classes_fit types (s ∷ ss) (c ∷ cs) more h = rw (class_fits types s c more h.0, classes_fit types ss cs more h.1) refl

  -- each variable has a class and a value
  all_kept : (types : List ℕ) (ns : List ℕ) → ((n c : ℕ) → slice_get r.classes n ≡ Some c → slice_get types n ≡ Some c) → AreVariables r.classes ns →
      (cs : List ℕ) × (vs : List Value) × (all_some (map (slice_get types) ns) ≡ Some cs) × (all_some (map (slice_get r.values) ns) ≡ Some vs) × ValuesFit (graph_of bundle) r.world cs vs
  all_kept types [] more h = ([], [], refl, refl, tt)
  all_kept types (n ∷ ns) more h =
      let c : (c : ℕ) × (slice_get r.classes n ≡ Some c) = there (slice_get r.classes n) h.0 in
      let v : (v : Value) × (slice_get r.values n ≡ Some v) × ValueFits (graph_of bundle) r.world c.0 v =
      some_of _ (ValueFits (graph_of bundle) r.world c.0) (variable_fits (graph_of bundle) r.world r.classes r.values n c.0 r.fit c.1) in
      let type : slice_get types n ≡ Some c.0 = more n c.0 c.1 in
      let rest = all_kept types ns more h.1 in
      (c.0 ∷ rest.0, v.0 ∷ rest.1, all_more (slice_get types n) c.0 (map (slice_get types) ns) rest.0 type rest.2, all_more (slice_get r.values n) v.0 (map (slice_get r.values) ns) rest.1 v.1 rest.3, (v.2, rest.4))
    where
      there : (o : Option ℕ) → is_some o ≡ true → (c : ℕ) × (o ≡ Some c)
      there None h = cc
      there (Some c) h = (c, refl)

  kept_of : (a : Option (List ℕ)) (b : Option (List Value)) → ((cs : List ℕ) × (vs : List Value) × (a ≡ Some cs) × (b ≡ Some vs) × ValuesFit (graph_of bundle) r.world cs vs) →
      IsSomeAnd (typed_values a b) (TypedFit (graph_of bundle) r.world)
  kept_of a b k = some_is (typed_values a b) (TypedFit (graph_of bundle) r.world) (record { types = k.0; values = k.1 }) (both_there a b k.0 k.1 k.2 k.3) k.4
    where
      both_there : (a : Option (List ℕ)) (b : Option (List Value)) (cs : List ℕ) (vs : List Value) → a ≡ Some cs → b ≡ Some vs → typed_values a b ≡ Some (record { types = cs; values = vs })
      both_there a b cs vs e f = rw (e, f) refl

  pub kept_fit : (types : List ℕ) (ns : List ℕ) → ((n c : ℕ) → slice_get r.classes n ≡ Some c → slice_get types n ≡ Some c) → AreVariables r.classes ns →
      IsSomeAnd (kept_at types r.values ns) (TypedFit (graph_of bundle) r.world)
  kept_fit types ns more h = kept_of (all_some (map (slice_get types) ns)) (all_some (map (slice_get r.values) ns)) (all_kept types ns more h)
