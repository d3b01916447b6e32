-- Values that fit.
use Rattle.std.specs.Prelude.{◌≡◌, ◌≤◌, ◌<◌, ℕ, true, List, [], ◌∷◌, ◌++◌, Some, IsSomeAnd, length, slice_get, ◌||◌, ◌&&◌, ◌==◌, nat_lt, drop}
use Rattle.std.proofs.Common.{sym, ◌∙◌, subst, arith}
use Rattle.type_definitions.specs.declared.definition.TypeDef.{TypeDef}
use Rattle.type_definitions.specs.Class.{class_of}
use Rattle.type_definitions.specs.declared.definition.TypeDef.TheVariants as types
use Rattle.mu_values.specs.declared.scalars.Scalar.{Scalar}
use Rattle.mu_values.specs.declared.scalars.Scalar.TheVariants.{Int, Null, Object, Place, Func, Stack, Thread}
use Rattle.check_tables.specs.declared.tables.Tables.{Tables}
use Rattle.frames.specs.Activations.{Value}
use Rattle.model_laws.specs.Lemmas.Basics.{some_more, some_of}
use Rattle.model_laws.specs.Values.{HasGlobals, ValuesFit}
use Rattle.mu_model.specs.Types.{type_graph}
use Rattle.typed_heap.specs.Fits.{DefinitionFits, ScalarFits, ScalarsFit, World, fits}
use Rattle.typed_heap.specs.Objects.{HeapObject, leaf_classes}

-- what was made is there later too: objects keep their leaves, the functions stay, and the rest becomes more
pub record Grows (w v : World) : Type 0 where
  pub objects : (n : ℕ) (o : HeapObject) → slice_get w.objects n ≡ Some o → IsSomeAnd (slice_get v.objects n) (λ q. q.leaves ≡ o.leaves)
  pub signatures : w.signatures ≡ v.signatures
  pub stacks : w.stacks ≤ v.stacks
  pub threads : w.threads ≤ v.threads

-- ---- more was made

leaves_more : (w v : World) (n : ℕ) (P : List ℕ → Type 0) → Grows w v → IsSomeAnd (slice_get w.objects n) (λ (o : HeapObject). P o.leaves) → IsSomeAnd (slice_get v.objects n) (λ (o : HeapObject). P o.leaves)
leaves_more w v n P g h =
    let r : (o : HeapObject) × (slice_get w.objects n ≡ Some o) × P o.leaves = some_of _ (λ (o : HeapObject). P o.leaves) h in
    some_more _ (λ q. q.leaves ≡ r.0.leaves) (λ (q : HeapObject). P q.leaves) (λ q e. subst P (sym e) r.2) (g.objects n r.0 r.1)

pub definition_more : (graph : List TypeDef) (w v : World) (d : TypeDef) (s : Scalar) → Grows w v → DefinitionFits graph w d s → DefinitionFits graph v d s
definition_more graph w v (types.Int width) (Int x n) g h = h
definition_more graph w v (types.Ref t) Null g h = h
definition_more graph w v (types.Ref t) (Object n) g h = leaves_more w v n (λ ls. fits graph t ls ≡ true) g h
definition_more graph w v (types.Iref t) Null g h = h
definition_more graph w v (types.Iref t) (Place n at) g h = leaves_more w v n (λ ls. (at == length ls) || (nat_lt at (length ls) && fits graph t (drop at ls)) ≡ true) g h
definition_more graph w v (types.FuncRef s) Null g h = h
definition_more graph w v (types.FuncRef s) (Func f) g h = subst (λ fs. IsSomeAnd (slice_get fs f) (λ k. k ≡ class_of graph s)) g.signatures h
definition_more graph w v types.StackRef Null g h = h
definition_more graph w v types.StackRef (Stack k) g h = omega (arith, g.stacks, h)
definition_more graph w v types.ThreadRef Null g h = h
definition_more graph w v types.ThreadRef (Thread i) g h = omega (arith, g.threads, h)
definition_more graph w v _ _ g h = absurd h

pub scalar_more : (graph : List TypeDef) (w v : World) (c : ℕ) (s : Scalar) → Grows w v → ScalarFits graph w c s → ScalarFits graph v c s
scalar_more graph w v c s g h = some_more _ (λ d. DefinitionFits graph w d s) (λ d. DefinitionFits graph v d s) (λ d k. definition_more graph w v d s g k) h

pub scalars_more : (graph : List TypeDef) (w v : World) (cs : List ℕ) (ss : List Scalar) → Grows w v → ScalarsFit graph w cs ss → ScalarsFit graph v cs ss
scalars_more graph w v [] [] g h = h
scalars_more graph w v [] (s ∷ ss) g h = h
scalars_more graph w v (c ∷ cs) [] g h = h
scalars_more graph w v (c ∷ cs) (s ∷ ss) g h = (scalar_more graph w v c s g h.0, scalars_more graph w v cs ss g h.1)

pub values_more : (graph : List TypeDef) (w v : World) (cs : List ℕ) (vs : List Value) → Grows w v → ValuesFit graph w cs vs → ValuesFit graph v cs vs
values_more graph w v [] [] g h = h
values_more graph w v [] (s ∷ ss) g h = h
values_more graph w v (c ∷ cs) [] g h = h
values_more graph w v (c ∷ cs) (s ∷ ss) g h = (scalars_more graph w v (leaf_classes graph c) s g h.0, values_more graph w v cs ss g h.1)

pub globals_more : (p : Tables) (w v : World) → Grows w v → HasGlobals p w → HasGlobals p v
globals_more p w v g h = record { functions = sym g.signatures ∙ h.functions; places = λ n c e. scalar_more (type_graph p) w v c (Place n 0) g (h.places n c e) }

-- ---- lists

pub values_append : (graph : List TypeDef) (w : World) (cs ds : List ℕ) (vs us : List Value) → ValuesFit graph w cs vs → ValuesFit graph w ds us → ValuesFit graph w (cs ++ ds) (vs ++ us)
values_append graph w [] ds [] us h k = k
values_append graph w [] ds (v ∷ vs) us h k = absurd h
values_append graph w (c ∷ cs) ds [] us h k = absurd h
values_append graph w (c ∷ cs) ds (v ∷ vs) us h k = (h.0, values_append graph w cs ds vs us h.1 k)

-- a value of one scalar
pub one_fits : (graph : List TypeDef) (w : World) (c : ℕ) (s : Scalar) → leaf_classes graph c ≡ c ∷ [] → ScalarFits graph w c s → ValuesFit graph w (c ∷ []) ((s ∷ []) ∷ [])
one_fits graph w c s leaf h = (subst (λ ls. ScalarsFit graph w ls (s ∷ [])) (sym leaf) (h, tt), tt)
