-- The constants of an accepted bundle: the value of each fits its class.
use Rattle.std.proofs.Common.{◌≡◌, true, ℕ, zero, suc, ◌<◌, List, [], ◌∷◌, Option, Some, None, IsSomeAnd, slice_get, length, map, refl, sym, ◌∙◌, ap, subst, arith}
use Rattle.std.proofs.lemmas.List.{length-map}
use Rattle.std.proofs.lemmas.Option.{slice_get_within, slice_get-get_or}
use Rattle.demands.specs.Demands.{AllMet, first_unmet}
use Rattle.name_scopes.specs.Names.{found}
use Rattle.ir_lex.specs.declared.name.Name.{Name}
use Rattle.bundle_names.specs.Uses.{is_type}
use Rattle.demands.specs.Lemmas.Meeting.{all_met}
use Rattle.ir_tree.specs.declared.items.Item.{Item}
use Rattle.ir_tree.specs.declared.items.Item.TheVariants as items
use Rattle.type_definitions.specs.declared.definition.TypeDef.{TypeDef}
use Rattle.type_definitions.specs.declared.definition.TypeDef.TheVariants as types
use Rattle.type_definitions.specs.Same.{IsGraph}
use Rattle.type_definitions.specs.Class.{class_of}
use Rattle.type_definitions.specs.Leaves.{leaves}
use Rattle.type_definitions.specs.Scalars.{is_scalar}
use Rattle.mu_types.specs.Graph.{Table}
use Rattle.mu_values.specs.declared.scalars.Scalar.{Scalar}
use Rattle.mu_values.specs.declared.scalars.Scalar.TheVariants.{Int, Null}
use Rattle.mu_values.specs.Constants.{constant_value}
use Rattle.bundle_names.specs.declared.globals.Globals.{Globals}
use Rattle.bundle_names.specs.Globals.{globals_of}
use Rattle.bundle_names.specs.Naming.{name_demands}
use Rattle.bundle_names.specs.ItemUses.{item_uses}
use Rattle.checked_code.specs.Graph.{type_id, table_of}
use Rattle.checked_code.specs.Rules.{literal_of}
use Rattle.checked_code.specs.Entries.{noted_type, constant_entries, tables_of}
use Rattle.checked_code.specs.declared.constants.Constant.{Constant}
use Rattle.checked_code.specs.ConstantValues.{told, values_to}
use Rattle.checked_code.specs.Constants.{constants_of, constant_values}
use Rattle.checked_code.specs.ConstantFits.{IsOfWidth, IsNull, FitsLeaf, FitsLeaves}
use Rattle.checked_code.specs.ConstantMembers.{Lawful, value_of}
use Rattle.checked_code.specs.Lemmas.ConstantMembers.{holds_at}
use Rattle.checked_code.specs.Lemmas.ConstantsFitting.{all_fit}
use Rattle.checked_code.specs.Checking.{bundle_tables, check_demands}
use Rattle.typed_heap.specs.Objects.{leaf_classes}
use Rattle.typed_heap.specs.Fits.{World, DefinitionFits, ScalarFits, ScalarsFit, ValueFits}
use Rattle.typed_heap.specs.Lemmas.Fitted.{some_and}
use Rattle.bundle_laws.specs.Lemmas.Bodies.{some_is}
use Rattle.bundle_facts.specs.Facts.{IsClassOf, AreShaped}
use Rattle.bundle_facts.specs.Lemmas.Shapes.{class_shape, class_within, class_own, is_class, leaves_of_parts}
use Rattle.bundle_facts.specs.Lemmas.Told.{int_told, ref_told, iref_told, funcref_told, stackref_told, threadref_told}
use Rattle.bundle_facts.specs.Lemmas.Completed.{lawful}
use Rattle.bundle_facts.specs.Lemmas.Signatures.{noted_is}

-- ---- a scalar that fits a leaf fits its class

int_fits : (g : List TypeDef) (w : World) (width : ℕ) (s : Scalar) → IsOfWidth width s → DefinitionFits g w (types.Int width) s
int_fits g w width (Int v bits) h = h
int_fits g w width s h = absurd h

ref_fits : (g : List TypeDef) (w : World) (t : ℕ) (s : Scalar) → IsNull s → DefinitionFits g w (types.Ref t) s
ref_fits g w t Null h = tt
ref_fits g w t s h = absurd h

iref_fits : (g : List TypeDef) (w : World) (t : ℕ) (s : Scalar) → IsNull s → DefinitionFits g w (types.Iref t) s
iref_fits g w t Null h = tt
iref_fits g w t s h = absurd h

funcref_fits : (g : List TypeDef) (w : World) (t : ℕ) (s : Scalar) → IsNull s → DefinitionFits g w (types.FuncRef t) s
funcref_fits g w t Null h = tt
funcref_fits g w t s h = absurd h

stackref_fits : (g : List TypeDef) (w : World) (s : Scalar) → IsNull s → DefinitionFits g w types.StackRef s
stackref_fits g w Null h = tt
stackref_fits g w s h = absurd h

threadref_fits : (g : List TypeDef) (w : World) (s : Scalar) → IsNull s → DefinitionFits g w types.ThreadRef s
threadref_fits g w Null h = tt
threadref_fits g w s h = absurd h

leaf_fits : (g : List TypeDef) (w : World) (l : ℕ) (o : Option TypeDef) (s : Scalar) → IsGraph g → slice_get g l ≡ o → FitsLeaf o s → ScalarFits g w (class_of g l) s
leaf_fits g w l o s i e h = by o e h
  where
    fits : (d : TypeDef) → slice_get g (class_of g l) ≡ Some d → DefinitionFits g w d s → ScalarFits g w (class_of g l) s
    fits d there f = some_and (λ (d : TypeDef). DefinitionFits g w d s) (slice_get g (class_of g l)) d there f

    shape : (d : TypeDef) → slice_get g l ≡ Some d → IsSomeAnd (slice_get g (class_of g l)) (AreShaped g d)
    shape d there =
        let within : l < length g = slice_get_within g l d there in
        class_shape g i l (class_of g l) d within (class_within g i l within) (sym (class_own g i l within)) there

    by : (o : Option TypeDef) → slice_get g l ≡ o → FitsLeaf o s → ScalarFits g w (class_of g l) s
    by (Some (types.Int width)) e h = fits (types.Int width) (int_told g width (slice_get g (class_of g l)) (shape (types.Int width) e)) (int_fits g w width s h)
    by (Some (types.Ref t)) e h = let k = ref_told g t (slice_get g (class_of g l)) (shape (types.Ref t) e) in fits (types.Ref k.0) k.1 (ref_fits g w k.0 s h)
    by (Some (types.Iref t)) e h = let k = iref_told g t (slice_get g (class_of g l)) (shape (types.Iref t) e) in fits (types.Iref k.0) k.1 (iref_fits g w k.0 s h)
    by (Some (types.FuncRef t)) e h = let k = funcref_told g t (slice_get g (class_of g l)) (shape (types.FuncRef t) e) in fits (types.FuncRef k.0) k.1 (funcref_fits g w k.0 s h)
    by (Some types.StackRef) e h = fits types.StackRef (stackref_told g (slice_get g (class_of g l)) (shape types.StackRef e)) (stackref_fits g w s h)
    by (Some types.ThreadRef) e h = fits types.ThreadRef (threadref_told g (slice_get g (class_of g l)) (shape types.ThreadRef e)) (threadref_fits g w s h)
    by o e h = absurd h

leaves_fit : (g : List TypeDef) (w : World) (ls : List ℕ) (ss : List Scalar) → IsGraph g → FitsLeaves g ls ss → ScalarsFit g w (map (class_of g) ls) ss
leaves_fit g w [] [] i h = tt
leaves_fit g w [] (s ∷ ss) i h = absurd h
leaves_fit g w (l ∷ ls) [] i h = absurd h
leaves_fit g w (l ∷ ls) (s ∷ ss) i h = (leaf_fits g w l (slice_get g l) s i refl h.0, leaves_fit g w ls ss i h.1)

-- ---- constants by number

-- the constant with a number, and its class
record ConstantOf (bundle : List Item) (n c : ℕ) : Type 0 where
  constant : Constant
  there : slice_get (constants_of (globals_of bundle) bundle) n ≡ Some constant
  class : class_of (table_of (globals_of bundle) bundle).definitions constant.of_type ≡ c

constant_at : (t : Table) (g : Globals) (is : List Item) (n c : ℕ) → ((m : Name) → is_type (found g.names m.text) ≡ true → noted_type t g m ≡ class_of t.definitions (type_id g m)) →
    AllMet (item_uses g.names is) → slice_get (constant_entries t g is) n ≡ Some c → (k : Constant) × (slice_get (constants_of g is) n ≡ Some k) × (class_of t.definitions k.of_type ≡ c)
constant_at t g [] n c noted met h = cc
constant_at t g (items.Typedef d ∷ is) n c noted met h = constant_at t g is n c noted met.1 h
constant_at t g (items.Funcsig d ∷ is) n c noted met h = constant_at t g is n c noted met.1 h
constant_at t g (items.GlobalCell d ∷ is) n c noted met h = constant_at t g is n c noted met.1 h
constant_at t g (items.Funcdecl d ∷ is) n c noted met h = constant_at t g is n c noted met.1 h
constant_at t g (items.Funcdef d ∷ is) n c noted met h = constant_at t g is n c noted met.1 h
constant_at t g (items.Const d ∷ is) zero c noted met h =
    (record { of_type = type_id g d.of_type; literal = literal_of g d.literal }, refl, sym (noted d.of_type met.0.0.1) ∙ some_is (noted_type t g d.of_type) c h)
constant_at t g (items.Const d ∷ is) (suc n) c noted met h = constant_at t g is n c noted met.1 h

constant_of : (bundle : List Item) (n c : ℕ) → first_unmet (name_demands bundle) ≡ None → slice_get (bundle_tables bundle).constants n ≡ Some c → ConstantOf bundle n c
unfolding tables_of
constant_of bundle n c names h =
    let g = globals_of bundle in
    let found = constant_at (table_of g bundle) g bundle n c (λ m e. noted_is bundle m e) (all_met (name_demands bundle) names).1 h in
    record { constant = found.0; there = found.1; class = found.2 }

-- ---- their values

as_many_values : (g : List TypeDef) (cs : List Constant) (depth : ℕ) → 0 < depth → length (values_to g cs depth) ≡ length cs
unfolding values_to
as_many_values g cs zero l = absurd (omega (arith, l))
as_many_values g cs (suc depth) l = length-map cs (λ (c : Constant). constant_value g (told (values_to g cs depth)) c.of_type c.literal)

-- the value of a constant by its number
value_there : (g : List TypeDef) (cs : List Constant) (n : ℕ) (k : Constant) → Lawful g cs → slice_get cs n ≡ Some k → slice_get (values_to g cs (length g)) n ≡ Some (value_of g cs n)
value_there g cs n k law e =
    let many : length (values_to g cs (length g)) ≡ length cs = as_many_values g cs (length g) law.some in
    slice_get-get_or (values_to g cs (length g)) n [] (omega (arith, many, slice_get_within cs n k e))

pub constant_class : (bundle : List Item) (n c : ℕ) → first_unmet (name_demands bundle) ≡ None → first_unmet (check_demands bundle) ≡ None →
    slice_get (bundle_tables bundle).constants n ≡ Some c → IsClassOf (bundle_tables bundle).types.definitions c c
unfolding tables_of
constant_class bundle n c names checked h =
    let of : ConstantOf bundle n c = constant_of bundle n c names h in
    let law = lawful bundle checked in
    let g = (bundle_tables bundle).types.definitions in
    let t : ℕ = of.constant.of_type in
    let low : t < length g = holds_at (λ (k : Constant). k.of_type < length g) (constants_of (globals_of bundle) bundle) n of.constant law.typed of.there in
    let own : IsClassOf g (class_of g t) (class_of g (class_of g t)) = is_class g law.graph (class_of g t) (class_within g law.graph t low) in
    subst (λ (x : ℕ). IsClassOf g x x) of.class (subst (λ (x : ℕ). IsClassOf g (class_of g t) x) (class_own g law.graph t low) own)

pub constant_fits : (bundle : List Item) (n c : ℕ) → first_unmet (name_demands bundle) ≡ None → first_unmet (check_demands bundle) ≡ None →
    slice_get (bundle_tables bundle).constants n ≡ Some c → (w : World) → (v : List Scalar) × (slice_get (constant_values (bundle_tables bundle) bundle) n ≡ Some v) × ValueFits (bundle_tables bundle).types.definitions w c v
unfolding tables_of
constant_fits bundle n c names checked h w =
    let of : ConstantOf bundle n c = constant_of bundle n c names h in
    let law = lawful bundle checked in
    let g = (bundle_tables bundle).types.definitions in
    let cs = constants_of (globals_of bundle) bundle in
    let t : ℕ = of.constant.of_type in
    let low : t < length g = holds_at (λ (k : Constant). k.of_type < length g) cs n of.constant law.typed of.there in
    let fits : ScalarsFit g w (leaf_classes g t) (value_of g cs n) = leaves_fit g w (leaves g t) (value_of g cs n) law.graph (all_fit g cs law n of.constant of.there) in
    let leaves_same : leaf_classes g t ≡ leaf_classes g (class_of g t) = sym (is_class g law.graph t low).leaves in
    let fits_class : ValueFits g w (class_of g t) (value_of g cs n) = subst (λ (ls : List ℕ). ScalarsFit g w ls (value_of g cs n)) leaves_same fits in
    (value_of g cs n, value_there g cs n of.constant law of.there, subst (λ (x : ℕ). ValueFits g w x (value_of g cs n)) of.class fits_class)

-- an int has one scalar
one_scalar : (g : List TypeDef) (w : World) (c width : ℕ) (v : List Scalar) → slice_get g c ≡ Some (types.Int width) → ScalarsFit g w (c ∷ []) v → (bits : ℕ) × (v ≡ Int width bits ∷ [])
one_scalar g w c width [] e h = absurd h
one_scalar g w c width (s ∷ t ∷ ss) e h = absurd h.1
one_scalar g w c width (s ∷ []) e h = by s (subst (λ (o : Option TypeDef). IsSomeAnd o (λ d. DefinitionFits g w d s)) e h.0)
  where
    by : (s : Scalar) → DefinitionFits g w (types.Int width) s → (bits : ℕ) × ((s ∷ []) ≡ Int width bits ∷ [])
    by (Int v bits) k = (bits, ap (λ (x : ℕ). Int x bits ∷ []) k.0)
    by s k = absurd k

pub int_constant : (bundle : List Item) (n c width : ℕ) → first_unmet (name_demands bundle) ≡ None → first_unmet (check_demands bundle) ≡ None →
    slice_get (bundle_tables bundle).constants n ≡ Some c → slice_get (bundle_tables bundle).types.definitions c ≡ Some (types.Int width) →
    (bits : ℕ) × (slice_get (constant_values (bundle_tables bundle) bundle) n ≡ Some (Int width bits ∷ []))
int_constant bundle n c width names checked h e =
    let g = (bundle_tables bundle).types.definitions in
    let law = lawful bundle checked in
    let w : World = record { objects = []; signatures = []; stacks = 0; threads = 0 } in
    let value = constant_fits bundle n c names checked h w in
    let class : IsClassOf g c c = constant_class bundle n c names checked h in
    let leaf : leaf_classes g c ≡ c ∷ [] = (leaves_of_parts g law.graph law.finite).scalar c class.own (ap is_scalar e) in
    let one = one_scalar g w c width value.0 e (subst (λ (ls : List ℕ). ScalarsFit g w ls value.0) leaf value.2) in
    (one.0, value.1 ∙ ap (λ (v : List Scalar). Some v) one.1)
