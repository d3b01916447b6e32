-- What a type that an instruction names says of the definition of its class.
use Rattle.std.proofs.Common.{◌≡◌, ◌≤◌, ℕ, true, List, [], ◌∷◌, Option, Some, None, refl, ◌∙◌, ap}
use Rattle.demands.specs.Demands.{first_unmet}
use Rattle.ir_tree.specs.declared.items.Item.{Item}
use Rattle.type_definitions.specs.declared.definition.TypeDef.{TypeDef}
use Rattle.type_definitions.specs.declared.definition.TypeDef.TheVariants as types
use Rattle.mu_values.specs.Constants.{width_of}
use Rattle.bundle_names.specs.Naming.{name_demands}
use Rattle.check_tables.specs.Types.{class_at, definition_at}
use Rattle.check_tables.specs.TypeTests.{is_int, is_scalar}
use Rattle.bundle_laws.specs.Typed.{HasType}
use Rattle.checked_code.specs.Checking.{bundle_tables, check_demands}
use Rattle.typed_heap.specs.Objects.{leaf_classes}
use Rattle.mu_model.specs.Types.{type_graph, class_definition}
use Rattle.model_laws.specs.Places.{IsScalarClass}
use Rattle.model_laws.specs.Lemmas.Basics.{some_of}
use Rattle.bundle_facts.specs.Lemmas.Accepted as facts
use Rattle.bundle_facts.specs.Facts.{AreShaped}

pub shaped_int : (g : List TypeDef) (w : ℕ) (d : TypeDef) → AreShaped g (types.Int w) d → d ≡ types.Int w
shaped_int g w (types.Int v) h = ap (λ (x : ℕ). types.Int x) h
shaped_int g w _ h = absurd h

-- the definitions of a scalar type and of its class are both of scalar types
pub shaped_scalar : (g : List TypeDef) (d k : TypeDef) → AreShaped g d k → is_scalar (Some d) ≡ true → is_scalar (Some k) ≡ true
shaped_scalar g (types.Struct fields) k h e = cc
shaped_scalar g (types.Array element size) k h e = cc
shaped_scalar g (types.Hybrid fixed element) k h e = cc
shaped_scalar g types.Void k h e = cc
shaped_scalar g (types.Sig takes gives) k h e = cc
shaped_scalar g (types.Int w) (types.Int v) h e = refl
shaped_scalar g (types.Ref t) (types.Ref u) h e = refl
shaped_scalar g (types.Iref t) (types.Iref u) h e = refl
shaped_scalar g (types.FuncRef t) (types.FuncRef u) h e = refl
shaped_scalar g types.StackRef types.StackRef h e = refl
shaped_scalar g types.ThreadRef types.ThreadRef h e = refl
shaped_scalar g _ _ h e = absurd h

module _ (bundle : List Item) (names : first_unmet (name_demands bundle) ≡ None) (checked : first_unmet (check_demands bundle) ≡ None) where
  -- a class of ints of a width
  pub record IsWide (c width : ℕ) : Type 0 where
    pub class : IsScalarClass (bundle_tables bundle) c (types.Int width)
    pub least : 1 ≤ width
    pub most : width ≤ 128

  -- the class of a type that is written as an int
  pub record IsInt (c number : ℕ) : Type 0 where
    pub width : ℕ
    pub written : definition_at (bundle_tables bundle).types number ≡ Some (types.Int width)
    pub wide : IsWide c width

  -- a scalar type that is its own class
  pub scalar_leaf : (t c : ℕ) → class_at (bundle_tables bundle).types t ≡ Some c → is_scalar (class_definition (bundle_tables bundle) c) ≡ true →
      leaf_classes (type_graph (bundle_tables bundle)) c ≡ c ∷ []
  scalar_leaf t c e h = (facts.leaves_of_classes bundle names checked).scalar c (facts.classes_are_defined bundle names checked t c e).class.own h

  -- the definition of the class, with its shape
  pub shaped : (t c : ℕ) (d : TypeDef) → class_at (bundle_tables bundle).types t ≡ Some c → definition_at (bundle_tables bundle).types t ≡ Some d →
      (k : TypeDef) × (class_definition (bundle_tables bundle) c ≡ Some k) × AreShaped (type_graph (bundle_tables bundle)) d k
  shaped t c d e written = some_of _ (AreShaped (type_graph (bundle_tables bundle)) d) (facts.have_one_shape bundle names checked t c d e written)

  pub int_is : (t c width : ℕ) → class_at (bundle_tables bundle).types t ≡ Some c → definition_at (bundle_tables bundle).types t ≡ Some (types.Int width) → IsWide c width
  int_is t c width e written =
      let r = shaped t c (types.Int width) e written in
      let definition : class_definition (bundle_tables bundle) c ≡ Some (types.Int width) = r.1 ∙ ap (λ (d : TypeDef). Some d) (shaped_int (type_graph (bundle_tables bundle)) width r.0 r.2) in
      let allowed = facts.widths_are_allowed bundle names checked c width (ap width_of definition) in
      record {
        class = record { leaf = scalar_leaf t c e (ap is_scalar definition); definition = definition };
        least = allowed.0;
        most = allowed.1;
      }

  pub int_class : (c : ℕ) → (h : HasType (bundle_tables bundle) is_int c) → IsInt c h.number
  int_class c h = by (definition_at (bundle_tables bundle).types h.number) refl h.passes (λ w e. record { width = w; written = e; wide = int_is h.number c w h.class e })
    where
      by : (o : Option TypeDef) → definition_at (bundle_tables bundle).types h.number ≡ o → is_int o ≡ true →
          ((w : ℕ) → definition_at (bundle_tables bundle).types h.number ≡ Some (types.Int w) → IsInt c h.number) → IsInt c h.number
      by (Some (types.Int width)) e k f = f width e
      by _ e k f = cc

  pub scalar_class : (c : ℕ) → HasType (bundle_tables bundle) is_scalar c → (d : TypeDef) × IsScalarClass (bundle_tables bundle) c d
  scalar_class c h = by (definition_at (bundle_tables bundle).types h.number) refl h.passes (λ d e. shaped h.number c d h.class e) (λ e. scalar_leaf h.number c h.class e)
    where
      by : (o : Option TypeDef) → definition_at (bundle_tables bundle).types h.number ≡ o → is_scalar o ≡ true →
          ((d : TypeDef) → definition_at (bundle_tables bundle).types h.number ≡ Some d →
          (k : TypeDef) × (class_definition (bundle_tables bundle) c ≡ Some k) × AreShaped (type_graph (bundle_tables bundle)) d k) →
          (is_scalar (class_definition (bundle_tables bundle) c) ≡ true → leaf_classes (type_graph (bundle_tables bundle)) c ≡ c ∷ []) →
          (d : TypeDef) × IsScalarClass (bundle_tables bundle) c d
      by None e passes f leaf = cc
      by (Some d) e passes f leaf =
          let k = f d e in
          (k.0, record { leaf = leaf (ap is_scalar k.1 ∙ shaped_scalar (type_graph (bundle_tables bundle)) d k.0 k.2 passes); definition = k.1 })
