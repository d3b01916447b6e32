-- Instructions that compute do what fits.
use Rattle.std.proofs.Common.{◌≡◌, ◌<◌, ◌≤◌, ◌^◌, ◌&&◌, nat_le, nat_eq, ℕ, Bool, true, false, List, [], ◌∷◌, Option, Some, None, IsSomeAnd, if◌then◌else◌, refl, sym, ◌∙◌, ap, subst, arith}
use Rattle.std.proofs.lemmas.Bool.Decides.{nat_tests}
use Rattle.ir_tree.specs.declared.items.Item.{Item}
use Rattle.type_definitions.specs.declared.definition.TypeDef.{TypeDef}
use Rattle.type_definitions.specs.declared.definition.TypeDef.TheVariants as types
use Rattle.mu_values.specs.declared.scalars.Scalar.{Scalar}
use Rattle.mu_values.specs.declared.scalars.Scalar.TheVariants.{Int}
use Rattle.mu_base.specs.declared.operators.BinaryOp.{BinaryOp}
use Rattle.mu_base.specs.declared.operators.CompareOp.{CompareOp}
use Rattle.mu_base.specs.declared.operators.CompareOp.TheVariants as comparisons
use Rattle.mu_base.specs.declared.operators.ConvertOp.{ConvertOp}
use Rattle.mu_base.specs.declared.operators.ConvertOp.TheVariants as conversions
use Rattle.mu_values.specs.Constants.{width_of}
use Rattle.mu_values.specs.Integers.{binary_value, converted, lesser_first, IsConversion}
use Rattle.mu_values.specs.Comparisons.{compared}
use Rattle.mu_values.specs.Lemmas.Widths.{binary_below, converted_below}
use Rattle.check_tables.specs.Types.{int1, definition_at}
use Rattle.check_tables.specs.TypeTests.{is_scalar}
use Rattle.checked_code.specs.Checking.{bundle_tables}
use Rattle.checked_code.specs.declared.code.Source.{Source}
use Rattle.checked_code.specs.declared.code.ComputationForm.TheVariants as computing
use Rattle.checked_code.specs.Computations.{compares, converts}
use Rattle.bundle_laws.specs.Typed.{ComputationFits}
use Rattle.typed_heap.specs.Fits.{World, DefinitionFits, ValueFits}
use Rattle.typed_heap.specs.Places.{with_some}
use Rattle.frames.specs.Activations.{Value}
use Rattle.mu_model.specs.Types.{class_width}
use Rattle.mu_model.specs.Acts as acts
use Rattle.mu_model.specs.Acts.{Act}
use Rattle.mu_model.specs.Operands.{scalar_in, is_integer, bits_in}
use Rattle.mu_model.specs.ComputationForms.{result_or_fault, binary_act, bit, are_comparable, compare_act, leads_to, convert_act, select_act}
use Rattle.model_laws.specs.Places.{IsScalarClass}
use Rattle.model_laws.specs.ActsFit.{ActFits}
use Rattle.model_laws.specs.Lemmas.Basics.{some_is, and_then}
use Rattle.model_laws.specs.Lemmas.Fitting.{one_fits}
use Rattle.model_numbers.specs.Sources.{value_at}
use Rattle.model_numbers.specs.Numbered.{numbered}
use Rattle.bundle_facts.specs.Lemmas.Accepted as facts
use Rattle.typed_programs.specs.PlacesOf.{places_of}
use Rattle.typed_programs.specs.Lemmas.Classes.{int_class, int_is, scalar_class}
use Rattle.typed_programs.specs.Lemmas.Sources.{graph_of, Moment, source_fits, one_scalar, bits_fit}

-- an act fits its place of the bundle; and an instruction there has one
abbrev pub FitsAt : (bundle : List Item) → World → ℕ → ℕ → Act → Type 0
FitsAt bundle w block at act = ActFits (numbered bundle) (places_of bundle) w block at act

abbrev pub DoesFit : (bundle : List Item) → World → ℕ → ℕ → Option Act → Type 0
DoesFit bundle w block at act = IsSomeAnd act (FitsAt bundle w block at)

abbrev pub GivesAt : List Item → ℕ → ℕ → List ℕ → Type 0
GivesAt bundle block at gs = (places_of bundle).gives block at ≡ Some gs

pub known_then : {A B : Type 0} (o : Option A) (a : A) (f : A → Option B) (Q : B → Type 0) → o ≡ Some a → IsSomeAnd (f a) Q → IsSomeAnd (with_some o f) Q
known_then o a f Q e h = subst (λ x. IsSomeAnd (with_some x f) Q) (sym e) h

pub gives_one : (bundle : List Item) (w : World) (block at c : ℕ) (d : TypeDef) (s : Scalar) (gs : List ℕ) → IsScalarClass (bundle_tables bundle) c d → DefinitionFits (graph_of bundle) w d s →
    gs ≡ c ∷ [] → GivesAt bundle block at gs → FitsAt bundle w block at (acts.Gives ((s ∷ []) ∷ []))
gives_one bundle w block at c d s gs k h same gives = some_is _ _ (c ∷ []) (gives ∙ ap (λ cs. Some cs) same) (one_fits (graph_of bundle) w c s k.leaf (some_is _ _ d k.definition h))

-- ---- tests that well typed operands pass

pub integers_compare : (v m n : ℕ) → 1 ≤ v → v ≤ 128 → m < 2 ^ v → n < 2 ^ v → (nat_eq v v && is_integer v m && is_integer v n) ≡ true
integers_compare v m n least most low also = grind (arith, nat_tests)

comparable : (graph : List TypeDef) (w : World) (d : TypeDef) (x y : Scalar) → DefinitionFits graph w d x → DefinitionFits graph w d y →
    ((v : ℕ) → d ≡ types.Int v → (1 ≤ v) × (v ≤ 128)) → are_comparable x y ≡ true
comparable graph w (types.Int v) (Int x m) (Int y n) h k allowed =
    let a = allowed v refl in
    rw (h.0, k.0) (integers_compare v m n a.0 a.1 h.1 k.1)
comparable graph w d (Int x m) (Int y n) h k allowed = absurd h
comparable graph w d x y h k allowed = refl

compares_scalars : (op : CompareOp) (d : Option TypeDef) → compares op d ≡ true → is_scalar d ≡ true
compares_scalars comparisons.Eq d h = h
compares_scalars comparisons.Ne d h = h
compares_scalars op (Some (types.Int v)) h = refl
compares_scalars op _ h = cc

bit_below : (b : Bool) → bit b < 2 ^ 1
bit_below true = omega arith
bit_below false = omega arith

-- ---- conversions

at_most : (m n : ℕ) → nat_le m n ≡ true → m ≤ n
at_most m n h = grind (arith, nat_tests)

converted_int : (op : ConvertOp) (o : Option TypeDef) (w : ℕ) → converts op (Some (types.Int w)) o ≡ true → (v : ℕ) × (o ≡ Some (types.Int v)) × IsConversion op w v
converted_int op (Some (types.Int v)) w h = (v, refl, at_most (lesser_first op w v).0 (lesser_first op w v).1 h)
converted_int op _ w h = cc

leads : (op : ConvertOp) (w v : ℕ) → IsConversion op w v → 1 ≤ v → v ≤ 128 → leads_to op w v ≡ true
leads conversions.Trunc w v h least most = grind (arith, nat_tests)
leads conversions.Zext w v h least most = grind (arith, nat_tests)
leads conversions.Sext w v h least most = grind (arith, nat_tests)

module _ (bundle : List Item) (r : Moment bundle) (block at : ℕ) where
  -- the result of an operation, or a zero divisor
  pub binary_fits : (op : BinaryOp) (c : ℕ) (a b : Source) (gs : List ℕ) → ComputationFits (bundle_tables bundle) r.classes (computing.Binary op c a b) gs → GivesAt bundle block at gs →
      DoesFit bundle r.world block at (binary_act (bundle_tables bundle) op c (value_at bundle r.values a) (value_at bundle r.values b))
  binary_fits op c a b gs h gives =
      let k = int_class bundle r.names r.checked c h.0 in
      known_then (class_width (bundle_tables bundle) c) k.width _ _ (ap width_of k.wide.class.definition)
      (and_then (bits_in (Some k.width) (value_at bundle r.values a)) _ (λ n. n < 2 ^ k.width) _ (bits_fit bundle r c k.width a k.wide.class k.wide.least k.wide.most h.1) (λ m low.
      and_then (bits_in (Some k.width) (value_at bundle r.values b)) _ (λ n. n < 2 ^ k.width) _ (bits_fit bundle r c k.width b k.wide.class k.wide.least k.wide.most h.2) (λ n also.
      result k.width k.wide.class (binary_value op k.width m n) (λ x e. binary_below op k.width m n x low also e))))
    where
      result : (width : ℕ) → IsScalarClass (bundle_tables bundle) c (types.Int width) → (o : Option ℕ) → ((x : ℕ) → o ≡ Some x → x < 2 ^ width) → FitsAt bundle r.world block at (result_or_fault width o)
      result width k None low = tt
      result width k (Some x) low = gives_one bundle r.world block at c (types.Int width) (Int width x) gs k (refl, low x refl) h.3 gives

  pub compare_fits : (op : CompareOp) (c : ℕ) (a b : Source) (gs : List ℕ) → ComputationFits (bundle_tables bundle) r.classes (computing.Compare op c a b) gs → GivesAt bundle block at gs →
      DoesFit bundle r.world block at (compare_act op (value_at bundle r.values a) (value_at bundle r.values b))
  compare_fits op c a b gs h gives =
      let k = scalar_class bundle r.names r.checked c (record { number = h.0.number; class = h.0.class; passes = compares_scalars op _ h.0.passes }) in
      and_then (scalar_in (value_at bundle r.values a)) _ (DefinitionFits (graph_of bundle) r.world k.0) _ (one_scalar bundle r c k.0 a k.1 h.1) (λ x hx.
      and_then (scalar_in (value_at bundle r.values b)) _ (DefinitionFits (graph_of bundle) r.world k.0) _ (one_scalar bundle r c k.0 b k.1 h.2) (λ y hy.
      let test = comparable (graph_of bundle) r.world k.0 x y hx hy (λ v e. facts.widths_are_allowed bundle r.names r.checked c v (ap width_of (k.1.definition ∙ ap (λ d. Some d) e))) in
      rw test (gives_one bundle r.world block at (int1 (bundle_tables bundle).types) (types.Int 1) (Int 1 (bit (compared op x y))) gs (facts.types_are_there bundle r.names r.checked).int1
      (refl, bit_below (compared op x y)) h.3 gives)))

  pub convert_fits : (op : ConvertOp) (c d : ℕ) (a : Source) (gs : List ℕ) → ComputationFits (bundle_tables bundle) r.classes (computing.Convert op c d a) gs → GivesAt bundle block at gs →
      DoesFit bundle r.world block at (convert_act (bundle_tables bundle) op c d (value_at bundle r.values a))
  convert_fits op c d a gs h gives =
      let k = int_class bundle r.names r.checked c h.0 in
      let to = converted_int op (definition_at (bundle_tables bundle).types h.1.number) k.width
      (subst (λ o. converts op o (definition_at (bundle_tables bundle).types h.1.number) ≡ true) k.written h.1.passes) in
      let j = int_is bundle r.names r.checked h.1.number d to.0 h.1.class to.1 in
      known_then (class_width (bundle_tables bundle) c) k.width _ _ (ap width_of k.wide.class.definition)
      (known_then (class_width (bundle_tables bundle) d) to.0 _ _ (ap width_of j.class.definition)
      (and_then (bits_in (Some k.width) (value_at bundle r.values a)) _ (λ n. n < 2 ^ k.width) _ (bits_fit bundle r c k.width a k.wide.class k.wide.least k.wide.most h.2) (λ n low.
      let test = leads op k.width to.0 to.2 j.least j.most in
      rw test (gives_one bundle r.world block at d (types.Int to.0) (Int to.0 (converted op k.width to.0 n)) gs j.class (refl, converted_below op k.width to.0 n to.2 low) h.3 gives))))

  pub select_fits : (c : ℕ) (s a b : Source) (gs : List ℕ) → ComputationFits (bundle_tables bundle) r.classes (computing.Select c s a b) gs → GivesAt bundle block at gs →
      DoesFit bundle r.world block at (select_act (value_at bundle r.values s) (value_at bundle r.values a) (value_at bundle r.values b))
  select_fits c s a b gs h gives =
      and_then (bits_in (Some 1) (value_at bundle r.values s)) _ (λ n. n < 2 ^ 1) _
      (bits_fit bundle r (int1 (bundle_tables bundle).types) 1 s (facts.types_are_there bundle r.names r.checked).int1 (omega arith) (omega arith) h.1) (λ n low.
      and_then (value_at bundle r.values a) _ (ValueFits (graph_of bundle) r.world c) _ (source_fits bundle r a c h.2) (λ x hx.
      and_then (value_at bundle r.values b) _ (ValueFits (graph_of bundle) r.world c) _ (source_fits bundle r b c h.3) (λ y hy.
      some_is _ _ (c ∷ []) (gives ∙ ap (λ cs. Some cs) h.4) (either (nat_eq n 1) x y hx hy, tt))))
    where
      either : (t : Bool) (x y : Value) → ValueFits (graph_of bundle) r.world c x → ValueFits (graph_of bundle) r.world c y → ValueFits (graph_of bundle) r.world c (if t then x else y)
      either true x y hx hy = hx
      either false x y hx hy = hy
