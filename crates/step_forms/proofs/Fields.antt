-- The parts of a value about a field.
use Rattle.std.proofs.Common.{◌≡◌, ℕ, zero, suc, ◌+◌, ◌-◌, ◌<◌, ◌++◌, List, [], ◌∷◌, Some, length, take, drop, get_or, refl, ap, subst, arith, min, length-drop}
use Rattle.std.specs.Prelude.{IsSome, slice_get}
use Rattle.std.specs.List.{All, sum_by}
use Rattle.std.proofs.lemmas.List.{take_more, drop-drop}
use Rattle.std.proofs.lemmas.List.Sums.{sum_by-append}
use Rattle.std.proofs.lemmas.List.Elements.{All-get_or, All-take}
use Rattle.std.proofs.lemmas.Option.{slice_get_within, get_or_from_slice_get}
use Rattle.type_definitions.specs.declared.definition.TypeDef.{TypeDef}
use Rattle.type_definitions.specs.declared.definition.TypeDef.TheVariants.{Struct}
use Rattle.type_definitions.specs.Same.{IsGraph}
use Rattle.type_definitions.specs.Lemmas.Depth.{args_within}
use Rattle.mu_values.specs.declared.scalars.Scalar.{Scalar}
use Rattle.check_tables.specs.declared.tables.Tables.{Tables}
use Rattle.check_tables.specs.TypeTests.{fields_of}
use Rattle.typed_heap.specs.Objects.{leaf_classes}
use Rattle.typed_heap.specs.Places.{leaves_together}
use Rattle.mu_model.specs.Types.{type_graph, class_definition}
use Rattle.mu_model.specs.ComputationForms.{part_of}
use Rattle.step_forms.specs.OperandLaws.{is_some_within, with_some_some}

-- ---- the fields of a struct

pub struct_within : (g : List TypeDef) (c : ℕ) → IsSome (fields_of (slice_get g c)) → c < length g
struct_within [] c h = cc
struct_within (d ∷ ds) zero h = omega arith
struct_within (d ∷ ds) (suc c) h = omega (arith, struct_within ds c h)

pub fields_within : (g : List TypeDef) → IsGraph g → (c : ℕ) (fs : List ℕ) → slice_get g c ≡ Some (Struct fs) → All (λ t. t < length g) fs
fields_within g h c fs e = args_within g h c (Struct fs) e

pub ruleset fields = (struct_within, fields_within)

-- ---- their leaves

pub type_within : (g : List TypeDef) (ts : List ℕ) (n t : ℕ) → All (λ t. t < length g) ts → slice_get ts n ≡ Some t → t < length g
type_within g ts n t h e = subst (λ k. k < length g) (get_or_from_slice_get ts n t t e) (All-get_or (λ k. k < length g) ts n t (slice_get_within ts n t e) h)

leaves_more : (g : List TypeDef) (ts : List ℕ) (n t : ℕ) → slice_get ts n ≡ Some t → leaves_together g (take (n + 1) ts) ≡ leaves_together g (take n ts) + length (leaf_classes g t)
leaves_more g ts n t e =
    let one : take (n + 1) ts ≡ take n ts ++ get_or ts n t ∷ [] = take_more ts n t (slice_get_within ts n t e) in
    let same : get_or ts n t ≡ t = get_or_from_slice_get ts n t t e in
    let f : ℕ → ℕ = λ k. length (leaf_classes g k) in
    let more : sum_by f (take n ts ++ t ∷ []) ≡ sum_by f (take n ts) + sum_by f (t ∷ []) = sum_by-append f (take n ts) (t ∷ []) in
    rw (one, same) (omega (arith, more))

pub behind_more : (g : List TypeDef) (ts : List ℕ) (n t : ℕ) (v left : List Scalar) → slice_get ts n ≡ Some t → left ≡ drop (leaves_together g (take n ts)) v → drop (length (leaf_classes g t)) left ≡ drop (leaves_together g (take (n + 1) ts)) v
behind_more g ts n t v left e h = rw (leaves_more g ts n t e, h) (drop-drop (length (leaf_classes g t)) (leaves_together g (take n ts)) v)

pub ruleset leaves = (type_within, behind_more)

-- ---- the parts

pub part_is : (p : Tables) (c n t : ℕ) (fs : List ℕ) → fields_of (class_definition p c) ≡ Some fs → slice_get fs n ≡ Some t → part_of p c n ≡ Some (record { before = leaves_together (type_graph p) (take n fs); size = length (leaf_classes (type_graph p) t) })
part_is p c n t fs e h = rw (e, h) refl

pub fields_before : (g : List TypeDef) (n : ℕ) (fs : List ℕ) → All (λ t. t < length g) fs → All (λ t. t < length g) (take n fs)
fields_before g n fs h = All-take (λ t. t < length g) n fs h

take_front : (b m : ℕ) (v : List Scalar) → m ≡ min b (length v) → take m v ≡ take b v
take_front zero m [] e = let z : m ≡ 0 = omega arith in rw z refl
take_front (suc b) m [] e = let z : m ≡ 0 = omega arith in rw z refl
take_front zero m (x ∷ v) e = let z : m ≡ 0 = omega arith in rw z refl
take_front (suc b) zero (x ∷ v) e = absurd (omega arith)
take_front (suc b) (suc m) (x ∷ v) e = ap (λ w. x ∷ w) (take_front b m v (omega arith))

pub before_is : (b : ℕ) (v : List Scalar) → take (length v - length (drop b v)) v ≡ take b v
before_is b v = take_front b _ v (omega (arith, length-drop b v))

pub behind_is : (b n : ℕ) (v : List Scalar) → drop n (drop b v) ≡ drop (b + n) v
behind_is b n v = drop-drop n b v

pub ruleset parts = (with_some_some, is_some_within, type_within, part_is, fields_before, before_is, behind_is)
