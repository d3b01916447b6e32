-- The value of a constant fits the leaves of its type.
use Rattle.std.specs.Prelude.{pos, neg_ℤ, slice_index}
use Rattle.std.proofs.Common.{◌≡◌, ℕ, zero, suc, ◌+◌, ◌<◌, Bool, true, false, List, [], ◌∷◌, ◌++◌, length, map, Option, Some, None, slice_get, if◌then◌else◌, refl, sym, subst, arith}
use Rattle.std.specs.List.{All, flat_map}
use Rattle.std.proofs.lemmas.Bool.{false≢true, eqb-true}
use Rattle.std.proofs.lemmas.List.Elements.{All-head, All-tail}
use Rattle.demands.specs.declared.fault.Fault.TheVariants.{At}
use Rattle.demands.specs.Demands.{first_unmet}
use Rattle.demands.specs.Lemmas.Meeting.{both_met}
use Rattle.type_definitions.specs.declared.definition.TypeDef.{TypeDef}
use Rattle.type_definitions.specs.declared.definition.TypeDef.TheVariants.{Int, Struct, Array, Hybrid, Void, Ref, Iref, FuncRef, StackRef, ThreadRef, Sig}
use Rattle.type_definitions.specs.Definition.{constructor, number}
use Rattle.type_definitions.specs.Same.{same, IsGraph}
use Rattle.type_definitions.specs.Class.{class_of}
use Rattle.type_definitions.specs.Leaves.{times, leaves_at, leaves}
use Rattle.type_definitions.specs.Lemmas.Depth.{same_meets}
use Rattle.type_definitions.specs.Lemmas.Proved.{decided}
use Rattle.type_definitions.specs.Lemmas.Respect.{respected}
use Rattle.mu_values.specs.declared.scalars.Scalar.{Scalar}
use Rattle.mu_values.specs.declared.scalars.Scalar.TheVariants as scalars
use Rattle.mu_values.specs.declared.literals.LiteralKind.{LiteralKind}
use Rattle.mu_values.specs.declared.literals.LiteralKind.TheVariants as literals
use Rattle.mu_values.specs.declared.literals.ConstKind.TheVariants.{WrongShape, NotNullable}
use Rattle.mu_values.specs.Constants.{width_of, is_reference, member_count, member_type, is_count, member_demands, number_demands, kind_demands, number_bits, kind_value, HasMembers}
use Rattle.mu_values.specs.Lemmas.Widths.{bits_below}
use Rattle.checked_code.specs.declared.constants.Constant.{Constant}
use Rattle.checked_code.specs.ConstantFits.{IsOfWidth, FitsLeaf, FitsLeaves}
use Rattle.checked_code.specs.ConstantMembers.{types_of, members_of, value_of, Lawful}
use Rattle.type_definitions.specs.Lemmas.Descents.{goes, parts_within}
use Rattle.type_definitions.specs.Lemmas.Unfolds.{leaves_are, leaves_low}
use Rattle.checked_code.specs.Lemmas.ConstantMembers.{met_is, members_met, member_all, type_low, type_at, constant_at, holds_at, members_end, settled_at, ends, kind_low}

-- ---- the leaves of the same types ask the same scalars

leaf_by : (d e : TypeDef) → constructor d ≡ constructor e → number d ≡ number e → (s : Scalar) → FitsLeaf (Some d) s → FitsLeaf (Some e) s
leaf_by (Int w) (Int v) k n s f = subst (λ (x : ℕ). IsOfWidth x s) n f
leaf_by (Struct xs) (Struct ys) k n s f = f
leaf_by (Array x m) (Array y l) k n s f = f
leaf_by (Hybrid xs x) (Hybrid ys y) k n s f = f
leaf_by Void Void k n s f = f
leaf_by (Ref x) (Ref y) k n s f = f
leaf_by (Iref x) (Iref y) k n s f = f
leaf_by (FuncRef x) (FuncRef y) k n s f = f
leaf_by StackRef StackRef k n s f = f
leaf_by ThreadRef ThreadRef k n s f = f
leaf_by (Sig xs us) (Sig ys vs) k n s f = f
leaf_by d e k n s f = absurd (omega (arith, k))

leaf_same : (g : List TypeDef) → IsGraph g → (a b : ℕ) → a < length g → b < length g → class_of g a ≡ class_of g b → (s : Scalar) → FitsLeaf (slice_get g a) s → FitsLeaf (slice_get g b) s
leaf_same g i a b la lb e s f =
    let m = same_meets g i a b la lb (((decided g i).equal a b la lb).0 e) in
    subst (λ (o : Option TypeDef). FitsLeaf o s) (sym m.at_other) (leaf_by m.one m.other m.kind m.sized s (subst (λ (o : Option TypeDef). FitsLeaf o s) m.at_one f))

leaves_same : (g : List TypeDef) → IsGraph g → (xs ys : List ℕ) → All (λ x. x < length g) xs → All (λ x. x < length g) ys → map (class_of g) xs ≡ map (class_of g) ys → (v : List Scalar) → FitsLeaves g xs v → FitsLeaves g ys v
leaves_same g i [] [] a b e v f = f
leaves_same g i [] (y ∷ ys) a b e v f = cc
leaves_same g i (x ∷ xs) [] a b e v f = cc
leaves_same g i (x ∷ xs) (y ∷ ys) a b e [] f = f
leaves_same g i (x ∷ xs) (y ∷ ys) a b e (s ∷ ss) f =
    let head : class_of g x ≡ class_of g y = cc in
    let tail : map (class_of g) xs ≡ map (class_of g) ys = cc in (
      leaf_same g i x y (All-head (λ x. x < length g) x xs a) (All-head (λ x. x < length g) y ys b) head s f.0,
      leaves_same g i xs ys (All-tail (λ x. x < length g) x xs a) (All-tail (λ x. x < length g) y ys b) tail ss f.1,
    )

type_same : (g : List TypeDef) → IsGraph g → (a b : ℕ) → a < length g → b < length g → same g a b ≡ true → (v : List Scalar) → FitsLeaves g (leaves g a) v → FitsLeaves g (leaves g b) v
type_same g i a b la lb e v f = leaves_same g i (leaves g a) (leaves g b) (leaves_low g i (length g) a la) (leaves_low g i (length g) b lb) (respected g i a b la lb e) v f

-- ---- one value behind another

fits_append : (g : List TypeDef) (xs ys : List ℕ) (u v : List Scalar) → FitsLeaves g xs u → FitsLeaves g ys v → FitsLeaves g (xs ++ ys) (u ++ v)
fits_append g [] ys [] v a b = b
fits_append g [] ys (s ∷ u) v a b = absurd a
fits_append g (x ∷ xs) ys [] v a b = absurd a
fits_append g (x ∷ xs) ys (s ∷ u) v a b = (a.0, fits_append g xs ys u v a.1 b)

fits_fields : (g : List TypeDef) (V : ℕ → List Scalar) (fields ms : List ℕ) → length fields ≡ length ms → ((k : ℕ) → k < length ms → FitsLeaves g (leaves g (slice_index fields k)) (V (slice_index ms k))) →
    FitsLeaves g (flat_map (leaves g) fields) (flat_map V ms)
fits_fields g V [] [] e f = tt
fits_fields g V [] (m ∷ ms) e f = absurd (omega (arith, e))
fits_fields g V (x ∷ xs) [] e f = absurd (omega (arith, e))
fits_fields g V (x ∷ xs) (m ∷ ms) e f = fits_append g (leaves g x) (flat_map (leaves g) xs) (V m) (flat_map V ms) (f 0 (omega arith)) (fits_fields g V xs ms (omega (arith, e)) (λ k l. f (suc k) (omega arith)))

fits_elements : (g : List TypeDef) (V : ℕ → List Scalar) (element size : ℕ) (ms : List ℕ) → size ≡ length ms → ((k : ℕ) → k < length ms → FitsLeaves g (leaves g element) (V (slice_index ms k))) →
    FitsLeaves g (times size (leaves g element)) (flat_map V ms)
fits_elements g V element zero [] e f = tt
fits_elements g V element zero (m ∷ ms) e f = absurd (omega (arith, e))
fits_elements g V element (suc size) [] e f = absurd (omega (arith, e))
fits_elements g V element (suc size) (m ∷ ms) e f =
    fits_append g (leaves g element) (times size (leaves g element)) (V m) (flat_map V ms) (f 0 (omega arith)) (fits_elements g V element size ms (omega (arith, e)) (λ k l. f (suc k) (omega arith)))

fits_members : (g : List TypeDef) (V : ℕ → List Scalar) (t : ℕ) (d : Option TypeDef) (ms : List ℕ) → is_count (member_count d) (length ms) ≡ true →
    ((k : ℕ) → k < length ms → FitsLeaves g (leaves g (member_type d k)) (V (slice_index ms k))) → FitsLeaves g (leaves_at (leaves g) t d) (flat_map V ms)
fits_members g V t None ms c f = absurd (false≢true c)
fits_members g V t (Some (Int width)) ms c f = absurd (false≢true c)
fits_members g V t (Some (Struct fields)) ms c f = fits_fields g V fields ms (eqb-true (length fields) (length ms) c) f
fits_members g V t (Some (Array element size)) ms c f = fits_elements g V element size ms (eqb-true size (length ms) c) f
fits_members g V t (Some (Hybrid fixed element)) ms c f = absurd (false≢true c)
fits_members g V t (Some Void) ms c f = absurd (false≢true c)
fits_members g V t (Some (Ref x)) ms c f = absurd (false≢true c)
fits_members g V t (Some (Iref x)) ms c f = absurd (false≢true c)
fits_members g V t (Some (FuncRef s)) ms c f = absurd (false≢true c)
fits_members g V t (Some StackRef) ms c f = absurd (false≢true c)
fits_members g V t (Some ThreadRef) ms c f = absurd (false≢true c)
fits_members g V t (Some (Sig takes gives)) ms c f = absurd (false≢true c)

-- ---- numbers and NULL

fits_number : (g : List TypeDef) (V : ℕ → List Scalar) (t place : ℕ) (d : Option TypeDef) (negative : Bool) (magnitude : ℕ) → slice_get g t ≡ d →
    first_unmet (number_demands place (width_of d) negative magnitude) ≡ None → FitsLeaves g (leaves_at (leaves g) t d) (kind_value V d (literals.Number negative magnitude))
fits_number g V t place (Some (Int v)) negative magnitude e h =
    (subst (λ (o : Option TypeDef). FitsLeaf o (scalars.Int v (number_bits v negative magnitude))) (sym e) (refl, bits_below v (if negative then neg_ℤ (pos magnitude) else pos magnitude)), tt)
fits_number g V t place d negative magnitude e h = cc

null_at : (g : List TypeDef) (t : ℕ) (d : TypeDef) → slice_get g t ≡ Some d → FitsLeaf (Some d) scalars.Null → FitsLeaves g (t ∷ []) (scalars.Null ∷ [])
null_at g t d e f = (subst (λ (o : Option TypeDef). FitsLeaf o scalars.Null) (sym e) f, tt)

fits_null : (g : List TypeDef) (t : ℕ) (d : Option TypeDef) → slice_get g t ≡ d → is_reference d ≡ true → FitsLeaves g (leaves_at (leaves g) t d) (scalars.Null ∷ [])
fits_null g t None e h = absurd (false≢true h)
fits_null g t (Some (Int width)) e h = absurd (false≢true h)
fits_null g t (Some (Struct fields)) e h = absurd (false≢true h)
fits_null g t (Some (Array element size)) e h = absurd (false≢true h)
fits_null g t (Some (Hybrid fixed element)) e h = absurd (false≢true h)
fits_null g t (Some Void) e h = absurd (false≢true h)
fits_null g t (Some (Ref x)) e h = null_at g t (Ref x) e tt
fits_null g t (Some (Iref x)) e h = null_at g t (Iref x) e tt
fits_null g t (Some (FuncRef s)) e h = null_at g t (FuncRef s) e tt
fits_null g t (Some StackRef) e h = null_at g t StackRef e tt
fits_null g t (Some ThreadRef) e h = null_at g t ThreadRef e tt
fits_null g t (Some (Sig takes gives)) e h = absurd (false≢true h)

-- ---- all values

fits_kind : (g : List TypeDef) (cs : List Constant) → Lawful g cs → (V : ℕ → List Scalar) (t place : ℕ) (kind : LiteralKind) → first_unmet (kind_demands g (types_of cs) (slice_get g t) place kind) ≡ None →
    ((k : ℕ) → k < length (members_of kind) → FitsLeaves g (leaves g (slice_index (types_of cs) (slice_index (members_of kind) k))) (V (slice_index (members_of kind) k))) →
    FitsLeaves g (leaves_at (leaves g) t (slice_get g t)) (kind_value V (slice_get g t) kind)
fits_kind g cs law V t place (literals.Number negative magnitude) h f = fits_number g V t place (slice_get g t) negative magnitude refl h
fits_kind g cs law V t place literals.Null h f = fits_null g t (slice_get g t) refl (met_is (is_reference (slice_get g t)) (At NotNullable place) h)
fits_kind g cs law V t place (literals.Members members places) h f =
    let many = length members in
    let counted = is_count (member_count (slice_get g t)) many in
    let both = both_met (if counted then None else Some (At WrongShape place)) (first_unmet (member_demands g (types_of cs) (slice_get g t) members places many 0)) h in
    let count : counted ≡ true = met_is counted (At WrongShape place) both.0 in
    fits_members g V t (slice_get g t) members count (λ k l.
    let index : 0 + k ≡ k = omega arith in
    let alike : same g (slice_index (types_of cs) (slice_index members k)) (member_type (slice_get g t) k) ≡ true =
    subst (λ (n : ℕ). same g (slice_index (types_of cs) (slice_index members n)) (member_type (slice_get g t) n) ≡ true) index
    (members_met g (types_of cs) (slice_get g t) members places many 0 k both.1 l) in
    let low : member_type (slice_get g t) k < length g = member_all (λ p. p < length g) (slice_get g t) many k count l (parts_within g law.graph t) in
    type_same g law.graph (slice_index (types_of cs) (slice_index members k)) (member_type (slice_get g t) k) (type_low g cs law (slice_index members k)) low alike
    (V (slice_index members k)) (f k l))

fits_to : (g : List TypeDef) (cs : List Constant) → Lawful g cs → (d n : ℕ) (c : Constant) → slice_get cs n ≡ Some c → goes g d c.of_type ≡ false → FitsLeaves g (leaves g c.of_type) (value_of g cs n)
unfolding goes
fits_to g cs law zero n c e h = absurd (false≢true (sym h))
fits_to g cs law (suc d) n c e h =
    let low : c.of_type < length g = holds_at (λ (x : Constant). x.of_type < length g) cs n c law.typed e in
    rw (leaves_are g law.graph law.finite c.of_type low, settled_at g cs law n c e)
    (fits_kind g cs law (value_of g cs) c.of_type c.literal.place c.literal.kind (law.judged n c e) (λ k l.
    let m = slice_index (members_of c.literal.kind) k in
    let member = constant_at cs m (kind_low (length cs) c.literal.kind (holds_at (λ (x : Constant). HasMembers (length cs) x.literal.kind) cs n c law.members e) k l) in
    let same_type : slice_index (types_of cs) m ≡ member.0.of_type = type_at cs m member.0 member.1 in
    let stop : goes g d member.0.of_type ≡ false = subst (λ (t : ℕ). goes g d t ≡ false) same_type (at_index (λ (x : ℕ). goes g d (slice_index (types_of cs) x) ≡ false) (members_of c.literal.kind) k l (members_end g cs law n c e d h)) in
    subst (λ (t : ℕ). FitsLeaves g (leaves g t) (value_of g cs m)) (sym same_type) (fits_to g cs law d m member.0 member.1 stop)))
  where
    at_index : (P : ℕ → Type 0) (xs : List ℕ) (k : ℕ) → k < length xs → All P xs → P (slice_index xs k)
    at_index P xs k l a = a k 0 l

pub all_fit : (g : List TypeDef) (cs : List Constant) → Lawful g cs → (n : ℕ) (c : Constant) → slice_get cs n ≡ Some c → FitsLeaves g (leaves g c.of_type) (value_of g cs n)
all_fit g cs law n c e = fits_to g cs law (length g) n c e (ends g cs law n c e)
