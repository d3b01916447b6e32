-- Members of constants have types that are the same as parts of the constants' types. So values to the depth that is the number of
-- types do not change any more, and where some constants are not made, one of them has only members that are.
use Rattle.std.specs.Prelude.{option_map, slice_index, slice_index_or}
use Rattle.std.proofs.Common.{◌≡◌, ℕ, zero, suc, ◌+◌, ◌<◌, ◌≤◌, Bool, true, false, List, [], ◌∷◌, length, map, Option, Some, None, slice_get, if◌then◌else◌, refl, sym, ◌∙◌, ap, subst, inl, inr, ◌⊎◌, arith}
use Rattle.std.specs.List.{All, list_any, list_all, flat_map}
use Rattle.std.proofs.lemmas.Bool.{false≢true, cases_lt, eqb-true}
use Rattle.std.proofs.lemmas.List.Elements.{All-head, All-tail, All-weaker}
use Rattle.std.proofs.lemmas.List.{length-map}
use Rattle.std.proofs.lemmas.Option.{slice_get-map, slice_get_within, get_or_from_slice_get}
use Rattle.demands.specs.declared.fault.Fault.TheVariants.{At}
use Rattle.demands.specs.Demands.{first_unmet}
use Rattle.demands.specs.Lemmas.Meeting.{both_met}
use Rattle.type_definitions.specs.declared.definition.TypeDef.{TypeDef}
use Rattle.type_definitions.specs.declared.definition.TypeDef.TheVariants.{Int, Struct, Array, Hybrid, Void, Ref, Iref, FuncRef, StackRef, ThreadRef, Sig}
use Rattle.type_definitions.specs.Same.{same}
use Rattle.type_definitions.specs.Parts.{parts_at}
use Rattle.type_definitions.specs.Lemmas.Walks.{or_left, or_right}
use Rattle.mu_values.specs.declared.scalars.Scalar.{Scalar}
use Rattle.mu_values.specs.declared.literals.LiteralKind.{LiteralKind}
use Rattle.mu_values.specs.declared.literals.LiteralKind.TheVariants as literals
use Rattle.mu_values.specs.declared.literals.ConstKind.TheVariants.{WrongShape}
use Rattle.mu_values.specs.Constants.{member_count, member_type, member_demands, is_count, kind_demands, kind_value, constant_value, HasMembers}
use Rattle.checked_code.specs.declared.constants.Constant.{Constant}
use Rattle.checked_code.specs.ConstantValues.{told, values_by, values_to}
use Rattle.checked_code.specs.ConstantMembers.{types_of, members_of, is_made, is_ready, Lawful}
use Rattle.type_definitions.specs.Lemmas.Descents.{goes, goes_same, goes_ends, parts_within}

-- ---- a constant by its number

pub holds_at : {X : Type 0} (P : X → Type 0) (xs : List X) (n : ℕ) (x : X) → All P xs → slice_get xs n ≡ Some x → P x
holds_at P xs n x a e = subst P (get_or_from_slice_get xs n x x e) (a n x (slice_get_within xs n x e))

pub type_at : (cs : List Constant) (n : ℕ) (c : Constant) → slice_get cs n ≡ Some c → slice_index (types_of cs) n ≡ c.of_type
type_at cs n c e =
    get_or_from_slice_get (types_of cs) n c.of_type 0 (slice_get-map (λ (d : Constant). d.of_type) cs n ∙ ap (option_map (λ (d : Constant). d.of_type)) e)

pub constant_at : (cs : List Constant) (n : ℕ) → n < length cs → (c : Constant) × (slice_get cs n ≡ Some c)
constant_at [] n l = absurd (omega arith)
constant_at (c ∷ cs) zero l = (c, refl)
constant_at (c ∷ cs) (suc n) l = constant_at cs n (omega arith)

past_zero : (xs : List ℕ) (n : ℕ) → length xs ≤ n → slice_index xs n ≡ 0
past_zero [] n l = refl
past_zero (x ∷ xs) zero l = absurd (omega arith)
past_zero (x ∷ xs) (suc n) l = past_zero xs n (omega arith)

pub type_low : (g : List TypeDef) (cs : List Constant) → Lawful g cs → (n : ℕ) → slice_index (types_of cs) n < length g
type_low g cs law n = elim (cases_lt n (length cs)) [
  | inl l ↦ let c = constant_at cs n l in
      subst (λ (t : ℕ). t < length g) (sym (type_at cs n c.0 c.1)) (holds_at (λ (d : Constant). d.of_type < length g) cs n c.0 law.typed c.1)
  | inr l ↦ subst (λ (t : ℕ). t < length g) (sym (past_zero (types_of cs) n (omega (arith, l, length-map cs (λ (c : Constant). c.of_type))))) law.some
]

-- ---- the demands on members

pub met_is : {F : Type 0} (b : Bool) (f : F) → (if b then None else Some f) ≡ None → b ≡ true
met_is true f h = refl
met_is false f h = cc

pub members_met : (g : List TypeDef) (types : List ℕ) (d : Option TypeDef) (members places : List ℕ) (many from k : ℕ) → first_unmet (member_demands g types d members places many from) ≡ None → k < many →
    same g (slice_index types (slice_index members (from + k))) (member_type d (from + k)) ≡ true
members_met g types d members places zero from k h l = absurd (omega arith)
members_met g types d members places (suc many) from k h l =
    let one = same g (slice_index types (slice_index members from)) (member_type d from) in
    let both = both_met (if one then None else Some (At WrongShape (slice_index places from))) (first_unmet (member_demands g types d members places many (suc from))) h in
    go k l (met_is one (At WrongShape (slice_index places from)) both.0) (λ (j : ℕ) (m : j < many). members_met g types d members places many (suc from) j both.1 m)
  where
    go : (k : ℕ) → k < suc many → same g (slice_index types (slice_index members from)) (member_type d from) ≡ true
        → ((j : ℕ) → j < many → same g (slice_index types (slice_index members (suc from + j))) (member_type d (suc from + j)) ≡ true)
        → same g (slice_index types (slice_index members (from + k))) (member_type d (from + k)) ≡ true
    go zero l now later = let e : from ≡ from + 0 = omega arith in subst (λ (n : ℕ). same g (slice_index types (slice_index members n)) (member_type d n) ≡ true) e now
    go (suc j) l now later = let e : suc from + j ≡ from + suc j = omega arith in subst (λ (n : ℕ). same g (slice_index types (slice_index members n)) (member_type d n) ≡ true) e (later j (omega arith))

any_at : (h : ℕ → Bool) (xs : List ℕ) (k : ℕ) → k < length xs → h (slice_index xs k) ≡ true → list_any h xs ≡ true
any_at h [] k l e = absurd (omega arith)
any_at h (x ∷ xs) zero l e = or_left (h x) (list_any h xs) e
any_at h (x ∷ xs) (suc k) l e = or_right (h x) (list_any h xs) (any_at h xs k (omega arith) e)

-- the type of a member is a part
member_any : (d : Option TypeDef) (n k : ℕ) → is_count (member_count d) n ≡ true → k < n → (h : ℕ → Bool) → h (member_type d k) ≡ true → list_any h (parts_at d) ≡ true
member_any None n k c l h e = absurd (false≢true c)
member_any (Some (Int width)) n k c l h e = absurd (false≢true c)
member_any (Some (Struct fields)) n k c l h e = let m : length fields ≡ n = eqb-true (length fields) n c in any_at h fields k (omega arith) e
member_any (Some (Array element size)) n k c l h e = or_left (h element) false e
member_any (Some (Hybrid fixed element)) n k c l h e = absurd (false≢true c)
member_any (Some Void) n k c l h e = absurd (false≢true c)
member_any (Some (Ref t)) n k c l h e = absurd (false≢true c)
member_any (Some (Iref t)) n k c l h e = absurd (false≢true c)
member_any (Some (FuncRef s)) n k c l h e = absurd (false≢true c)
member_any (Some StackRef) n k c l h e = absurd (false≢true c)
member_any (Some ThreadRef) n k c l h e = absurd (false≢true c)
member_any (Some (Sig takes gives)) n k c l h e = absurd (false≢true c)

pub member_all : (P : ℕ → Type 0) (d : Option TypeDef) (n k : ℕ) → is_count (member_count d) n ≡ true → k < n → All P (parts_at d) → P (member_type d k)
member_all P None n k c l a = absurd (false≢true c)
member_all P (Some (Int width)) n k c l a = absurd (false≢true c)
member_all P (Some (Struct fields)) n k c l a = let m : length fields ≡ n = eqb-true (length fields) n c in a k 0 (omega arith)
member_all P (Some (Array element size)) n k c l a = All-head P element [] a
member_all P (Some (Hybrid fixed element)) n k c l a = absurd (false≢true c)
member_all P (Some Void) n k c l a = absurd (false≢true c)
member_all P (Some (Ref t)) n k c l a = absurd (false≢true c)
member_all P (Some (Iref t)) n k c l a = absurd (false≢true c)
member_all P (Some (FuncRef s)) n k c l a = absurd (false≢true c)
member_all P (Some StackRef) n k c l a = absurd (false≢true c)
member_all P (Some ThreadRef) n k c l a = absurd (false≢true c)
member_all P (Some (Sig takes gives)) n k c l a = absurd (false≢true c)

-- where a literal meets its demands, a walk from the type of a member is one step longer from the type of the constant
kind_goes : (g : List TypeDef) (cs : List Constant) → Lawful g cs → (t place : ℕ) (kind : LiteralKind) → first_unmet (kind_demands g (types_of cs) (slice_get g t) place kind) ≡ None →
    (d k : ℕ) → k < length (members_of kind) → goes g d (slice_index (types_of cs) (slice_index (members_of kind) k)) ≡ true → goes g (suc d) t ≡ true
unfolding goes
kind_goes g cs law t place (literals.Number negative magnitude) h d k l e = absurd (omega arith)
kind_goes g cs law t place literals.Null h d k l e = absurd (omega arith)
kind_goes g cs law t place (literals.Members members places) h d k l e =
    let many = length members in
    let counted = is_count (member_count (slice_get g t)) many in
    let both = both_met (if counted then None else Some (At WrongShape place)) (first_unmet (member_demands g (types_of cs) (slice_get g t) members places many 0)) h in
    let count : counted ≡ true = met_is counted (At WrongShape place) both.0 in
    let index : 0 + k ≡ k = omega arith in
    let alike : same g (slice_index (types_of cs) (slice_index members k)) (member_type (slice_get g t) k) ≡ true =
    subst (λ (n : ℕ). same g (slice_index (types_of cs) (slice_index members n)) (member_type (slice_get g t) n) ≡ true) index
    (members_met g (types_of cs) (slice_get g t) members places many 0 k both.1 l) in
    let low : member_type (slice_get g t) k < length g = member_all (λ p. p < length g) (slice_get g t) many k count l (parts_within g law.graph t) in
    let on : goes g d (member_type (slice_get g t) k) ≡ true =
    sym (goes_same g law.graph d (slice_index (types_of cs) (slice_index members k)) (member_type (slice_get g t) k) (type_low g cs law (slice_index members k)) low alike) ∙ e in
    member_any (slice_get g t) many k count l (λ p. goes g d p) on

-- ---- values do not change past the depth that is the number of types

flat_same : (of to : ℕ → List Scalar) (xs : List ℕ) → All (λ m. of m ≡ to m) xs → flat_map of xs ≡ flat_map to xs
flat_same of to [] a = refl
flat_same of to (x ∷ xs) a = rw (All-head (λ m. of m ≡ to m) x xs a, flat_same of to xs (All-tail (λ m. of m ≡ to m) x xs a)) refl

pub value_same : (of to : ℕ → List Scalar) (d : Option TypeDef) (kind : LiteralKind) → All (λ m. of m ≡ to m) (members_of kind) → kind_value of d kind ≡ kind_value to d kind
value_same of to d (literals.Number negative magnitude) a = refl
value_same of to d literals.Null a = refl
value_same of to d (literals.Members members places) a = flat_same of to members a

pub told_at : (g : List TypeDef) (of : ℕ → List Scalar) (cs : List Constant) (n : ℕ) (c : Constant) → slice_get cs n ≡ Some c → told (values_by g cs of) n ≡ constant_value g of c.of_type c.literal
told_at g of [] n c e = cc
told_at g of (d ∷ cs) zero c e = let same : d ≡ c = cc in rw same refl
told_at g of (d ∷ cs) (suc n) c e = told_at g of cs n c e

told_past : (g : List TypeDef) (of : ℕ → List Scalar) (cs : List Constant) (n : ℕ) → slice_get cs n ≡ None → told (values_by g cs of) n ≡ []
told_past g of [] n e = refl
told_past g of (d ∷ cs) zero e = cc
told_past g of (d ∷ cs) (suc n) e = told_past g of cs n e

pub either : (b : Bool) → (b ≡ true) ⊎ (b ≡ false)
either true = inl refl
either false = inr refl

-- no walk of so many steps begins at the type of a member
pub members_end : (g : List TypeDef) (cs : List Constant) → Lawful g cs → (n : ℕ) (c : Constant) → slice_get cs n ≡ Some c → (d : ℕ) → goes g (suc d) c.of_type ≡ false →
    All (λ m. goes g d (slice_index (types_of cs) m) ≡ false) (members_of c.literal.kind)
members_end g cs law n c e d h k z l =
    let m = slice_index (members_of c.literal.kind) k in
    let same : slice_index_or (members_of c.literal.kind) k z ≡ m = inside (members_of c.literal.kind) k z l in
    subst (λ (x : ℕ). goes g d (slice_index (types_of cs) x) ≡ false) (sym same)
    (elim (either (goes g d (slice_index (types_of cs) m))) [
      | inl on ↦ absurd (false≢true (sym h ∙ kind_goes g cs law c.of_type c.literal.place c.literal.kind (law.judged n c e) d k l on))
      | inr off ↦ off
    ])
  where
    inside : (xs : List ℕ) (k z : ℕ) → k < length xs → slice_index_or xs k z ≡ slice_index xs k
    inside [] k z l = absurd (omega arith)
    inside (x ∷ xs) zero z l = refl
    inside (x ∷ xs) (suc k) z l = inside xs k z (omega arith)

-- the same of values: where those of such members do not change from a depth to the next, that of the constant does not from the next on
level : (g : List TypeDef) (cs : List Constant) → Lawful g cs → (d : ℕ) →
    ((m : ℕ) → goes g d (slice_index (types_of cs) m) ≡ false → told (values_to g cs d) m ≡ told (values_to g cs (suc d)) m) →
    (n : ℕ) (c : Constant) → slice_get cs n ≡ Some c → goes g (suc d) c.of_type ≡ false →
    constant_value g (told (values_to g cs d)) c.of_type c.literal ≡ constant_value g (told (values_to g cs (suc d))) c.of_type c.literal
level g cs law d same n c e h =
    value_same (told (values_to g cs d)) (told (values_to g cs (suc d))) (slice_get g c.of_type) c.literal.kind
    (All-weaker (λ m. goes g d (slice_index (types_of cs) m) ≡ false) (λ m. told (values_to g cs d) m ≡ told (values_to g cs (suc d)) m) same
    (members_of c.literal.kind) (members_end g cs law n c e d h))

-- where no walk of so many steps begins at its type, the value of a constant to that depth is that to one more
steady : (g : List TypeDef) (cs : List Constant) → Lawful g cs → (d n : ℕ) → goes g d (slice_index (types_of cs) n) ≡ false → told (values_to g cs d) n ≡ told (values_to g cs (suc d)) n
unfolding goes values_to
steady g cs law zero n h = absurd (false≢true (sym h))
steady g cs law (suc d) n h = go (slice_get cs n) refl (λ (m : ℕ) (k : goes g d (slice_index (types_of cs) m) ≡ false). steady g cs law d m k)
  where
    go : (o : Option Constant) → slice_get cs n ≡ o → ((m : ℕ) → goes g d (slice_index (types_of cs) m) ≡ false → told (values_to g cs d) m ≡ told (values_to g cs (suc d)) m) →
        told (values_to g cs (suc d)) n ≡ told (values_to g cs (suc (suc d))) n
    go None e same = told_past g (told (values_to g cs d)) cs n e ∙ sym (told_past g (told (values_to g cs (suc d))) cs n e)
    go (Some c) e same =
        told_at g (told (values_to g cs d)) cs n c e
        ∙ level g cs law d same n c e (subst (λ (t : ℕ). goes g (suc d) t ≡ false) (type_at cs n c e) h)
        ∙ sym (told_at g (told (values_to g cs (suc d))) cs n c e)

each_same : (f h : Constant → List Scalar) (cs : List Constant) → ((n : ℕ) (c : Constant) → slice_get cs n ≡ Some c → f c ≡ h c) → map f cs ≡ map h cs
each_same f h [] same = refl
each_same f h (c ∷ cs) same = rw (same 0 c refl, each_same f h cs (λ n d e. same (suc n) d e)) refl

pub ends : (g : List TypeDef) (cs : List Constant) → Lawful g cs → (n : ℕ) (c : Constant) → slice_get cs n ≡ Some c → goes g (length g) c.of_type ≡ false
ends g cs law n c e = goes_ends g law.graph law.finite c.of_type (holds_at (λ (d : Constant). d.of_type < length g) cs n c law.typed e)

-- the values are those of the literals, where members have these values
pub settled : (g : List TypeDef) (cs : List Constant) → Lawful g cs → values_to g cs (length g) ≡ values_by g cs (told (values_to g cs (length g)))
unfolding values_to
settled g cs law = go (length g) refl
  where
    go : (k : ℕ) → length g ≡ k → values_to g cs k ≡ values_by g cs (told (values_to g cs k))
    go zero e = let some = law.some in absurd (omega arith)
    go (suc d) e =
        each_same (λ (c : Constant). constant_value g (told (values_to g cs d)) c.of_type c.literal) (λ (c : Constant). constant_value g (told (values_to g cs (suc d))) c.of_type c.literal) cs
        (λ n c there. level g cs law d (steady g cs law d) n c there (subst (λ (k : ℕ). goes g k c.of_type ≡ false) e (ends g cs law n c there)))

pub settled_at : (g : List TypeDef) (cs : List Constant) → Lawful g cs → (n : ℕ) (c : Constant) → slice_get cs n ≡ Some c →
    told (values_to g cs (length g)) n ≡ constant_value g (told (values_to g cs (length g))) c.of_type c.literal
settled_at g cs law n c e = ap (λ (vs : List (List Scalar)). told vs n) (settled g cs law) ∙ told_at g (told (values_to g cs (length g))) cs n c e

-- ---- where some constants are not made, one of them has only members that are

pub not_ready : (done : List Bool) (xs : List ℕ) → list_all (is_made done) xs ≡ false → (k : ℕ) × (k < length xs) × (is_made done (slice_index xs k) ≡ false)
not_ready done [] h = cc
not_ready done (x ∷ xs) h = go (is_made done x) refl (λ (e : list_all (is_made done) xs ≡ false). not_ready done xs e)
  where
    go : (b : Bool) → is_made done x ≡ b → (list_all (is_made done) xs ≡ false → (k : ℕ) × (k < length xs) × (is_made done (slice_index xs k) ≡ false)) →
        (k : ℕ) × (k < suc (length xs)) × (is_made done (slice_index (x ∷ xs) k) ≡ false)
    go true e ih = let r = ih (rw e at h) in (suc r.0, (omega arith), r.2)
    go false e ih = (0, (omega arith), e)

pub kind_low : (many : ℕ) (kind : LiteralKind) → HasMembers many kind → (k : ℕ) → k < length (members_of kind) → slice_index (members_of kind) k < many
kind_low many (literals.Number negative magnitude) a k l = absurd (omega arith)
kind_low many literals.Null a k l = absurd (omega arith)
kind_low many (literals.Members members places) a k l = a k 0 l

-- each that is not made has a member that is not
pub record AreStuck (cs : List Constant) (done : List Bool) : Type 0 where
  pub each : (n : ℕ) (c : Constant) → slice_get cs n ≡ Some c → is_made done n ≡ false → is_ready done c.literal.kind ≡ false

-- so walks of any number of steps begin at its type
stuck_goes : (g : List TypeDef) (cs : List Constant) → Lawful g cs → (done : List Bool) → AreStuck cs done → (d n : ℕ) (c : Constant) → slice_get cs n ≡ Some c → is_made done n ≡ false → goes g d c.of_type ≡ true
unfolding goes
stuck_goes g cs law done stuck zero n c e h = refl
stuck_goes g cs law done stuck (suc d) n c e h =
    let one = not_ready done (members_of c.literal.kind) (stuck.each n c e h) in
    let m = slice_index (members_of c.literal.kind) one.0 in
    let low : m < length cs = kind_low (length cs) c.literal.kind (holds_at (λ (x : Constant). HasMembers (length cs) x.literal.kind) cs n c law.members e) one.0 one.1 in
    let member = constant_at cs m low in
    let on : goes g d member.0.of_type ≡ true = stuck_goes g cs law done stuck d m member.0 member.1 one.2 in
    kind_goes g cs law c.of_type c.literal.place c.literal.kind (law.judged n c e) d one.0 one.1
    (subst (λ (t : ℕ). goes g d t ≡ true) (sym (type_at cs m member.0 member.1)) on)

pub none_stuck : (g : List TypeDef) (cs : List Constant) → Lawful g cs → (done : List Bool) → AreStuck cs done → (n : ℕ) → n < length cs → is_made done n ≡ true
none_stuck g cs law done stuck n l = elim (either (is_made done n)) [
  | inl made ↦ made
  | inr not_made ↦ let c = constant_at cs n l in absurd (false≢true (sym (ends g cs law n c.0 c.1) ∙ stuck_goes g cs law done stuck (length g) n c.0 c.1 not_made))
]
