-- What is there where an act is. An instruction that has an act has its operands.
use Rattle.std.specs.Prelude.{◌≡◌, ℕ, ◌+◌, ◌-◌, ◌<◌, ◌≤◌, ◌^◌, ◌++◌, Bool, true, false, List, [], ◌∷◌, Option, Some, None, IsSome, map, option_map, option_and_then, length, slice_get, refl, nat_eq, if◌then◌else◌}
use Rattle.std.proofs.Common.{zero, suc, sym, arith, take, get_or, subst, ◌⊎◌, inl, inr, ◌↔◌}
use Rattle.std.proofs.lemmas.Bool.Decides.{nat_tests}
use Rattle.std.proofs.lemmas.List.{take_more}
use Rattle.std.proofs.lemmas.Option.{slice_get_within, get_or_from_slice_get}
use Rattle.type_definitions.specs.declared.definition.TypeDef.{TypeDef}
use Rattle.mu_values.specs.declared.scalars.Scalar.{Scalar}
use Rattle.mu_values.specs.declared.scalars.Scalar.TheVariants.{Int, Null, Object, Place, Func, Stack, Thread}
use Rattle.mu_base.specs.declared.operators.ConvertOp.{ConvertOp}
use Rattle.mu_base.specs.declared.operators.ConvertOp.TheVariants as conversions
use Rattle.mu_values.specs.Integers.{IsInteger, IsConversion}
use Rattle.mu_values.specs.SameScalar.{same_scalar}
use Rattle.mu_values.specs.ScalarLaws.{same_scalar-iff}
use Rattle.mu_values.specs.Comparisons.{AreComparable}
use Rattle.mu_values.specs.Constants.{width_of}
use Rattle.typed_heap.specs.Places.{with_some}
use Rattle.frames.specs.Activations.{Value}
use Rattle.mu_model.specs.Acts.{Act}
use Rattle.mu_model.specs.Operands.{scalar_in, is_integer, bits_of_width, all_some}
use Rattle.mu_model.specs.ComputationForms.{bit, are_comparable, leads_to}
use Rattle.mu_model.specs.ControlForms.{function_act}
use Rattle.mu_model.specs.ObjectForms.{object_act}

-- ---- one operand

pub with_some_some : {A B : Type 0} (o : Option A) (f : A → Option B) → IsSome (with_some o f) → (a : A) × (o ≡ Some a) × IsSome (f a)
with_some_some (Some a) f h = (a, refl, h)
with_some_some None f h = cc

pub some_scalar : (o : Option Value) → IsSome (scalar_in o) → (s : Scalar) × (o ≡ Some (s ∷ [])) × (scalar_in o ≡ Some s)
some_scalar None h = cc
some_scalar (Some []) h = cc
some_scalar (Some (s ∷ [])) h = (s, refl, refl)
some_scalar (Some (s ∷ (t ∷ ts))) h = cc

pub is_some_within : {A : Type 0} (xs : List A) (n : ℕ) → IsSome (slice_get xs n) → n < length xs
is_some_within [] n h = cc
is_some_within (x ∷ xs) zero h = omega arith
is_some_within (x ∷ xs) (suc n) h = omega (arith, is_some_within xs n h)

-- an element of a list with another behind it
pub appended_own : {A : Type 0} (xs ys : List A) (n : ℕ) → n < length xs → slice_get (xs ++ ys) n ≡ slice_get xs n
appended_own [] ys n h = absurd (omega arith)
appended_own (x ∷ xs) ys zero h = refl
appended_own (x ∷ xs) ys (suc n) h = appended_own xs ys n (omega arith)

pub appended_behind : {A : Type 0} (xs ys : List A) (n : ℕ) → length xs ≤ n → slice_get (xs ++ ys) n ≡ slice_get ys (n - length xs)
appended_behind [] ys n h = let e : n - 0 ≡ n = omega arith in rw e refl
appended_behind (x ∷ xs) ys zero h = absurd (omega arith)
appended_behind (x ∷ xs) ys (suc n) h =
    let less : length xs ≤ n = omega arith in
    let e : suc n - length (x ∷ xs) ≡ n - length xs = omega arith in
    rw e (appended_behind xs ys n less)

pub integer_is : (w n : ℕ) → is_integer w n ≡ true → IsInteger w n
integer_is w n h = grind (arith, nat_tests)

pub some_bits : (w : ℕ) (s : Option Scalar) → IsSome (bits_of_width (Some w) s) → (n : ℕ) × (s ≡ Some (Int w n)) × IsInteger w n × (bits_of_width (Some w) s ≡ Some n)
some_bits w None h = cc
some_bits w (Some (Int v n)) h = grind (arith, nat_tests)
some_bits w (Some Null) h = cc
some_bits w (Some (Object o)) h = cc
some_bits w (Some (Place o a)) h = cc
some_bits w (Some (Func f)) h = cc
some_bits w (Some (Stack k)) h = cc
some_bits w (Some (Thread t)) h = cc

-- ---- lists of operands

-- each of them is there
pub all_some_at : {A B : Type 0} (f : A → Option B) (xs : List A) (n : ℕ) (x : A) → IsSome (all_some (map f xs)) → slice_get xs n ≡ Some x → IsSome (f x)
all_some_at f [] n x h e = cc
all_some_at {B = B} f (y ∷ ys) zero x h e =
    let a : (v : B) × (f y ≡ Some v) × IsSome (with_some (all_some (map f ys)) (λ vs. Some (v ∷ vs))) = with_some_some _ _ h in
    let same : y ≡ x = cc in
    subst (λ z. IsSome (f z)) same (subst IsSome (sym a.1) refl)
all_some_at {B = B} f (y ∷ ys) (suc n) x h e =
    let a : (v : B) × (f y ≡ Some v) × IsSome (with_some (all_some (map f ys)) (λ vs. Some (v ∷ vs))) = with_some_some _ _ h in
    let b : (vs : List B) × (all_some (map f ys) ≡ Some vs) × IsSome (Some (a.0 ∷ vs)) = with_some_some _ _ a.2 in
    all_some_at f ys n x (subst IsSome (sym b.1) refl) e

push_step : {B : Type 0} (o : Option B) (p q : Option (List B)) (v : B) (vs : List B) → with_some o (λ w. with_some p (λ ws. Some (w ∷ ws))) ≡ Some vs → ((ws : List B) → p ≡ Some ws → q ≡ Some (ws ++ v ∷ [])) → with_some o (λ w. with_some q (λ ws. Some (w ∷ ws))) ≡ Some (vs ++ v ∷ [])
push_step (Some w) (Some ws) q v vs e h = let same : vs ≡ w ∷ ws = cc in rw (h ws refl, same) refl
push_step (Some w) None q v vs e h = cc
push_step None p q v vs e h = cc

-- one more
all_some-push : {A B : Type 0} (f : A → Option B) (xs : List A) (x : A) (vs : List B) (v : B) → all_some (map f xs) ≡ Some vs → f x ≡ Some v → all_some (map f (xs ++ x ∷ [])) ≡ Some (vs ++ v ∷ [])
all_some-push f [] x vs v e h = let same : vs ≡ [] = cc in rw (h, same) refl
all_some-push f (y ∷ ys) x vs v e h = push_step (f y) (all_some (map f ys)) _ v vs e (λ ws k. all_some-push f ys x ws v k h)

pub all_some_take : {A B : Type 0} (f : A → Option B) (xs : List A) (n : ℕ) (x : A) (vs : List B) (v : B) → slice_get xs n ≡ Some x → all_some (map f (take n xs)) ≡ Some vs → f x ≡ Some v → all_some (map f (take (n + 1) xs)) ≡ Some (vs ++ v ∷ [])
all_some_take f xs n x vs v at e h =
    let one : take (n + 1) xs ≡ take n xs ++ get_or xs n x ∷ [] = take_more xs n x (slice_get_within xs n x at) in
    let same : get_or xs n x ≡ x = get_or_from_slice_get xs n x x at in
    rw (one, same) (all_some-push f (take n xs) x vs v e h)

-- ---- tests

-- one bit
one_bit : (n : ℕ) → n < 2 ^ 1 → n ≡ bit (nat_eq n 1)
one_bit zero h = refl
one_bit (suc zero) h = refl
one_bit (suc (suc n)) h = absurd (omega arith)

pub some_flag : (s : Option Scalar) → IsSome (bits_of_width (Some 1) s) → (n : ℕ) × (s ≡ Some (Int 1 n)) × (bits_of_width (Some 1) s ≡ Some (bit (nat_eq n 1)))
some_flag s h =
    let b : (n : ℕ) × (s ≡ Some (Int 1 n)) × IsInteger 1 n × (bits_of_width (Some 1) s ≡ Some n) = some_bits 1 s h in
    (b.0, b.1, subst (λ m. bits_of_width (Some 1) s ≡ Some m) (one_bit b.0 b.2.2) b.3)

-- integers that are compared have one width
pub some_comparison : (x y : Scalar) (act : Act) → IsSome (if are_comparable x y then Some act else None) → AreComparable x y × (are_comparable x y ≡ true)
some_comparison (Int w m) (Int v n) act h = grind (arith, nat_tests)
some_comparison _ _ act h = (tt, refl)

-- the width after a conversion
pub some_conversion : (op : ConvertOp) (w v n : ℕ) (act : Act) → IsInteger w n → IsSome (if leads_to op w v then Some act else None) → (1 ≤ v) × (v ≤ 128) × IsConversion op w v × (leads_to op w v ≡ true)
some_conversion conversions.Trunc w v n act i h = grind (arith, nat_tests)
some_conversion conversions.Zext w v n act i h = grind (arith, nat_tests)
some_conversion conversions.Sext w v n act i h = grind (arith, nat_tests)

pub width_within : (g : List TypeDef) (c : ℕ) → IsSome (width_of (slice_get g c)) → c < length g
width_within [] c h = cc
width_within (d ∷ ds) zero h = omega arith
width_within (d ∷ ds) (suc c) h = omega (arith, width_within ds c h)

-- a function, or none
pub some_function : (act : ℕ → Act) (s : Scalar) → IsSome (function_act act s) → (s ≡ Null) ⊎ ((f : ℕ) × (s ≡ Func f))
some_function act (Func f) h = inr (f, refl)
some_function act Null h = inl refl
some_function act (Int w n) h = cc
some_function act (Object o) h = cc
some_function act (Place o a) h = cc
some_function act (Stack k) h = cc
some_function act (Thread t) h = cc

-- an object, or none
pub some_object : (s : Scalar) → IsSome (object_act s) → (s ≡ Null) ⊎ ((n : ℕ) × (s ≡ Object n))
some_object (Object n) h = inr (n, refl)
some_object Null h = inl refl
some_object (Int w n) h = cc
some_object (Place o a) h = cc
some_object (Func f) h = cc
some_object (Stack k) h = cc
some_object (Thread t) h = cc

-- the test of two scalars, by what it tells
only_true : (r x : Bool) → (r ≡ true → x ≡ true) → (x ≡ true → r ≡ true) → r ≡ x
only_true true x h k = sym (h refl)
only_true false true h k = k refl
only_true false false h k = refl

pub same_told : (a b : Scalar) (r : Bool) → (r ≡ true) ↔ (a ≡ b) → r ≡ same_scalar a b
same_told a b r h = only_true r (same_scalar a b) (λ e. (same_scalar-iff a b).1 (h.0 e)) (λ e. h.1 ((same_scalar-iff a b).0 e))

-- ---- options

pub some_map : {A B : Type 0} (f : A → B) (o : Option A) → IsSome (option_map f o) → (a : A) × (o ≡ Some a)
some_map f (Some a) h = (a, refl)
some_map f None h = cc

pub some_and_then : {A B : Type 0} (f : A → Option B) (o : Option A) → IsSome (option_and_then f o) → (a : A) × (o ≡ Some a) × IsSome (f a)
some_and_then f (Some a) h = (a, refl, h)
some_and_then f None h = cc

pub ruleset operands = (with_some_some, some_scalar, some_bits)

pub ruleset flags = (some_scalar, some_flag)

pub ruleset comparisons = (with_some_some, some_scalar, some_comparison)

pub ruleset widths = (width_within)

pub ruleset conversions_there = (with_some_some, some_scalar, some_bits, some_conversion)

pub ruleset functions = (with_some_some, some_scalar, some_function)

pub ruleset objects = (with_some_some, some_scalar, some_object)

pub ruleset classes = (some_map, some_and_then, is_some_within)

pub ruleset lists = (all_some_at, all_some_take)

pub ruleset variables = (is_some_within, appended_own, appended_behind)
