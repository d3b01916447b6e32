-- Of how many leaves a definition has, up to a limit.
use Rattle.std.proofs.Common.{◌≡◌, ℕ, zero, suc, ◌+◌, ◌*◌, ◌≤◌, List, [], ◌∷◌, length, min, refl, sym, ◌∙◌, ap, arith, inl, inr, suc-mul, mul_comm, zero-mul}
use Rattle.std.proofs.lemmas.List.Sums.{sum_by-cons}
use Rattle.std.proofs.lemmas.Int.{clamps}
use Rattle.std.specs.List.{All, sum_by}
use Rattle.std.proofs.lemmas.Bool.{cases_lt}
use Rattle.std.proofs.lemmas.List.{length-append}
use Rattle.std.proofs.lemmas.List.Concat.{length-flat_map}
use Rattle.type_definitions.specs.declared.definition.TypeDef.{TypeDef}
use Rattle.type_definitions.specs.declared.definition.TypeDef.TheVariants.{Int, Struct, Array, Hybrid, Void, Ref, Iref, FuncRef, StackRef, ThreadRef, Sig}
use Rattle.std.proofs.lemmas.List.Elements.{All-head, All-tail}
use Rattle.type_definitions.specs.Parts.{parts}
use Rattle.type_definitions.specs.Leaves.{times, leaves_by}
use Rattle.type_definitions.specs.Lemmas.Respect.{front_all}
use Rattle.type_definitions.specs.Counts.{count_by}

length_times : (n : ℕ) (xs : List ℕ) → length (times n xs) ≡ n * length xs
length_times zero xs = sym (zero-mul (length xs))
length_times (suc n) xs = let h = length_times n xs in let a = length-append xs (times n xs) in let b = suc-mul n (length xs) in omega (arith, h, a, b)

pub counted : (of : ℕ → List ℕ) (t : ℕ) (d : TypeDef) → length (leaves_by of t d) ≡ count_by (λ p. length (of p)) d
counted of t (Int width) = refl
counted of t (Struct fields) = length-flat_map of fields
counted of t (Array element size) = length_times size (of element)
counted of t (Hybrid fixed element) = length-flat_map of fixed
counted of t Void = refl
counted of t (Ref x) = refl
counted of t (Iref x) = refl
counted of t (FuncRef s) = refl
counted of t StackRef = refl
counted of t ThreadRef = refl
counted of t (Sig takes gives) = refl

min_low : (m x : ℕ) → x ≤ m → min m x ≡ x
min_low m x l = omega (arith, clamps)

min_high : (m x : ℕ) → m ≤ x → min m x ≡ m
min_high m x l = omega (arith, clamps)

pub capped_product : (m s x : ℕ) → min m (s * min m x) ≡ min m (s * x)
capped_product m zero x = ap (λ k. min m k) (zero-mul (min m x) ∙ sym (zero-mul x))
capped_product m (suc s) x = elim (cases_lt m x) [
  | inl l ↦ let e : min m x ≡ m = min_high m x (omega arith) in let a = suc-mul s (min m x) in let b = suc-mul s x in omega (arith, clamps, e, a, b)
  | inr l ↦ let e : min m x ≡ x = min_low m x (omega arith) in rw e refl
]

pub capped_both : (m s x : ℕ) → min m (min m s * min m x) ≡ min m (s * x)
capped_both m s x = ap (λ k. min m k) (mul_comm (min m s) (min m x)) ∙ (capped_product m (min m x) s ∙ (ap (λ k. min m k) (mul_comm (min m x) s) ∙ capped_product m s x))

pub capped_each : (m : ℕ) (c l : ℕ → ℕ) (xs : List ℕ) → All (λ x. c x ≡ min m (l x)) xs → min m (sum_by c xs) ≡ min m (sum_by l xs)
capped_each m c l [] h = refl
capped_each m c l (x ∷ xs) h =
    let i = capped_each m c l xs (All-tail (λ y. c y ≡ min m (l y)) x xs h) in
    let e = All-head (λ y. c y ≡ min m (l y)) x xs h in
    omega (arith, clamps, i, e, sum_by-cons c x xs, sum_by-cons l x xs)

pub capped_count : (m : ℕ) (c l : ℕ → ℕ) (d : TypeDef) → All (λ x. c x ≡ min m (l x)) (parts d) → min m (count_by c d) ≡ min m (count_by l d)
capped_count m c l (Int width) h = refl
capped_count m c l (Struct fields) h = capped_each m c l fields h
capped_count m c l (Array element size) h = ap (λ k. min m (size * k)) (All-head (λ x. c x ≡ min m (l x)) element [] h) ∙ capped_product m size (l element)
capped_count m c l (Hybrid fixed element) h = capped_each m c l fixed (front_all (λ x. c x ≡ min m (l x)) fixed element h)
capped_count m c l Void h = refl
capped_count m c l (Ref x) h = refl
capped_count m c l (Iref x) h = refl
capped_count m c l (FuncRef s) h = refl
capped_count m c l StackRef h = refl
capped_count m c l ThreadRef h = refl
capped_count m c l (Sig takes gives) h = refl
