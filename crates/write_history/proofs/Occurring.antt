-- How often a value occurs below a position.
use Rattle.std.proofs.Common.{◌≡◌, ℕ, suc, zero, ◌+◌, ◌-◌, ◌<◌, ◌≤◌, Bool, true, false, cond, List, [], ◌∷◌, ◌++◌, length, length-drop, take, drop, refl, sym, ap, subst, ◌∙◌, inl, inr, arith}
use Rattle.std.proofs.lemmas.Bool.{cases_lt}
use Rattle.std.proofs.lemmas.List.{take_all, take-take, take_more, length-take-le}
use Rattle.std.proofs.lemmas.List.Sums.{sum_by_push, sum_by-take-le, sum_by-take-drop, count_by-le-length}
use Rattle.mu_values.specs.declared.scalars.Scalar.{Scalar}
use Rattle.mu_values.specs.declared.scalars.Scalar.TheVariants.{Null}
use Rattle.mu_values.specs.SameScalar.{same_scalar}
use Rattle.mu_values.specs.ScalarLaws.{same_scalar-refl, same_scalar-true}
use Rattle.write_history.specs.Occurrences.{occurrences}
use Rattle.write_history.specs.ByValue.{value_in}

pub occurrences-take : (v : Scalar) (values : List Scalar) (i j : ℕ) → i ≤ j → occurrences v (take i values) ≤ occurrences v (take j values)
occurrences-take v values i j l = subst (λ (xs : List Scalar). occurrences v xs ≤ occurrences v (take j values)) (take-take i j values l) (sum_by-take-le (λ x. cond (same_scalar x v) 1 0) (take j values) i)

pub occurrences-push : (v : Scalar) (values : List Scalar) (y : Scalar) → occurrences v (values ++ y ∷ []) ≡ occurrences v values + cond (same_scalar y v) 1 0
occurrences-push v values y = sum_by_push (λ x. cond (same_scalar x v) 1 0) values y

-- no more than there are positions
pub occurrences-few : (v : Scalar) (values : List Scalar) (i : ℕ) → i ≤ length values → occurrences v (take i values) ≤ i
occurrences-few v values i l = let a = count_by-le-length (λ x. same_scalar x v) (take i values) in let b = length-take-le i values l in omega (arith, a, b)

-- one more position
occurrences-more : (v : Scalar) (values : List Scalar) (i : ℕ) → i < length values → occurrences v (take (i + 1) values) ≡ occurrences v (take i values) + cond (same_scalar (value_in values i) v) 1 0
occurrences-more v values i l = ap (occurrences v) (take_more values i Null l) ∙ occurrences-push v (take i values) (value_in values i)

pub occurrences-here : (v : Scalar) (values : List Scalar) (i : ℕ) → i < length values → value_in values i ≡ v → occurrences v (take (i + 1) values) ≡ occurrences v (take i values) + 1
occurrences-here v values i l e = occurrences-more v values i l ∙ ap (λ (b : Bool). occurrences v (take i values) + cond b 1 0) (ap (λ (x : Scalar). same_scalar x v) e ∙ same_scalar-refl v)

-- where none of some positions has the value, as many below the last of them as below the first
pub occurrences-none : (v : Scalar) (values : List Scalar) (i n : ℕ) → ((q : ℕ) → i ≤ q → q < i + n → q < length values → value_in values q ≡ v → ⊥) → occurrences v (take (i + n) values) ≡ occurrences v (take i values)
occurrences-none v values i zero h = ap (λ (k : ℕ). occurrences v (take k values)) (omega arith)
occurrences-none v values i (suc n) h =
    let before = occurrences-none v values i n (λ q a b c e. h q a (omega arith) c e) in
    let at : i + suc n ≡ (i + n) + 1 = omega arith in
    elim (cases_lt (i + n) (length values)) [
      | inl l ↦ ap (λ (k : ℕ). occurrences v (take k values)) at ∙ (occurrences-more v values (i + n) l ∙ (by l (same_scalar (value_in values (i + n)) v) refl ∙ before))
      | inr l ↦ ap (occurrences v) (take_all (i + suc n) values (omega arith) ∙ sym (take_all (i + n) values l)) ∙ before
    ]
  where
    by : i + n < length values → (b : Bool) → same_scalar (value_in values (i + n)) v ≡ b → occurrences v (take (i + n) values) + cond (same_scalar (value_in values (i + n)) v) 1 0 ≡ occurrences v (take (i + n) values)
    by l true q = absurd (h (i + n) (omega arith) (omega arith) l (same_scalar-true (value_in values (i + n)) v q))
    by l false q = ap (λ (b : Bool). occurrences v (take (i + n) values) + cond b 1 0) q ∙ omega arith

-- the same from one position up to another
pub occurrences-between : (v : Scalar) (values : List Scalar) (i j : ℕ) → i ≤ j → ((q : ℕ) → i ≤ q → q < j → q < length values → value_in values q ≡ v → ⊥) → occurrences v (take j values) ≡ occurrences v (take i values)
occurrences-between v values i j l h =
    let e : i + (j - i) ≡ j = omega arith in
    ap (λ (k : ℕ). occurrences v (take k values)) (sym e) ∙ occurrences-none v values i (j - i) (λ q a b c w. h q a (omega arith) c w)

-- between two positions a value occurs no more often than there are positions
pub occurrences-within : (v : Scalar) (values : List Scalar) (i j : ℕ) → i ≤ j → j ≤ length values → occurrences v (take j values) + i ≤ occurrences v (take i values) + j
occurrences-within v values i j l m =
    let f : Scalar → ℕ = λ x. cond (same_scalar x v) 1 0 in
    let cut = sum_by-take-drop f (take j values) i in
    let front : occurrences v (take i (take j values)) ≡ occurrences v (take i values) = ap (occurrences v) (take-take i j values l) in
    let back = count_by-le-length (λ x. same_scalar x v) (drop i (take j values)) in
    let few = length-drop i (take j values) in
    let all = length-take-le j values m in
    omega (arith, cut, front, back, few, all, l)
