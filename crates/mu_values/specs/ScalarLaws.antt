-- The test of two scalars is their equality.
use Rattle.std.proofs.Common.{◌≡◌, ◌↔◌, ◌&&◌, eqb, ℕ, true, refl, ap, ◌∙◌}
use Rattle.std.proofs.lemmas.Bool.{eq-eqb, eqb-true, and_from, and_parts, false≢true}
use Rattle.mu_values.specs.SameScalar.{same_scalar}
use Rattle.mu_values.specs.declared.scalars.Scalar.{Scalar}
use Rattle.mu_values.specs.declared.scalars.Scalar.TheVariants.{Int, Null, Object, Place, Func, Stack, Thread}

two-refl : (m n : ℕ) → (eqb m m && eqb n n) ≡ true
two-refl m n = and_from (eqb m m) (eqb n n) (eq-eqb m m refl) (eq-eqb n n refl)

two-true : (f : ℕ → ℕ → Scalar) (m n m' n' : ℕ) → (eqb m m' && eqb n n') ≡ true → f m n ≡ f m' n'
two-true f m n m' n' h =
    let p = and_parts (eqb m m') (eqb n n') h in
    ap (λ (k : ℕ). f k n) (eqb-true m m' p.0) ∙ ap (λ (k : ℕ). f m' k) (eqb-true n n' p.1)

pub same_scalar-refl : (a : Scalar) → same_scalar a a ≡ true
same_scalar-refl (Int width bits) = two-refl width bits
same_scalar-refl Null = refl
same_scalar-refl (Object n) = eq-eqb n n refl
same_scalar-refl (Place n i) = two-refl n i
same_scalar-refl (Func n) = eq-eqb n n refl
same_scalar-refl (Stack n) = eq-eqb n n refl
same_scalar-refl (Thread n) = eq-eqb n n refl

pub same_scalar-true : (a b : Scalar) → same_scalar a b ≡ true → a ≡ b
same_scalar-true (Int width bits) (Int width' bits') h = two-true Int width bits width' bits' h
same_scalar-true Null Null h = refl
same_scalar-true (Object n) (Object m) h = ap Object (eqb-true n m h)
same_scalar-true (Place n i) (Place m j) h = two-true Place n i m j h
same_scalar-true (Func n) (Func m) h = ap Func (eqb-true n m h)
same_scalar-true (Stack n) (Stack m) h = ap Stack (eqb-true n m h)
same_scalar-true (Thread n) (Thread m) h = ap Thread (eqb-true n m h)
same_scalar-true _ _ h = absurd (false≢true h)

pub same_scalar-iff : (a b : Scalar) → (same_scalar a b ≡ true) ↔ (a ≡ b)
same_scalar-iff a b = (same_scalar-true a b, λ p. rw p (same_scalar-refl b))
