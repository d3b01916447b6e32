-- The order on scalars is a strict order, and any two scalars stand in it.
use Rattle.std.proofs.Common.{◌≡◌, ◌<◌, true, false, if◌then◌else◌, ◌==◌, refl, sym, ap, ◌∙◌, inl, inr, ◌⊎◌, arith}
use Rattle.std.proofs.lemmas.Bool.{false≢true, eq-eqb, ne_eqb, ltb-true, lt-ltb, cases_eq, cases_lt}
use Rattle.mu_values.specs.declared.scalars.Scalar.{Scalar}
use Rattle.mu_values.specs.declared.scalars.Scalar.TheVariants.{Int, Null, Object, Place, Func, Stack, Thread}
use Rattle.write_history.specs.ScalarOrder.{key_of, is_below, is_lower}
use Rattle.write_history.specs.declared.scalar_order.SortKey.{SortKey}

-- the scalar of a key
abbrev scalar_of : SortKey → Scalar
scalar_of k =
    if k.kind == 0 then Null else if k.kind == 1 then Object k.first else if k.kind == 2 then Place k.first k.second else if k.kind == 3 then Func k.first
    else if k.kind == 4 then Stack k.first else if k.kind == 5 then Thread k.first else Int k.second k.first

back : (a : Scalar) → scalar_of (key_of a) ≡ a
back Null = refl
back (Object n) = refl
back (Place n i) = refl
back (Func n) = refl
back (Stack n) = refl
back (Thread n) = refl
back (Int width bits) = refl

-- a key below another, by its parts
abbrev Below : SortKey → SortKey → Type 0
Below a b = (a.kind < b.kind) ⊎ ((a.kind ≡ b.kind) × ((a.first < b.first) ⊎ ((a.first ≡ b.first) × (a.second < b.second))))

from : (a b : SortKey) → is_below a b ≡ true → Below a b
from a b h = elim (cases_eq a.kind b.kind) [
  | inl e ↦ elim (cases_eq a.first b.first) [
    | inl f ↦ inr (e, inr (f, ltb-true a.second b.second (rw (eq-eqb a.kind b.kind e, eq-eqb a.first b.first f) at h)))
    | inr g ↦ inr (e, inl (ltb-true a.first b.first (rw (eq-eqb a.kind b.kind e, ne_eqb a.first b.first g) at h)))
  ]
  | inr n ↦ inl (ltb-true a.kind b.kind (rw (ne_eqb a.kind b.kind n) at h))
]

to : (a b : SortKey) → Below a b → is_below a b ≡ true
to a b (inl l) = rw (ne_eqb a.kind b.kind (λ e. omega arith)) (lt-ltb a.kind b.kind l)
to a b (inr (e, inl l)) = rw (eq-eqb a.kind b.kind e, ne_eqb a.first b.first (λ f. omega arith)) (lt-ltb a.first b.first l)
to a b (inr (e, inr (f, l))) = rw (eq-eqb a.kind b.kind e, eq-eqb a.first b.first f) (lt-ltb a.second b.second l)

below-trans : (a b c : SortKey) → Below a b → Below b c → Below a c
below-trans a b c (inl l) (inl m) = inl (omega arith)
below-trans a b c (inl l) (inr (e, m)) = inl (omega arith)
below-trans a b c (inr (e, l)) (inl m) = inl (omega arith)
below-trans a b c (inr (e, inl l)) (inr (f, inl m)) = inr (e ∙ f, inl (omega arith))
below-trans a b c (inr (e, inl l)) (inr (f, inr (g, m))) = inr (e ∙ f, inl (omega arith))
below-trans a b c (inr (e, inr (g, l))) (inr (f, inl m)) = inr (e ∙ f, inl (omega arith))
below-trans a b c (inr (e, inr (g, l))) (inr (f, inr (h, m))) = inr (e ∙ f, inr (g ∙ h, omega arith))

below-not : (a : SortKey) → Below a a → ⊥
below-not a (inl l) = omega arith
below-not a (inr (e, inl l)) = omega arith
below-not a (inr (e, inr (f, l))) = omega arith

pub lower-trans : (a b c : Scalar) → is_lower a b ≡ true → is_lower b c ≡ true → is_lower a c ≡ true
lower-trans a b c h k = to (key_of a) (key_of c) (below-trans (key_of a) (key_of b) (key_of c) (from (key_of a) (key_of b) h) (from (key_of b) (key_of c) k))

pub lower-not : (a : Scalar) → is_lower a a ≡ true → ⊥
lower-not a h = below-not (key_of a) (from (key_of a) (key_of a) h)

pub lower-one : (a b : Scalar) → is_lower a b ≡ true → is_lower b a ≡ true → ⊥
lower-one a b h k = lower-not a (lower-trans a b a h k)

same-key : (a b : SortKey) → a.kind ≡ b.kind → a.first ≡ b.first → a.second ≡ b.second → a ≡ b
same-key a b e f g = λ i. record { kind = e i; first = f i; second = g i }

-- any two stand in the order, or are one
pub lower-cases : (a b : Scalar) → is_lower b a ≡ false → (is_lower a b ≡ true) ⊎ (a ≡ b)
lower-cases a b h = elim (cases_lt k.kind m.kind) [
  | inl l ↦ inl (to k m (inl l))
  | inr l ↦ elim (cases_eq k.kind m.kind) [
    | inr n ↦ absurd (no (inl (omega arith)))
    | inl e ↦ elim (cases_lt k.first m.first) [
      | inl f ↦ inl (to k m (inr (e, inl f)))
      | inr f ↦ elim (cases_eq k.first m.first) [
        | inr n ↦ absurd (no (inr (sym e, inl (omega arith))))
        | inl g ↦ elim (cases_lt k.second m.second) [
          | inl s ↦ inl (to k m (inr (e, inr (g, s))))
          | inr s ↦ elim (cases_eq k.second m.second) [
            | inr n ↦ absurd (no (inr (sym e, inr (sym g, omega arith))))
            | inl t ↦ inr (sym (back a) ∙ (ap scalar_of (same-key k m e g t) ∙ back b))
          ]
        ]
      ]
    ]
  ]
]
  where
    k : SortKey
    k = key_of a

    m : SortKey
    m = key_of b

    no : Below m k → ⊥
    no w = false≢true (sym h ∙ to m k w)
