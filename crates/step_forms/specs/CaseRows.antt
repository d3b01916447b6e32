-- Nothing that a reader believes of a run rests on this. It is what is kept beside the cases of a SWITCH.
use Rattle.std.specs.Prelude.{◌≡◌, ◌≢◌, ℕ, zero, suc, ◌≤◌, ◌==◌, false, List, [], ◌∷◌, ◌++◌, Option, Some, None, IsSome, map, length, slice_get, slice_set, refl, ⊤}
use Rattle.std.proofs.Common.{sym, ap, arith, subst, ◌⊎◌, inl, inr}
use Rattle.std.proofs.lemmas.Bool.Decides.{eqb_tells}
use Rattle.std.proofs.Math.Bool.{and-false}
use Rattle.ir_tree.specs.declared.items.Item.{Item}
use Rattle.mu_values.specs.declared.scalars.Scalar.{Scalar}
use Rattle.mu_values.specs.declared.scalars.Scalar.TheVariants.{Int}
use Rattle.mu_values.specs.SameScalar.{same_scalar}
use Rattle.checked_code.specs.declared.code.CaseForm.{CaseForm}
use Rattle.checked_code.specs.declared.code.ControlForm.TheVariants.{Switch}
use Rattle.checked_code.specs.declared.code.Form.{Form}
use Rattle.checked_code.specs.declared.code.Form.TheVariants.{Control}
use Rattle.checked_code.specs.declared.code.Code.{Code}
use Rattle.checked_code.specs.Constants.{constant_values}
use Rattle.checked_code.specs.Checking.{bundle_tables}
use Rattle.checked_code.specs.Answers.{code_at}
use Rattle.frames.specs.Activations.{Value}
use Rattle.mu_model.specs.Operands.{scalar_in}
use Rattle.step_forms.specs.ConstantLaws.{constant_within}
use Rattle.step_forms.specs.declared.case_rows.Row.{Row}

-- ---- bits

-- the bits of an integer, and 0 of other scalars
abbrev pub bits_of : Scalar → ℕ
bits_of (Int width bits) = bits
bits_of _ = 0

-- that of a value of one scalar, of a constant of a bundle, and of the constant of a case
abbrev pub bits_in : Option Value → ℕ
bits_in (Some (s ∷ [])) = bits_of s
bits_in _ = 0

abbrev pub constant_bits : List Item → ℕ → ℕ
constant_bits bundle n = bits_in (slice_get (constant_values (bundle_tables bundle) bundle) n)

abbrev pub case_bits : List Item → CaseForm → ℕ
case_bits bundle c = constant_bits bundle c.constant

-- ---- the cases of an instruction

-- the cases of a form, of an instruction, and of that at a place of a block: none where that is no SWITCH
abbrev pub cases_of : Form → List CaseForm
cases_of (Control (Switch c a t cs)) = cs
cases_of _ = []

abbrev pub cases_in : Option Code → List CaseForm
cases_in (Some i) = cases_of i.form
cases_in None = []

abbrev pub cases_at : List Item → ℕ → ℕ → List CaseForm
cases_at bundle block at = cases_in (code_at bundle block at)

-- ---- rows

-- the row of a block has the bits of the constants of the SWITCH at its place; one that is not made yet says nothing
abbrev pub IsRow : List Item → ℕ → Option Row → Type 0
IsRow bundle block None = ⊤
IsRow bundle block (Some r) = r.bits.items ≡ map (case_bits bundle) (cases_at bundle block r.at)

-- so it is with each block
abbrev pub AreRows : List Item → List (Option Row) → Type 0
AreRows bundle rows = (n : ℕ) (r : Option Row) → slice_get rows n ≡ Some r → IsRow bundle n r

pub no_rows : (bundle : List Item) → AreRows bundle []
no_rows bundle n r e = cc

-- a row that is not made yet behind the others
pushed : (rows : List (Option Row)) (n : ℕ) (r : Option Row) → slice_get (rows ++ None ∷ []) n ≡ Some r → (slice_get rows n ≡ Some r) ⊎ (r ≡ None)
pushed [] zero r e = inr cc
pushed [] (suc n) r e = cc
pushed (q ∷ rows) zero r e = inl e
pushed (q ∷ rows) (suc n) r e = pushed rows n r e

pub one_more_row : (bundle : List Item) (rows : List (Option Row)) → AreRows bundle rows → AreRows bundle (rows ++ None ∷ [])
one_more_row bundle rows h n r e = elim (pushed rows n r e) [ inl old ↦ h n r old | inr none ↦ subst (IsRow bundle n) (sym none) tt ]

-- a row in the place of another
placed : (rows : List (Option Row)) (k n : ℕ) (q r : Option Row) → slice_get (slice_set rows k q) n ≡ Some r → (slice_get rows n ≡ Some r) ⊎ ((n ≡ k) × (r ≡ q))
placed [] k n q r e = cc
placed (p ∷ rows) zero zero q r e = inr (refl, cc)
placed (p ∷ rows) zero (suc n) q r e = inl e
placed (p ∷ rows) (suc k) zero q r e = inl e
placed (p ∷ rows) (suc k) (suc n) q r e = elim (placed rows k n q r e) [ inl old ↦ inl old | inr new ↦ inr (ap suc new.0, new.1) ]

pub row_placed : (bundle : List Item) (rows : List (Option Row)) (k : ℕ) (q : Option Row) → AreRows bundle rows → IsRow bundle k q → AreRows bundle (slice_set rows k q)
row_placed bundle rows k q h is n r e =
    elim (placed rows k n q r e) [ inl old ↦ h n r old | inr new ↦ subst (λ n. IsRow bundle n r) (sym new.0) (subst (IsRow bundle k) (sym new.1) is) ]

pub row_found : (bundle : List Item) (rows : List (Option Row)) (block at : ℕ) (r : Row) → AreRows bundle rows → slice_get rows block ≡ Some (Some r) → r.at ≡ at → r.bits.items ≡ map (case_bits bundle) (cases_at bundle block at)
row_found bundle rows block at r h e same = subst (λ at. r.bits.items ≡ map (case_bits bundle) (cases_at bundle block at)) same (h block (Some r) e)

-- ---- what bits tell

no_bits : (o : Option Value) → (IsSome o → ⊥) → 0 ≡ bits_in o
no_bits None h = refl
no_bits (Some v) h = absurd (h refl)

pub no_constant : (bundle : List Item) (n : ℕ) → length (bundle_tables bundle).constants ≤ n → 0 ≡ constant_bits bundle n
no_constant bundle n h = no_bits _ (λ some. let within = constant_within bundle n some in omega (arith, h, within))

pub bits_differ : (s c : Scalar) → bits_of s ≢ bits_of c → same_scalar s c ≡ false
bits_differ (Int w m) (Int v n) h = elim (eqb_tells m n) [ inl t ↦ absurd (h t.1) | inr f ↦ rw f.0 (and-false (w == v)) ]
bits_differ (Int w m) _ h = refl
bits_differ _ (Int v n) h = refl
bits_differ _ _ h = absurd (h refl)

pub bits_tell : (o : Option Value) (s c : Scalar) → scalar_in o ≡ Some c → bits_of s ≢ bits_in o → false ≡ same_scalar s c
bits_tell None s c e h = cc
bits_tell (Some []) s c e h = cc
bits_tell (Some (t ∷ [])) s c e h = let same : t ≡ c = cc in sym (bits_differ s c (subst (λ t. bits_of s ≢ bits_of t) same h))
bits_tell (Some (t ∷ (u ∷ ts))) s c e h = cc

pub ruleset constants = (no_constant)

pub ruleset found = (row_found)

pub ruleset rows = (no_rows, one_more_row, row_placed)

pub ruleset bits = (bits_tell)
