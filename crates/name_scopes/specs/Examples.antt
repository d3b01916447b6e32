-- Worked examples.
use Rattle.std.specs.Prelude.{◌≡◌, ℕ, [], ◌∷◌, Some, None, codes, refl}
use Rattle.name_scopes.specs.Names.{found, added}

-- the first definition of a name stands
first_stands : added {T = ℕ} ((codes "%a", 1) ∷ (codes "%b", 2) ∷ []) (codes "%a") 3 ≡ (codes "%a", 1) ∷ (codes "%b", 2) ∷ []
first_stands = refl

new_goes_last : added {T = ℕ} ((codes "%a", 1) ∷ []) (codes "%b") 2 ≡ (codes "%a", 1) ∷ (codes "%b", 2) ∷ []
new_goes_last = refl

is_found : found {T = ℕ} ((codes "%a", 1) ∷ (codes "%b", 2) ∷ []) (codes "%b") ≡ Some 2
is_found = refl

is_not_found : found {T = ℕ} ((codes "%a", 1) ∷ []) (codes "%aa") ≡ None
is_not_found = refl
