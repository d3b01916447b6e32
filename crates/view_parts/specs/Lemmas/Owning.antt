-- A new place has its owner.
use Rattle.std.proofs.Common.{◌≡◌, ℕ, suc, zero, ◌+◌, Bool, true, false, cond, List, [], ◌∷◌, ◌++◌, length, Some, refl, sym, ◌∙◌, arith}
use Rattle.std.specs.Prelude.{slice_get}
use Rattle.mu_values.specs.declared.cells.CellId.{CellId}
use Rattle.mu_values.specs.SameCell.{same_cell}
use Rattle.mu_values.specs.CellLaws.{same_cell-true}
use Rattle.view_parts.specs.Placing.{Owned}

get-kept : (xs : List CellId) (y x : CellId) (p : ℕ) → slice_get xs p ≡ Some x → slice_get (xs ++ y ∷ []) p ≡ Some x
get-kept [] y x p h = absurd (cc)
get-kept (z ∷ xs) y x zero h = h
get-kept (z ∷ xs) y x (suc p) h = get-kept xs y x p h

get-new : (xs : List CellId) (y : CellId) → slice_get (xs ++ y ∷ []) (length xs) ≡ Some y
get-new [] y = refl
get-new (x ∷ xs) y = get-new xs y

pub owned-more : (numbers numbers' : CellId → ℕ) (owners : List CellId) (cell : CellId) (n : ℕ) → n ≡ length owners + 1 → ((c : CellId) → numbers' c ≡ cond (same_cell c cell) n (numbers c)) → Owned numbers owners → Owned numbers' (owners ++ cell ∷ [])
owned-more numbers numbers' owners cell n at h o c p e = go (same_cell c cell) refl (sym (h c) ∙ e)
  where
    go : (b : Bool) → same_cell c cell ≡ b → cond b n (numbers c) ≡ suc p → slice_get (owners ++ cell ∷ []) p ≡ Some c
    go true q s = let z : p ≡ length owners = omega arith in rw (z, same_cell-true c cell q) (get-new owners cell)
    go false q s = get-kept owners cell c p (o c p s)

pub owned-none : (numbers : CellId → ℕ) (owners : List CellId) → ((c : CellId) → numbers c ≡ 0) → Owned numbers owners
owned-none numbers owners h c p e = absurd (let z = h c in omega (arith, z, e))
