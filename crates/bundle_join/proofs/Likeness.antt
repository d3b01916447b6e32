-- Lemmas on names that are the same.
use Rattle.std.specs.Prelude.{◌≡◌, suc, Bool, true, false, ◌&&◌, List, [], ◌∷◌, length, refl}
use Rattle.std.proofs.Common.{ap}
use Rattle.ir_lex.specs.declared.name.Name.{Name}
use Rattle.bundle_join.specs.Alike.{same_name, same_names}

and_false : (b c : Bool) → c ≡ false → (b && c) ≡ false
and_false true c h = h
and_false false c h = refl

-- lists of the same names are equally long
pub unequal : (ns ms : List Name) → (length ns ≡ length ms → ⊥) → same_names ns ms ≡ false
unequal [] [] h = absurd (h refl)
unequal [] (m ∷ ms) h = refl
unequal (n ∷ ns) [] h = refl
unequal (n ∷ ns) (m ∷ ms) h = and_false (same_name n m) (same_names ns ms) (unequal ns ms (λ e. h (ap suc e)))
