-- The last of some names, and those before.
use Rattle.std.proofs.Common.{◌≡◌, List, [], ◌∷◌, ◌++◌, refl, sym, ap, ◌∙◌}
use Rattle.ir_lex.specs.declared.name.Name.{Name}
use Rattle.ir_tree.specs.declared.definitions.TypeForm.TheVariants as types
use Rattle.ir_tree.specs.Types.{all_but_last, last_of}
use Rattle.ir_text.specs.NameLists.{hybrid_of}

before_last : (g : Name) (gs : List Name) (x : Name) → all_but_last g (gs ++ x ∷ []) ≡ g ∷ gs
before_last g [] x = refl
before_last g (h ∷ hs) x = ap (λ (l : List Name). g ∷ l) (before_last h hs x)

is_last : (g : Name) (gs : List Name) (x : Name) → last_of g (gs ++ x ∷ []) ≡ x
is_last g [] x = refl
is_last g (h ∷ hs) x = is_last h hs x

parted : (fixed : List Name) (x : Name) → types.Hybrid fixed x ≡ hybrid_of (fixed ++ x ∷ [])
parted [] x = refl
parted (g ∷ gs) x = rw (before_last g gs x, is_last g gs x) refl

pub is_hybrid : (names fixed : List Name) (x : Name) → names ≡ fixed ++ x ∷ [] → types.Hybrid fixed x ≡ hybrid_of names
is_hybrid names fixed x e = parted fixed x ∙ ap hybrid_of (sym e)
