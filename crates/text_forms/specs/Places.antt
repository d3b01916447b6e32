-- Tokens that are the same save places, as those of a text that was written anew.
use Rattle.std.specs.Prelude.{◌≡◌, List, [], ◌∷◌}
use Rattle.text_forms.specs.Tokens.{Tok}
use Rattle.text_forms.specs.Forms.{Form, token, nothing, never, both, on, made, left_out, past, many, lines}
use Rattle.text_forms.specs.Derives.{Derives}

-- the same symbols and spellings, one by one
unfoldable pub Agree : List Tok → List Tok → Type 0
Agree [] [] = Unit {0}
Agree [] (u ∷ us) = ⊥
Agree (t ∷ ts) [] = ⊥
Agree (t ∷ ts) (u ∷ us) = (t.symbol ≡ u.symbol) × (t.spelling ≡ u.spelling) × Agree ts us

-- where tokens stand does not tell how a list goes on: the state behind an element is the same wherever its tokens stand
abbrev pub IsPlaceFree : {A : Type 0} → Form A → Type 0
IsPlaceFree (token xs) = Unit {0}
IsPlaceFree (nothing a) = Unit {0}
IsPlaceFree never = Unit {0}
IsPlaceFree (both f g) = IsPlaceFree f × IsPlaceFree g
IsPlaceFree (on xs f g) = IsPlaceFree f × IsPlaceFree g
IsPlaceFree (made h f) = IsPlaceFree f
IsPlaceFree (left_out xs a) = Unit {0}
IsPlaceFree (past f) = Unit {0}
IsPlaceFree (many f) = IsPlaceFree f
IsPlaceFree (lines {A} {B} {S} {F} fl flags step f xs g s) =
    ((s : S) (ts us : List Tok) (a b : A) → Derives (f (flags s)) ts a → Derives (f (flags s)) us b → Agree ts us → step s a ≡ step s b) × ((y : F) → IsPlaceFree (f y)) × IsPlaceFree g
