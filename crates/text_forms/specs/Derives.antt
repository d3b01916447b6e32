-- What a form derives: which lists of tokens stand for which meanings.
use Rattle.std.specs.Prelude.{◌≡◌, true, List, [], ◌∷◌, ◌++◌, ◌⊎◌}
use Rattle.text_forms.specs.Tokens.{Tok, has}
use Rattle.text_forms.specs.Forms.{Form, token, nothing, never, both, on, made, left_out, past, many, lines}

-- tokens that are the elements, one after the other
abbrev pub Each : {A : Type 0} → (List Tok → A → Type 0) → List Tok → List A → Type 0
Each P ts [] = ts ≡ []
Each P ts (x ∷ xs) = (u v : List Tok) × (ts ≡ u ++ v) × P u x × Each P v xs

-- tokens that are the elements, each as the flags of the state before it tell, and then tokens of which Q holds
abbrev pub Elements : {A S F : Type 0} → (S → F) → (S → A → S) → (F → List Tok → A → Type 0) → (S → List Tok → Type 0) → S → List Tok → List A → Type 0
Elements flags step P Q s ts [] = Q s ts
Elements flags step P Q s ts (x ∷ xs) = (u v : List Tok) × (ts ≡ u ++ v) × P (flags s) u x × Elements flags step P Q (step s x) v xs

abbrev pub Derives : {A : Type 0} → Form A → List Tok → A → Type 0
Derives (token xs) ts x = (ts ≡ x ∷ []) × (has xs x.symbol ≡ true)
Derives (nothing a) ts x = (ts ≡ []) × (x ≡ a)
Derives never ts x = ⊥
Derives (both f g) ts x = (u v : List Tok) × (ts ≡ u ++ v) × Derives f u x.0 × Derives g v x.1
Derives (on xs f g) ts x = Derives f ts x ⊎ Derives g ts x
Derives (made {A} h f) ts x = (a : A) × Derives f ts a × (x ≡ h a)
Derives (left_out xs a) ts x = ⊥
Derives (past f) ts x = ⊥
Derives (many f) ts xs = Each (Derives f) ts xs
Derives (lines fl flags step f xs g s) ts x = Elements flags step (λ y. Derives (f y)) (λ _ v. Derives g v x.1) s ts x.0
