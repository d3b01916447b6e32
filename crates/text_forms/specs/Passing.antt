-- Elements past the limit of their list.
use Rattle.std.specs.Prelude.{◌≡◌, List, [], ◌∷◌, ◌++◌, ◌⊎◌}
use Rattle.text_forms.specs.Tokens.{Tok}
use Rattle.text_forms.specs.Forms.{Form, token, nothing, never, both, on, made, left_out, past, many, lines}
use Rattle.text_forms.specs.Derives.{Derives, Elements}
use Rattle.text_forms.specs.Limits.{Live}

-- these tokens, from the first of an element on, tell that it passes a limit: the last of them begins what stands past it
abbrev pub Leads : {A : Type 0} → Form A → List Tok → Type 0
Leads (token xs) us = ⊥
Leads (nothing a) us = ⊥
Leads never us = ⊥
Leads (both {A} f g) us = Leads f us ⊎ ((u v : List Tok) × (a : A) × (us ≡ u ++ v) × Derives f u a × Leads g v)
Leads (on xs f g) us = Leads f us ⊎ Leads g us
Leads (made h f) us = Leads f us
Leads (left_out xs a) us = ⊥
Leads (past f) us = (t : Tok) × (us ≡ t ∷ []) × Live f us
Leads (many f) us = ⊥
Leads (lines {A} fl flags step f xs g s) us = (read : List A) × Elements flags step (λ y. Derives (f y)) (λ _ v. Leads g v) s us read

-- after the tokens ts an element of a list begins, and its tokens us tell that it passes a limit
abbrev pub Passes : {A : Type 0} → Form A → List Tok → List Tok → Type 0
Passes (token xs) ts us = ⊥
Passes (nothing a) ts us = ⊥
Passes never ts us = ⊥
Passes (both {A} f g) ts us = Passes f ts us ⊎ ((u v : List Tok) × (a : A) × (ts ≡ u ++ v) × Derives f u a × Passes g v us)
Passes (on xs f g) ts us = Passes f ts us ⊎ Passes g ts us
Passes (made h f) ts us = Passes f ts us
Passes (left_out xs a) ts us = ⊥
Passes (past f) ts us = ⊥
Passes (many f) ts us = ⊥
Passes (lines {A} fl flags step f xs g s) ts us =
    (read : List A) × Elements flags step (λ y. Derives (f y)) (λ s v. ((v ≡ []) × Leads (f (flags s)) us) ⊎ (Passes (f (flags s)) v us ⊎ Passes g v us)) s ts read
