-- A form whose lists have no limits is passed by no element.
use Rattle.std.proofs.Common.{◌≡◌, Bool, true, false, List, [], ◌∷◌, inl, inr, ◌&&◌}
use Rattle.std.specs.Prelude.{◌⊎◌}
use Rattle.text_forms.specs.Tokens.{Tok}
use Rattle.text_forms.specs.Forms.{every, Form, token, nothing, never, both, on, made, left_out, past, many, lines}
use Rattle.text_forms.specs.Derives.{Derives, Elements}
use Rattle.text_forms.specs.Passing.{Leads, Passes}
use Rattle.text_forms.specs.Lemmas.Tests.{and_true, every_at}

abbrev pub limitless : {A : Type 0} → Form A → Bool
limitless (token xs) = true
limitless (nothing a) = true
limitless never = true
limitless (both f g) = limitless f && limitless g
limitless (on xs f g) = limitless f && limitless g
limitless (made h f) = limitless f
limitless (left_out xs a) = true
limitless (past f) = false
limitless (many f) = true
limitless (lines fl flags step f xs g s) = every fl (λ y. limitless (f y)) && limitless g

no_elements : {A S F : Type 0} (flags : S → F) (step : S → A → S) (P : F → List Tok → A → Type 0) (Q : S → List Tok → Type 0) → ((s : S) (v : List Tok) → Q s v → ⊥) → (s : S) (ts : List Tok) (items : List A) → Elements flags step P Q s ts items → ⊥
no_elements flags step P Q none s ts [] q = none s ts q
no_elements flags step P Q none s ts (x ∷ xs) (u, v, parts, one, more) = no_elements flags step P Q none (step s x) v xs more

no_leads : {A : Type 0} (f : Form A) → limitless f ≡ true → (us : List Tok) → Leads f us → ⊥
no_leads (token xs) o us l = l
no_leads (nothing a) o us l = l
no_leads never o us l = l
no_leads (both f g) o us (inl l) = no_leads f (and_true _ _ o).0 us l
no_leads (both f g) o us (inr (u, v, a, parts, d, l)) = no_leads g (and_true _ _ o).1 v l
no_leads (on xs f g) o us (inl l) = no_leads f (and_true _ _ o).0 us l
no_leads (on xs f g) o us (inr l) = no_leads g (and_true _ _ o).1 us l
no_leads (made h f) o us l = no_leads f o us l
no_leads (left_out xs a) o us l = l
no_leads (past f) o us l = absurd cc
no_leads (many f) o us l = l
no_leads (lines {A} fl flags step f xs g s) o us (items, l) =
    no_elements flags step (λ y. Derives (f y)) (λ _ v. Leads g v) (λ _ v h. no_leads g (and_true _ _ o).1 v h) s us items l

pub no_passes : {A : Type 0} (f : Form A) → limitless f ≡ true → (ts us : List Tok) → Passes f ts us → ⊥
no_passes (token xs) o ts us l = l
no_passes (nothing a) o ts us l = l
no_passes never o ts us l = l
no_passes (both f g) o ts us (inl l) = no_passes f (and_true _ _ o).0 ts us l
no_passes (both f g) o ts us (inr (u, v, a, parts, d, l)) = no_passes g (and_true _ _ o).1 v us l
no_passes (on xs f g) o ts us (inl l) = no_passes f (and_true _ _ o).0 ts us l
no_passes (on xs f g) o ts us (inr l) = no_passes g (and_true _ _ o).1 ts us l
no_passes (made h f) o ts us l = no_passes f o ts us l
no_passes (left_out xs a) o ts us l = l
no_passes (past f) o ts us l = l
no_passes (many f) o ts us l = l
no_passes (lines {A} fl flags step f xs g s) o ts us (items, l) =
    no_elements flags step (λ y. Derives (f y)) (λ s v. ((v ≡ []) × Leads (f (flags s)) us) ⊎ (Passes (f (flags s)) v us ⊎ Passes g v us))
    (λ s v h. elim h [
      | inl (none, leads) ↦ no_leads (f (flags s)) (every_at fl (λ y. limitless (f y)) (flags s) (and_true _ _ o).0) us leads
      | inr (inl own) ↦ no_passes (f (flags s)) (every_at fl (λ y. limitless (f y)) (flags s) (and_true _ _ o).0) v us own
      | inr (inr closing) ↦ no_passes g (and_true _ _ o).1 v us closing
    ]) s ts items l
