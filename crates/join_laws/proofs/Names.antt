-- What a name stands for where one more was added.
use Rattle.std.proofs.Common.{◌≡◌, ℕ, Bool, true, false, List, Option, Some, None, if◌then◌else◌, ◌⊎◌, inl, inr, refl, sym, ◌∙◌, ap}
use Rattle.std.proofs.lemmas.Slice.Eq.{bytes_eq-Decides}
use Rattle.std.specs.Str.{bytes_eq}
use Rattle.demands.specs.Demands.{or_else}
use Rattle.name_scopes.specs.Names.{Names, found, added}
pub use Rattle.model_numbers.specs.Lemmas.Names.{some_is, found_added, stays}

-- a new name stands for what was added
pub added_own : {T : Type 0} (es : Names T) (n : List ℕ) (x : T) → found es n ≡ None → found (added es n x) n ≡ Some x
added_own {T} es n x h = found_added es n n x ∙ ap (λ o. or_else o (if bytes_eq n n then Some x else None)) h ∙ own
  where
    same : bytes_eq n n ≡ true
    same = (bytes_eq-Decides n n).1 refl

    own : (if bytes_eq n n then Some x else None) ≡ Some x
    own = rw same refl

-- what is found was a name before, or was added
pub added_cases : {T : Type 0} (es : Names T) (n name : List ℕ) (x v : T) → found (added es n x) name ≡ Some v → (found es name ≡ Some v) ⊎ ((name ≡ n) × (v ≡ x) × (found es name ≡ None))
added_cases {T} es n name x v h = by (found es name) (bytes_eq name n) refl refl (sym (found_added es n name x) ∙ h)
  where
    by : (o : Option T) (b : Bool) → found es name ≡ o → bytes_eq name n ≡ b → or_else o (if b then Some x else None) ≡ Some v → (found es name ≡ Some v) ⊎ ((name ≡ n) × (v ≡ x) × (found es name ≡ None))
    by (Some w) b e f k = inl (e ∙ k)
    by None true e f k = inr ((bytes_eq-Decides name n).0 f, sym (some_is x v k), e)
    by None false e f k = cc
