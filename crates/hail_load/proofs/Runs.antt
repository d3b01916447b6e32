-- Parts in runs.
use Rattle.std.proofs.Common.{◌≡◌, ℕ, zero, suc, ◌-◌, ◌<◌, ◌≤◌, List, [], ◌∷◌, ◌++◌, refl, sym, ap, ◌∙◌, arith, append_assoc}
use Rattle.std.proofs.lemmas.List.{append-nil}
use Rattle.type_definitions.specs.Leaves.{times}
use Rattle.hail_load.specs.declared.parts.Part.{Part}
use Rattle.hail_load.specs.declared.pending.Run.{Run}
use Rattle.hail_load.specs.PartsSoFar.{parts_in, parts_left}

-- the last run comes first
pub last_first : (rs : List Run) (r : Run) → parts_left (rs ++ r ∷ []) ≡ parts_in r ++ parts_left rs
last_first [] r = sym (append-nil (parts_in r))
last_first (q ∷ rs) r = ap (λ (ps : List Part). ps ++ parts_in q) (last_first rs r) ∙ append_assoc (parts_in r) (parts_left rs) (parts_in q)

pub pushed : (rs : List Run) (p : Part) (many : ℕ) → parts_left (rs ++ record { part = p; many = many } ∷ []) ≡ times many (p ∷ []) ++ parts_left rs
pushed rs p many = last_first rs (record { part = p; many = many })

pub none_pushed : (many : ℕ) (p : Part) (ps : List Part) → many ≡ 0 → times many (p ∷ []) ++ ps ≡ ps
none_pushed zero p ps e = refl
none_pushed (suc many) p ps e = absurd (omega (arith, e))

-- one is taken of the last run
one_less : (many : ℕ) (p : Part) → 0 < many → times many (p ∷ []) ≡ p ∷ times (many - 1) (p ∷ [])
one_less zero p l = absurd (omega (arith, l))
one_less (suc many) p l = let e : suc many - 1 ≡ many = omega arith in rw e refl

pub popped : (rs : List Run) (p : Part) (many : ℕ) → 0 < many → parts_left (rs ++ record { part = p; many = many } ∷ []) ≡ p ∷ parts_left (rs ++ record { part = p; many = many - 1 } ∷ [])
popped rs p many l = pushed rs p many ∙ ap (λ (ps : List Part). ps ++ parts_left rs) (one_less many p l) ∙ ap (λ (ps : List Part). p ∷ ps) (sym (pushed rs p (many - 1)))

pub last_popped : (rs : List Run) (p : Part) (many : ℕ) → 0 < many → many ≤ 1 → parts_left (rs ++ record { part = p; many = many } ∷ []) ≡ p ∷ parts_left rs
last_popped rs p many l m = let e : many ≡ 1 = omega (arith, l, m) in rw e (pushed rs p 1)
