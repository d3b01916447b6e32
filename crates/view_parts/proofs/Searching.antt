-- A loop over the threads keeps the greatest and the least.
use Rattle.std.proofs.Common.{◌≡◌, ℕ, ◌+◌, ◌*◌, ◌<◌, ◌≤◌, Bool, true, false, cond, eqb, List, [], Option, Some, None, slice_index, length, refl, sym, ◌∙◌, inl, inr, ◌⊎◌, arith}
use Rattle.std.specs.Prelude.{min, Contains}
use Rattle.std.proofs.Math.Nat.{suc-mul}
use Rattle.std.proofs.lemmas.Bool.{cases_lt, ne_eqb, eq-eqb, false≢true}
use Rattle.std.proofs.lemmas.List.{get_or_default}
use Rattle.write_history.specs.Indexes.{first_after}
use Rattle.write_history.specs.declared.access_index.Entry.{Entry}
use Rattle.view_parts.specs.LookUps.{earlier, LeastOf, FirstAfter}

pub cost-more : (k d first now now' : ℕ) → now ≤ first + k * (d + 1) → now' ≤ now + (d + 1) → now' ≤ first + (k + 1) * (d + 1)
cost-more k d first now now' h l = let m = suc-mul k (d + 1) in omega arith

pub least-same : (S S' : ℕ → Type 0) (o : Option ℕ) → ((i : ℕ) → S' i → S i) → ((i : ℕ) → S i → S' i) → LeastOf S o → LeastOf S' o
least-same S S' None f g h = λ i s. h i (f i s)
least-same S S' (Some i) f g h = (g i h.0, λ j s. h.1 j (f j s))

-- a set with one more, or none more
pub least-more : (S : ℕ → Type 0) (a b : Option ℕ) → LeastOf S a → LeastOf (λ i. S i ⊎ (b ≡ Some i)) (earlier a b)
least-more S None None h = λ i s. elim s [ inl p ↦ h i p | inr p ↦ (let q : None ≡ Some i = p in absurd (cc)) ]
least-more S None (Some b) h = (inr refl, λ j s. elim s [ inl p ↦ absurd (h j p) | inr p ↦ (let q : b ≡ j = cc in omega arith) ])
least-more S (Some a) None h = (inl h.0, λ j s. elim s [ inl p ↦ h.1 j p | inr p ↦ (let q : None ≡ Some j = p in absurd (cc)) ])
least-more S (Some a) (Some b) h = (pick (cases_lt a b), λ j s. elim s [ inl p ↦ (let q = h.1 j p in omega arith) | inr p ↦ (let q : b ≡ j = cc in omega arith) ])
  where
    pick : (a < b) ⊎ (b ≤ a) → S (min a b) ⊎ (Some b ≡ Some (min a b))
    pick (inl p) = let e : min a b ≡ a = omega arith in inl (rw e h.0)
    pick (inr p) = let e : min a b ≡ b = omega arith in inr (rw e refl)

-- among the first k threads of a list
abbrev pub FirstAmong : (ℕ → List Entry) → List ℕ → ℕ → List ℕ → ℕ → ℕ → Type 0
FirstAmong entries clock own threads k i = (m : ℕ) × (m < k) × FirstAfter entries clock own (slice_index threads m) i

pub first-none : (entries : ℕ → List Entry) (clock : List ℕ) (own : ℕ) (threads : List ℕ) → LeastOf (FirstAmong entries clock own threads 0) None
first-none entries clock own threads = λ i s. (let l = s.1 in omega arith)

pub first-more : (entries : ℕ → List Entry) (clock : List ℕ) (own : ℕ) (threads : List ℕ) (k : ℕ) (a o : Option ℕ) → LeastOf (FirstAmong entries clock own threads k) a
    → o ≡ cond (eqb (slice_index threads k) own) None (first_after (slice_index clock (slice_index threads k)) (entries (slice_index threads k)))
    → LeastOf (FirstAmong entries clock own threads (k + 1)) (earlier a o)
first-more entries clock own threads k a o h e = least-same (λ i. FirstAmong entries clock own threads k i ⊎ (o ≡ Some i)) (FirstAmong entries clock own threads (k + 1)) (earlier a o)
    (λ i s. elim (cases_lt s.0 k) [ inl p ↦ inl (s.0, p, s.2) | inr p ↦ (let l = s.1 in let z : s.0 ≡ k = omega arith in inr (there i (rw z at s.2))) ])
    (λ i s. elim s [ inl p ↦ (p.0, (let l = p.1 in omega arith), p.2) | inr p ↦ (k, omega arith, back i (sym e ∙ p)) ])
    (least-more (FirstAmong entries clock own threads k) a o h)
  where
    there : (i : ℕ) → FirstAfter entries clock own (slice_index threads k) i → o ≡ Some i
    there i s = e ∙ rw (ne_eqb (slice_index threads k) own s.0) s.1

    back : (i : ℕ) → cond (eqb (slice_index threads k) own) None (first_after (slice_index clock (slice_index threads k)) (entries (slice_index threads k))) ≡ Some i → FirstAfter entries clock own (slice_index threads k) i
    back i s = go (eqb (slice_index threads k) own) refl
      where
        go : (b : Bool) → eqb (slice_index threads k) own ≡ b → FirstAfter entries clock own (slice_index threads k) i
        go true p = let q : None ≡ Some i = rw p at s in absurd (cc)
        go false p = (λ z. false≢true (sym p ∙ eq-eqb (slice_index threads k) own z), rw p at s)

pub first-all : (entries : ℕ → List Entry) (clock : List ℕ) (own : ℕ) (threads : List ℕ) (k : ℕ) (a : Option ℕ) → LeastOf (FirstAmong entries clock own threads k) a → k ≡ length threads
    → ((u : ℕ) → Contains threads u ⊎ (entries u ≡ [])) → LeastOf (λ i. (u : ℕ) × FirstAfter entries clock own u i) a
first-all entries clock own threads k a h l made = least-same (FirstAmong entries clock own threads k) (λ i. (u : ℕ) × FirstAfter entries clock own u i) a
    (λ i s. elim (made s.0) [
      | inl m ↦ (let e : slice_index threads m.0 ≡ s.0 = get_or_default threads m.0 0 s.0 m.1 ∙ m.2 in (m.0, (let b = m.1 in omega arith), rw e s.1))
      | inr e ↦ (let q : None ≡ Some i = rw e at s.1.1 in absurd (cc))
    ])
    (λ i s. (slice_index threads s.0, s.2))
    h
