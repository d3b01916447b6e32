-- Lemmas on trees that are grown together.
use Rattle.std.specs.Prelude.{◌≡◌, ◌<◌, ℕ, zero, suc, ◌%◌, nat_le, ◌&&◌, Bool, true, false, List, [], ◌∷◌, ◌++◌, if◌then◌else◌, refl}
use Rattle.std.proofs.Common.{sym, ◌∙◌, ap, arith, inl, inr}
use Rattle.std.proofs.lemmas.Bool.{lt-leb, and_parts}
use Rattle.std.proofs.lemmas.Bool.Decides.{leb_tells}
use Rattle.std.proofs.lemmas.Nat.{mod_below}
use Rattle.odometer.specs.Trees.{Tree, Leaf, Node, leaf, rest, branches, grown, pick, picked_from}
use Rattle.odometer.specs.Odometer.{path}
use Rattle.odometer.specs.declared.picks.Pick.{Pick}

many : (n : ℕ) → nat_le (suc (suc n)) 1 ≡ false
many n = lt-leb (suc (suc n)) 1 (omega arith)

pub picks_some : (n : ℕ) (ps : List ℕ) → pick (suc (suc n)) ps ≡ picked_from (suc (suc n)) ps
picks_some n ps = ap (λ (b : Bool). if b then (0, ps) else picked_from (suc (suc n)) ps) (many n)

module _ {A : Type 0} where
  pub leaf_branches : (n : ℕ) (kids : ℕ → Tree A) (ps : List ℕ) → leaf (branches n kids) ps ≡ leaf (kids (pick n ps).0) (pick n ps).1
  leaf_branches zero kids ps = refl
  leaf_branches (suc zero) kids ps = refl
  leaf_branches (suc (suc n)) kids [] = ap (λ (k : ℕ × List ℕ). leaf (kids k.0) k.1) (sym (picks_some n []))
  leaf_branches (suc (suc n)) kids (p ∷ ps) = ap (λ (k : ℕ × List ℕ). leaf (kids k.0) k.1) (sym (picks_some n (p ∷ ps)))

  pub rest_branches : (n : ℕ) (kids : ℕ → Tree A) (ps : List ℕ) → rest (branches n kids) ps ≡ rest (kids (pick n ps).0) (pick n ps).1
  rest_branches zero kids ps = refl
  rest_branches (suc zero) kids ps = refl
  rest_branches (suc (suc n)) kids [] = ap (λ (k : ℕ × List ℕ). rest (kids k.0) k.1) (sym (picks_some n []))
  rest_branches (suc (suc n)) kids (p ∷ ps) = ap (λ (k : ℕ × List ℕ). rest (kids k.0) k.1) (sym (picks_some n (p ∷ ps)))

-- a pick of one of n options, before others
abbrev pub picks_one : ℕ → ℕ → List Pick → List Pick
picks_one zero k ps = ps
picks_one (suc zero) k ps = ps
picks_one (suc (suc n)) k ps = record { picked = k; options = suc (suc n) } ∷ ps

module _ {A : Type 0} where
  pub path_branches : (n : ℕ) (kids : ℕ → Tree A) (ps : List ℕ) → path (branches n kids) ps ≡ picks_one n (pick n ps).0 (path (kids (pick n ps).0) (pick n ps).1)
  path_branches zero kids ps = refl
  path_branches (suc zero) kids ps = refl
  path_branches (suc (suc n)) kids [] = ap (λ (k : ℕ × List ℕ). picks_one (suc (suc n)) k.0 (path (kids k.0) k.1)) (sym (picks_some n []))
  path_branches (suc (suc n)) kids (p ∷ ps) = ap (λ (k : ℕ × List ℕ). picks_one (suc (suc n)) k.0 (path (kids k.0) k.1)) (sym (picks_some n (p ∷ ps)))

-- ---- a test of each leaf, which computes

abbrev pub each_below : (ℕ → Bool) → ℕ → Bool
each_below q zero = true
each_below q (suc n) = q n && each_below q n

abbrev pub each_leaf : {A : Type 0} → (A → Bool) → Tree A → Bool
each_leaf q (Leaf a) = q a
each_leaf q (Node n kids) = each_below (λ k. each_leaf q (kids k)) (suc (suc n))

below_each : (q : ℕ → Bool) (n k : ℕ) → k < n → each_below q n ≡ true → q k ≡ true
below_each q zero k l h = absurd (omega (arith, l))
below_each q (suc n) k l h =
    let r = and_parts (q n) (each_below q n) h in
    elim (leb_tells n k) [
      | inl e ↦ let same : k ≡ n = omega (arith, l, e.1) in ap q same ∙ r.0
      | inr e ↦ below_each q n k e.1 r.1
    ]

pub leaves_pass : {A : Type 0} (q : A → Bool) (t : Tree A) → each_leaf q t ≡ true → (ps : List ℕ) → q (leaf t ps) ≡ true
leaves_pass q (Leaf a) h ps = h
leaves_pass q (Node n kids) h [] = leaves_pass q (kids 0) (below_each (λ k. each_leaf q (kids k)) (suc (suc n)) 0 (omega arith) h) []
leaves_pass q (Node n kids) h (p ∷ ps) =
    leaves_pass q (kids (p % suc (suc n))) (below_each (λ k. each_leaf q (kids k)) (suc (suc n)) (p % suc (suc n)) (mod_below p (suc (suc n)) (omega arith)) h) ps

module _ {A B : Type 0} (more : A → Tree B) where
  pub leaf_grown : (t : Tree A) (ps : List ℕ) → leaf (grown t more) ps ≡ leaf (more (leaf t ps)) (rest t ps)
  leaf_grown (Leaf a) ps = refl
  leaf_grown (Node n kids) [] = leaf_grown (kids 0) []
  leaf_grown (Node n kids) (p ∷ ps) = leaf_grown (kids (p % suc (suc n))) ps

  pub rest_grown : (t : Tree A) (ps : List ℕ) → rest (grown t more) ps ≡ rest (more (leaf t ps)) (rest t ps)
  rest_grown (Leaf a) ps = refl
  rest_grown (Node n kids) [] = rest_grown (kids 0) []
  rest_grown (Node n kids) (p ∷ ps) = rest_grown (kids (p % suc (suc n))) ps

  -- the picks of a run are those of its first step, and then those of the rest
  pub path_grown : (t : Tree A) (ps : List ℕ) → path (grown t more) ps ≡ path t ps ++ path (more (leaf t ps)) (rest t ps)
  path_grown (Leaf a) ps = refl
  path_grown (Node n kids) [] = ap (λ (q : List Pick). record { picked = 0; options = suc (suc n) } ∷ q) (path_grown (kids 0) [])
  path_grown (Node n kids) (p ∷ ps) = let k : ℕ = p % suc (suc n) in ap (λ (q : List Pick). record { picked = k; options = suc (suc n) } ∷ q) (path_grown (kids k) ps)
