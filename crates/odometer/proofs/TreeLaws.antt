-- Lemmas on trees of picks.
use Rattle.std.specs.Prelude.{◌≡◌, ◌<◌, ℕ, suc, ◌%◌, nat_lt, Bool, true, false, List, [], ◌∷◌, Option, Some, None, All, if◌then◌else◌, refl}
use Rattle.std.proofs.Common.{sym, subst, arith, inl, inr, ◌⊎◌}
use Rattle.std.proofs.lemmas.Bool.{ltb-true, ltb-false}
use Rattle.std.proofs.lemmas.Bool.Decides.{leb_tells}
use Rattle.std.proofs.lemmas.Nat.{mod_below}
use Rattle.std.proofs.Math.Nat.{mod-eq_of_lt}
use Rattle.std.proofs.lemmas.List.Elements.{All-cons, All-nil}
use Rattle.odometer.specs.Trees.{Tree, Leaf, Node, leaf, AllLeaves}
use Rattle.odometer.specs.Odometer.{IsPick, digits, path, raised, next, Before, Onward}

below : (p n : ℕ) → p % suc (suc n) < suc (suc n)
below p n = mod_below p (suc (suc n)) (omega arith)

same_below : (k n : ℕ) → k < suc (suc n) → k % suc (suc n) ≡ k
same_below k n h = mod-eq_of_lt h

pub lower : (j k : ℕ) → j < suc k → (j < k) ⊎ (j ≡ k)
lower j k h = elim (leb_tells k j) [ inl e ↦ inr (omega (arith, h, e.1)) | inr e ↦ inl e.1 ]

module _ {A : Type 0} (P : A → Type 0) where
  pub before_nil : (t : Tree A) → Before P t []
  before_nil (Leaf a) = tt
  before_nil (Node n kids) = tt

  -- a run makes the picks that it is given, and then the first of each
  pub before_path : (t : Tree A) (ks : List ℕ) → Before P t ks → Before P t (digits (path t ks))
  before_path (Leaf a) ks h = tt
  before_path (Node n kids) [] h = (omega arith, λ j l. absurd (omega (arith, l)), before_path (kids 0) [] (before_nil (kids 0)))
  before_path (Node n kids) (k ∷ ks) h =
      let Q : ℕ → Type 0 = λ m. Before P (Node n kids) (m ∷ digits (path (kids m) ks)) in
      subst Q (sym (same_below k n h.0)) (h.0, h.1, before_path (kids k) ks h.2)

  all_up_to : (n k : ℕ) (kids : ℕ → Tree A) → ((j : ℕ) → j < k → AllLeaves P (kids j)) → AllLeaves P (kids k) → (j : ℕ) → j < suc k → AllLeaves P (kids j)
  all_up_to n k kids less here j l = elim (lower j k l) [ inl h ↦ less j h | inr e ↦ subst (λ m. AllLeaves P (kids m)) (sym e) here ]

  all_of_node : (n : ℕ) (kids : ℕ → Tree A) → ((j : ℕ) → j < suc (suc n) → AllLeaves P (kids j)) → AllLeaves P (Node n kids)
  all_of_node n kids all [] = all 0 (omega arith) []
  all_of_node n kids all (p ∷ ps) = all (p % suc (suc n)) (below p n) ps

  -- after the run with some picks
  onward_node : (n k : ℕ) (kids : ℕ → Tree A) (o : Option (List ℕ)) → k < suc (suc n) → ((j : ℕ) → j < k → AllLeaves P (kids j)) → Onward P (kids k) o
      → Onward P (Node n kids) (raised (record { picked = k; options = suc (suc n) }) o)
  onward_node n k kids (Some more) l less h = (l, less, h)
  onward_node n k kids None l less h = by (nat_lt (suc k) (suc (suc n))) refl
    where
      by : (b : Bool) → nat_lt (suc k) (suc (suc n)) ≡ b → Onward P (Node n kids) (if b then Some (suc k ∷ []) else None)
      by true e = (ltb-true (suc k) (suc (suc n)) e, all_up_to n k kids less h, before_nil (kids (suc k)))
      by false e = all_of_node n kids (λ j m. all_up_to n k kids less h j (omega (arith, m, ltb-false (suc k) (suc (suc n)) e)))

  pub onward : (t : Tree A) (ks : List ℕ) → Before P t (digits (path t ks)) → P (leaf t ks) → Onward P t (next (path t ks))
  onward (Leaf a) ks h here = λ ps. here
  onward (Node n kids) [] h here = onward_node n 0 kids (next (path (kids 0) [])) h.0 h.1 (onward (kids 0) [] h.2 here)
  onward (Node n kids) (p ∷ ps) h here = let k : ℕ = p % suc (suc n) in onward_node n k kids (next (path (kids k) ps)) h.0 h.1 (onward (kids k) ps h.2 here)

pub picks_of_path : {A : Type 0} (t : Tree A) (ks : List ℕ) → All IsPick (path t ks)
picks_of_path (Leaf a) ks = All-nil IsPick
picks_of_path (Node n kids) [] = All-cons IsPick (record { picked = 0; options = suc (suc n) }) (path (kids 0) []) (omega arith) (picks_of_path (kids 0) [])
picks_of_path (Node n kids) (p ∷ ps) = let k : ℕ = p % suc (suc n) in All-cons IsPick (record { picked = k; options = suc (suc n) }) (path (kids k) ps) (below p n) (picks_of_path (kids k) ps)
