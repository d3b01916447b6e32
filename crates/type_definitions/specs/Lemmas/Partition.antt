-- Of what a partition of the types can be.
use Rattle.std.proofs.Common.{◌≡◌, ℕ, zero, suc, ◌<◌, ◌≤◌, Bool, true, List, [], ◌∷◌, length, Some, slice_get, refl, sym, ◌∙◌, ap, subst}
use Rattle.std.specs.Prelude.{slice_index}
use Rattle.std.proofs.lemmas.Bool.{false≢true, and_parts, eqb-true}
use Rattle.type_definitions.specs.declared.definition.TypeDef.{TypeDef}
use Rattle.type_definitions.specs.Definition.{arguments}
use Rattle.type_definitions.specs.Same.{pairs, alike, same, IsGraph}
use Rattle.type_definitions.specs.Lemmas.Depth.{meets, from_meets, meets_more, alike_back, alike_over, same_meets}
use Rattle.type_definitions.specs.Partition.{arg_of, arg, Keeps, alike_by, IsStable, IsLeast}

pub stable_alike : (g : List TypeDef) → IsGraph g → (p : List ℕ) → IsStable g p → (k x : ℕ) → x < length g → alike g k x (slice_index p x) ≡ true
unfolding alike
stable_alike g i p s zero x l = refl
stable_alike g i p s (suc k) x l =
    from_meets g (alike g k) x (slice_index p x) (meets_more g i (alike_by p) (alike g k) (λ u v lu lv e.
    let hu = stable_alike g i p s k u lu in
    let hv = stable_alike g i p s k v lv in
    let q : slice_index p u ≡ slice_index p v = eqb-true (slice_index p u) (slice_index p v) e in
    alike_over g k u (slice_index p u) v hu (alike_back g k v (slice_index p u) (subst (λ w. alike g k v w ≡ true) (sym q) hv)))
    x (slice_index p x) (meets g (alike_by p) x (slice_index p x) (s x l)))

-- a stable partition that keeps the same types together, each part named by its least, is the classes
pub least_from : (g : List TypeDef) → IsGraph g → (block p : List ℕ) → Keeps g block → IsStable g p
    → ((x : ℕ) → x < length g → (slice_index p x ≤ x) × ((b : ℕ) → b < length g → slice_index block b ≡ slice_index block x → slice_index p x ≤ b))
    → IsLeast g p
least_from g i block p k s f x l =
    let h = f x l in
    (h.0, alike_back g (length g) x (slice_index p x) (stable_alike g i p s (length g) x l), λ b m e. h.1 b m (k b x m l e))

pub pairs_at : (r : ℕ → ℕ → Bool) (xs ys : List ℕ) (k y : ℕ) → pairs r xs ys ≡ true → slice_get xs k ≡ Some y → (z : ℕ) × (slice_get ys k ≡ Some z) × (r y z ≡ true)
pairs_at r [] ys k y h e = absurd (cc)
pairs_at r (x ∷ xs) [] k y h e = absurd (false≢true h)
pairs_at r (x ∷ xs) (z ∷ ys) zero y h e = let p = and_parts (r x z) (pairs r xs ys) h in let q : x ≡ y = cc in (z, refl, subst (λ w. r w z ≡ true) q p.0)
pairs_at r (x ∷ xs) (z ∷ ys) (suc k) y h e = pairs_at r xs ys k y (and_parts (r x z) (pairs r xs ys) h).1 e

-- an argument of one of two same types has its like in the other
pub same_arg : (g : List TypeDef) → IsGraph g → (a b k y : ℕ) → a < length g → b < length g → same g a b ≡ true → arg g a k ≡ Some y → (z : ℕ) × (arg g b k ≡ Some z) × (same g y z ≡ true)
same_arg g i a b k y la lb h e =
    let m = same_meets g i a b la lb h in
    let f : slice_get (arguments m.one) k ≡ Some y = sym (ap (λ o. arg_of o k) m.at_one) ∙ e in
    let q = pairs_at (same g) (arguments m.one) (arguments m.other) k y m.args f in
    (q.0, ap (λ o. arg_of o k) m.at_other ∙ q.1, q.2)
