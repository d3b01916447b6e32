-- The laws, proved.
use Rattle.std.proofs.Common.{◌≡◌, ℕ, zero, suc, ◌<◌, ◌≤◌, Bool, true, false, List, length, refl, sym, ◌∙◌, subst, arith}
use Rattle.std.proofs.lemmas.Bool.{false≢true}
use Rattle.type_definitions.specs.declared.definition.TypeDef.{TypeDef}
use Rattle.type_definitions.specs.Same.{same, alike, IsGraph}
use Rattle.type_definitions.specs.Class.{least, class_of}
use Rattle.type_definitions.specs.Lemmas.Depth.{alike_same, alike_back, alike_over, alike_less, same_meets, from_meets, same_to_each_depth}
use Rattle.type_definitions.specs.Lemmas.Classes.{least_is}
use Rattle.type_definitions.specs.Laws.{IsEquivalence, IsCongruence, IsSteady, ClassesDecide}

pub equivalence : (g : List TypeDef) → IsGraph g → IsEquivalence g
equivalence g i = record { reflexive = alike_same g i (length g); symmetric = alike_back g (length g); transitive = alike_over g (length g) }

pub congruence : (g : List TypeDef) → IsGraph g → IsCongruence g
unfolding alike
congruence g i a b la lb = (λ h. from_meets g (same g) a b (same_meets g i a b la lb h), λ h. alike_less g (length g) a b h)

pub steadiness : (g : List TypeDef) → IsGraph g → IsSteady g
steadiness = same_to_each_depth

before : (test : ℕ → Bool) (m : ℕ) → test 0 ≡ false → ((b : ℕ) → b < m → test (suc b) ≡ false) → (b : ℕ) → b < suc m → test b ≡ false
before test m e f zero l = e
before test m e f (suc b) l = f b (omega arith)

-- a least one is found below one that passes
pub record Found (test : ℕ → Bool) (n x : ℕ) : Type 0 where
  pub passes : test (least test n) ≡ true
  pub low : least test n ≤ x
  pub none : (b : ℕ) → b < least test n → test b ≡ false

pub found : (test : ℕ → Bool) (n x : ℕ) → x < n → test x ≡ true → Found test n x
found test zero x l h = absurd (omega arith)
found test (suc n) x l h = go (test 0) refl x l h (λ y m t. found (λ k. test (suc k)) n y m t)
  where
    go : (c : Bool) → test 0 ≡ c → (x : ℕ) → x < suc n → test x ≡ true → ((y : ℕ) → y < n → test (suc y) ≡ true → Found (λ k. test (suc k)) n y) → Found test (suc n) x
    go true e x l h ih =
        let z : least test (suc n) ≡ 0 = rw e refl in
        record { passes = subst (λ w. test w ≡ true) (sym z) e; low = omega (arith, z); none = λ b m. let q : b < 0 = subst (λ w. b < w) z m in absurd (omega arith) }
    go false e zero l h ih = absurd (false≢true (sym e ∙ h))
    go false e (suc x) l h ih =
        let z : least test (suc n) ≡ suc (least (λ k. test (suc k)) n) = rw e refl in
        let f = ih x (omega arith) h in
        let low = f.low in
        record { passes = subst (λ w. test w ≡ true) (sym z) f.passes; low = omega (arith, z); none = λ b m. before test (least (λ k. test (suc k)) n) e f.none b (subst (λ w. b < w) z m) }

pub class_found : (g : List TypeDef) → IsGraph g → (a : ℕ) → a < length g → Found (λ b. same g b a) (length g) a
class_found g i a l = found (λ b. same g b a) (length g) a l (alike_same g i (length g) a l)

not_so : (b : Bool) → (b ≡ true → ⊥) → b ≡ false
not_so true f = absurd (f refl)
not_so false f = refl

pub decided : (g : List TypeDef) → IsGraph g → ClassesDecide g
decided g i = record {
  no_later = λ a l. (class_found g i a l).low;
  of_it = λ a l. (class_found g i a l).passes;
  equal = λ a b la lb. (
    (λ e. let p = (class_found g i a la).passes in let q = (class_found g i b lb).passes in
        alike_over g (length g) a (class_of g a) b (alike_back g (length g) (class_of g a) a p) (subst (λ w. same g w b ≡ true) (sym e) q)),
    λ s. least_alike g i a b la lb s,
  );
}
  where
    least_alike : (g : List TypeDef) → IsGraph g → (a b : ℕ) → a < length g → b < length g → same g a b ≡ true → class_of g a ≡ class_of g b
    least_alike g i a b la lb s =
        let f = class_found g i b lb in
        let low = f.low in
        least_is (λ c. same g c a) (length g) (class_of g b) (omega arith)
        (alike_over g (length g) (class_of g b) b a f.passes (alike_back g (length g) a b s))
        (λ c l. not_so (same g c a) (λ t. false≢true (sym (f.none c l) ∙ alike_over g (length g) c a b t s)))
