-- Kin of the same type are the same type.
use Rattle.std.proofs.Common.{◌≡◌, ℕ, zero, suc, ◌<◌, Bool, true, List, length, Option, Some, None, slice_get, ◌==◌, ◌&&◌, refl, sym, ◌∙◌, ap, subst}
use Rattle.std.proofs.lemmas.Bool.{false≢true, and_parts, and_from, eqb-true}
use Rattle.std.proofs.Common.{eq-eqb}
use Rattle.type_definitions.specs.declared.definition.TypeDef.{TypeDef}
use Rattle.type_definitions.specs.Definition.{constructor, number, arguments}
use Rattle.type_definitions.specs.Same.{pairs, agree_at, alike, same, IsGraph}
use Rattle.type_definitions.specs.Lemmas.Depth.{pairs_back, pairs_over, alike_back, same_to_each_depth}
use Rattle.kin_laws.specs.Kin.{akin, Kin, KinDecides}

-- two definitions that agree by r
pub record Agrees (r : ℕ → ℕ → Bool) (o p : Option TypeDef) : Type 0 where
  pub one : TypeDef
  pub other : TypeDef
  pub at_one : o ≡ Some one
  pub at_other : p ≡ Some other
  pub kind : constructor one ≡ constructor other
  pub sized : number one ≡ number other
  pub args : pairs r (arguments one) (arguments other) ≡ true

pub agrees : (r : ℕ → ℕ → Bool) (o p : Option TypeDef) → agree_at r o p ≡ true → Agrees r o p
agrees r (Some d) (Some e) h =
    let p = and_parts ((constructor d == constructor e) && (number d == number e)) (pairs r (arguments d) (arguments e)) h in
    let q = and_parts (constructor d == constructor e) (number d == number e) p.0 in
    record { one = d; other = e; at_one = refl; at_other = refl; kind = eqb-true (constructor d) (constructor e) q.0; sized = eqb-true (number d) (number e) q.1; args = p.1 }
agrees r None p h = absurd (false≢true h)
agrees r (Some d) None h = absurd (false≢true h)

pub from_agrees : (r : ℕ → ℕ → Bool) (o p : Option TypeDef) → Agrees r o p → agree_at r o p ≡ true
from_agrees r o p m = rw (m.at_one, m.at_other) (and_from ((constructor m.one == constructor m.other) && (number m.one == number m.other)) (pairs r (arguments m.one) (arguments m.other)) (and_from (constructor m.one == constructor m.other) (number m.one == number m.other) (eq-eqb (constructor m.one) (constructor m.other) m.kind) (eq-eqb (number m.one) (number m.other) m.sized)) m.args)

some_one : {A : Type 0} (o : Option A) (x y : A) → o ≡ Some x → o ≡ Some y → x ≡ y
some_one o x y p q = cc

pub agree_back : (r s : ℕ → ℕ → Bool) → ((x y : ℕ) → r x y ≡ true → s y x ≡ true) → (o p : Option TypeDef) → agree_at r o p ≡ true → agree_at s p o ≡ true
agree_back r s f o p h =
    let m = agrees r o p h in
    from_agrees s p o (record { one = m.other; other = m.one; at_one = m.at_other; at_other = m.at_one; kind = sym m.kind; sized = sym m.sized; args = pairs_back r s f (arguments m.one) (arguments m.other) m.args })

pub agree_over : (r s t : ℕ → ℕ → Bool) → ((x y z : ℕ) → r x y ≡ true → s y z ≡ true → t x z ≡ true) → (o p q : Option TypeDef) → agree_at r o p ≡ true → agree_at s p q ≡ true → agree_at t o q ≡ true
agree_over r s t f o p q h j =
    let m = agrees r o p h in
    let n = agrees s p q j in
    let e = some_one p m.other n.one m.at_other n.at_one in
    from_agrees t o q (record {
      one = m.one;
      other = n.other;
      at_one = m.at_one;
      at_other = n.at_other;
      kind = m.kind ∙ ap constructor e ∙ n.kind;
      sized = m.sized ∙ ap number e ∙ n.sized;
      args = pairs_over r s t f (arguments m.one) (arguments n.one) (arguments n.other) (subst (λ (d : TypeDef). pairs r (arguments m.one) (arguments d) ≡ true) e m.args) n.args;
    })

pub akin_back : (g h : List TypeDef) (k a b : ℕ) → akin g h k a b ≡ true → akin h g k b a ≡ true
unfolding akin
akin_back g h zero a b e = refl
akin_back g h (suc k) a b e = agree_back (akin g h k) (akin h g k) (λ x y t. akin_back g h k x y t) (slice_get g a) (slice_get h b) e

-- from a type of the first graph to one that is alike, and so of the second
pub akin_before : (g h : List TypeDef) (k a b c : ℕ) → alike g k a b ≡ true → akin g h k b c ≡ true → akin g h k a c ≡ true
unfolding akin alike
akin_before g h zero a b c e f = refl
akin_before g h (suc k) a b c e f = agree_over (alike g k) (akin g h k) (akin g h k) (λ x y z s t. akin_before g h k x y z s t) (slice_get g a) (slice_get g b) (slice_get h c) e f

pub akin_after : (g h : List TypeDef) (k a b c : ℕ) → akin g h k a b ≡ true → alike h k b c ≡ true → akin g h k a c ≡ true
unfolding akin alike
akin_after g h zero a b c e f = refl
akin_after g h (suc k) a b c e f = agree_over (akin g h k) (alike h k) (akin g h k) (λ x y z s t. akin_after g h k x y z s t) (slice_get g a) (slice_get h b) (slice_get h c) e f

-- two that are alike to one type
pub akin_both : (g h : List TypeDef) (k a b c : ℕ) → akin g h k a b ≡ true → akin g h k a c ≡ true → alike h k b c ≡ true
unfolding akin alike
akin_both g h zero a b c e f = refl
akin_both g h (suc k) a b c e f = agree_over (akin h g k) (akin g h k) (alike h k) (λ x y z s t. akin_both g h k y x z (akin_back h g k x y s) t) (slice_get h b) (slice_get g a) (slice_get h c) (agree_back (akin g h k) (akin h g k) (λ x y t. akin_back g h k x y t) (slice_get g a) (slice_get h b) e) f

pub kin_before : (g h : List TypeDef) → IsGraph g → (a b c : ℕ) → a < length g → same g a b ≡ true → Kin g h b c → Kin g h a c
kin_before g h i a b c l e m = record { low = l; there = m.there; to = λ k. akin_before g h k a b c (same_to_each_depth g i k a b l m.low e) (m.to k) }

pub kin_after : (g h : List TypeDef) → IsGraph h → (a b c : ℕ) → c < length h → Kin g h a b → same h b c ≡ true → Kin g h a c
kin_after g h i a b c l m e = record { low = m.low; there = l; to = λ k. akin_after g h k a b c (m.to k) (same_to_each_depth h i k b c m.there l e) }

pub kin_both : (g h : List TypeDef) (a b c : ℕ) → Kin g h a b → Kin g h a c → same h b c ≡ true
kin_both g h a b c m n = akin_both g h (length h) a b c (m.to (length h)) (n.to (length h))

pub kin_decides : (g h : List TypeDef) → IsGraph g → IsGraph h → KinDecides g h
kin_decides g h i j a b c d e m n = kin_both g h b c d (kin_before g h i b a c n.low (alike_back g (length g) a b e) m) n
