-- From kin types lead the same walks to their parts, and kin types have as many leaves.
use Rattle.std.proofs.Common.{◌≡◌, ℕ, zero, suc, ◌+◌, ◌*◌, Bool, true, false, ◌||◌, ◌==◌, List, [], ◌∷◌, ◌++◌, length, Option, Some, slice_get, inl, inr, refl, sym, ◌∙◌, ap, ap₂, subst, arith}
use Rattle.std.specs.List.{list_any, sum_by}
use Rattle.std.proofs.lemmas.Option.{slice_get_within}
use Rattle.std.proofs.Common.{◌&&◌}
use Rattle.std.proofs.lemmas.Bool.{false≢true, and_parts, eqb-true}
use Rattle.type_definitions.specs.declared.definition.TypeDef.{TypeDef}
use Rattle.type_definitions.specs.declared.definition.TypeDef.TheVariants.{Int, Struct, Array, Hybrid, Void, Ref, Iref, FuncRef, StackRef, ThreadRef, Sig}
use Rattle.type_definitions.specs.Definition.{constructor, number, arguments}
use Rattle.type_definitions.specs.Same.{pairs, agree_at, IsGraph}
use Rattle.type_definitions.specs.Parts.{parts, parts_at, leads, contains_itself}
use Rattle.type_definitions.specs.Leaves.{leaves, leaves_at}
use Rattle.type_definitions.specs.Laws.{IsFinite}
use Rattle.type_definitions.specs.Counts.{count_by}
use Rattle.std.proofs.lemmas.List.Sums.{sum_by-cons}
use Rattle.type_definitions.specs.Lemmas.Counts.{counted}
use Rattle.type_definitions.specs.Lemmas.Descents.{goes, goes_ends}
use Rattle.type_definitions.specs.Lemmas.Unfolds.{leaves_are}
use Rattle.type_definitions.specs.Lemmas.Ranks.{or_cases}
use Rattle.kin_laws.specs.Kin.{akin, Kin}
use Rattle.kin_laws.specs.Lemmas.Kin.{agrees}

-- alike to every depth is kin
pub kin_is : (g h : List TypeDef) (a b : ℕ) → ((k : ℕ) → akin g h k a b ≡ true) → Kin g h a b
unfolding akin
kin_is g h a b to =
    let m = agrees (akin g h 0) (slice_get g a) (slice_get h b) (to 1) in
    record { low = slice_get_within g a m.one m.at_one; there = slice_get_within h b m.other m.at_other; to = to }

-- kin, one by one
abbrev pub AllKin : List TypeDef → List TypeDef → List ℕ → List ℕ → Type 0
AllKin g h [] [] = Unit {0}
AllKin g h (x ∷ xs) (y ∷ ys) = Kin g h x y × AllKin g h xs ys
AllKin g h [] (y ∷ ys) = ⊥
AllKin g h (x ∷ xs) [] = ⊥

pub all_kin : (g h : List TypeDef) (xs ys : List ℕ) → ((k : ℕ) → pairs (akin g h k) xs ys ≡ true) → AllKin g h xs ys
all_kin g h [] [] f = tt
all_kin g h (x ∷ xs) (y ∷ ys) f =
    (kin_is g h x y (λ k. (and_parts (akin g h k x y) (pairs (akin g h k) xs ys) (f k)).0), all_kin g h xs ys (λ k. (and_parts (akin g h k x y) (pairs (akin g h k) xs ys) (f k)).1))
all_kin g h [] (y ∷ ys) f = absurd (false≢true (f 0))
all_kin g h (x ∷ xs) [] f = absurd (false≢true (f 0))

-- kin types have definitions of one constructor and one number, with kin arguments
pub record Defined (g h : List TypeDef) (a b : ℕ) : Type 0 where
  pub one : TypeDef
  pub other : TypeDef
  pub at_one : slice_get g a ≡ Some one
  pub at_other : slice_get h b ≡ Some other
  pub kind : constructor one ≡ constructor other
  pub sized : number one ≡ number other
  pub args : AllKin g h (arguments one) (arguments other)

arguments_agree : (r : ℕ → ℕ → Bool) (o p : Option TypeDef) (d e : TypeDef) → o ≡ Some d → p ≡ Some e → agree_at r o p ≡ true → pairs r (arguments d) (arguments e) ≡ true
arguments_agree r o p d e x y h =
    let v : agree_at r (Some d) (Some e) ≡ true = rw (x, y) at h in
    (and_parts ((constructor d == constructor e) && (number d == number e)) (pairs r (arguments d) (arguments e)) v).1

pub defined : (g h : List TypeDef) (a b : ℕ) → Kin g h a b → Defined g h a b
unfolding akin
defined g h a b m =
    let z = agrees (akin g h 0) (slice_get g a) (slice_get h b) (m.to 1) in
    record {
      one = z.one;
      other = z.other;
      at_one = z.at_one;
      at_other = z.at_other;
      kind = z.kind;
      sized = z.sized;
      args = all_kin g h (arguments z.one) (arguments z.other) (λ k.
          arguments_agree (akin g h k) (slice_get g a) (slice_get h b) z.one z.other z.at_one z.at_other (m.to (suc k)));
    }

front_kin : (g h : List TypeDef) (x y : ℕ) (xs ys : List ℕ) → AllKin g h (xs ++ x ∷ []) (ys ++ y ∷ []) → AllKin g h xs ys
front_kin g h x y [] [] m = tt
front_kin g h x y [] (z ∷ []) m = absurd m.1
front_kin g h x y [] (z ∷ w ∷ ys) m = absurd m.1
front_kin g h x y (z ∷ []) [] m = absurd m.1
front_kin g h x y (z ∷ w ∷ xs) [] m = absurd m.1
front_kin g h x y (z ∷ xs) (w ∷ ys) m = (m.0, front_kin g h x y xs ys m.1)

pub parts_kin : (g h : List TypeDef) (d e : TypeDef) → constructor d ≡ constructor e → AllKin g h (arguments d) (arguments e) → AllKin g h (parts d) (parts e)
parts_kin g h (Int w) (Int v) k m = tt
parts_kin g h (Struct xs) (Struct ys) k m = m
parts_kin g h (Array x n) (Array y l) k m = m
parts_kin g h (Hybrid xs x) (Hybrid ys y) k m = m
parts_kin g h Void Void k m = tt
parts_kin g h (Ref x) (Ref y) k m = tt
parts_kin g h (Iref x) (Iref y) k m = tt
parts_kin g h (FuncRef x) (FuncRef y) k m = tt
parts_kin g h StackRef StackRef k m = tt
parts_kin g h ThreadRef ThreadRef k m = tt
parts_kin g h (Sig xs us) (Sig ys vs) k m = tt
parts_kin g h d e k m = absurd (omega (arith, k))

-- ---- walks

any_kin : (g h : List TypeDef) (f e : ℕ → Bool) → ((x y : ℕ) → Kin g h x y → f x ≡ e y) → (xs ys : List ℕ) → AllKin g h xs ys → list_any f xs ≡ list_any e ys
any_kin g h f e s [] [] m = refl
any_kin g h f e s (x ∷ xs) (y ∷ ys) m = ap₂ (λ a b. a || b) (s x y m.0) (any_kin g h f e s xs ys m.1)
any_kin g h f e s [] (y ∷ ys) m = absurd m
any_kin g h f e s (x ∷ xs) [] m = absurd m

pub goes_kin : (g h : List TypeDef) (k a b : ℕ) → Kin g h a b → goes g k a ≡ goes h k b
unfolding goes
goes_kin g h zero a b m = refl
goes_kin g h (suc k) a b m =
    let d = defined g h a b m in
    rw (d.at_one, d.at_other) (any_kin g h (goes g k) (goes h k) (λ x y n. goes_kin g h k x y n) (parts d.one) (parts d.other) (parts_kin g h d.one d.other d.kind d.args))

any_more : (f e : ℕ → Bool) → ((x : ℕ) → f x ≡ true → e x ≡ true) → (xs : List ℕ) → list_any f xs ≡ true → list_any e xs ≡ true
any_more f e s [] m = absurd (false≢true m)
any_more f e s (x ∷ xs) m = elim (or_cases (f x) (list_any f xs) m) [
  | inl own ↦ rw (s x own) refl
  | inr rest ↦ or_last (e x) (list_any e xs) (any_more f e s xs rest)
]
  where
    or_last : (b c : Bool) → c ≡ true → (b || c) ≡ true
    or_last true c k = refl
    or_last false c k = k

goes_less : (g : List TypeDef) (k a : ℕ) → goes g (suc k) a ≡ true → goes g k a ≡ true
unfolding goes
goes_less g zero a m = refl
goes_less g (suc k) a m = any_more (goes g (suc k)) (goes g k) (λ x n. goes_less g k x n) (parts_at (slice_get g a)) m

goes_over : (g : List TypeDef) (steps k b a : ℕ) → leads g steps b a ≡ true → goes g k b ≡ true → goes g (suc k) a ≡ true
unfolding leads goes
goes_over g zero k b a l m = absurd (false≢true l)
goes_over g (suc steps) k b a l m =
    any_more (λ p. (p == b) || leads g steps b p) (goes g k)
    (λ p n. elim (or_cases (p == b) (leads g steps b p) n) [
      | inl own ↦ subst (λ (x : ℕ). goes g k x ≡ true) (sym (eqb-true p b own)) m
      | inr rest ↦ goes_less g k p (goes_over g steps k b p rest m)
    ]) (parts_at (slice_get g a)) l

-- from a type that contains itself there are walks of any length
turns : (g : List TypeDef) (steps k a : ℕ) → leads g steps a a ≡ true → goes g k a ≡ true
unfolding goes
turns g steps zero a l = refl
turns g steps (suc k) a l = goes_over g steps k a a l (turns g steps k a l)

-- where each type of a graph has kin in a graph in which no type contains itself, no type does here
pub finite_kin : (g h : List TypeDef) → IsGraph g → IsFinite g → (a b : ℕ) → Kin g h a b → contains_itself h b ≡ false
finite_kin g h i f a b m = by (contains_itself h b) refl
  where
    by : (c : Bool) → contains_itself h b ≡ c → contains_itself h b ≡ false
    by false e = e
    by true e = absurd (false≢true (sym (goes_ends g i f a m.low) ∙ (goes_kin g h (length g) a b m ∙ turns h (length h) (length g) b e)))

-- ---- leaves

any_none : (f : ℕ → Bool) (x : ℕ) (xs : List ℕ) → list_any f (x ∷ xs) ≡ false → (f x ≡ false) × (list_any f xs ≡ false)
any_none f x xs m = by (f x) (list_any f xs) m
  where
    by : (b c : Bool) → (b || c) ≡ false → (b ≡ false) × (c ≡ false)
    by true c n = absurd (false≢true (sym n))
    by false c n = (refl, n)

-- sums over kin parts from which no walk of so many steps begins
sum_kin : (g h : List TypeDef) (k : ℕ) (f e : ℕ → ℕ) → ((x y : ℕ) → Kin g h x y → goes g k x ≡ false → f x ≡ e y) → (xs ys : List ℕ) → AllKin g h xs ys → list_any (goes g k) xs ≡ false → sum_by f xs ≡ sum_by e ys
sum_kin g h k f e s [] [] m n = refl
sum_kin g h k f e s (x ∷ xs) (y ∷ ys) m n =
    let both = any_none (goes g k) x xs n in
    sum_by-cons f x xs ∙ ap₂ (λ a b. a + b) (s x y m.0 both.0) (sum_kin g h k f e s xs ys m.1 both.1) ∙ sym (sum_by-cons e y ys)
sum_kin g h k f e s [] (y ∷ ys) m n = absurd m
sum_kin g h k f e s (x ∷ xs) [] m n = absurd m

front_none : (f : ℕ → Bool) (xs : List ℕ) (x : ℕ) → list_any f (xs ++ x ∷ []) ≡ false → list_any f xs ≡ false
front_none f [] x m = refl
front_none f (y ∷ xs) x m = let both = any_none f y (xs ++ x ∷ []) m in rw (both.0) (front_none f xs x both.1)

count_kin : (g h : List TypeDef) (k : ℕ) (f e : ℕ → ℕ) → ((x y : ℕ) → Kin g h x y → goes g k x ≡ false → f x ≡ e y) → (c d : TypeDef) → constructor c ≡ constructor d → number c ≡ number d →
    AllKin g h (arguments c) (arguments d) → list_any (goes g k) (parts c) ≡ false → count_by f c ≡ count_by e d
count_kin g h k f e s (Int w) (Int v) c n m l = refl
count_kin g h k f e s (Struct xs) (Struct ys) c n m l = sum_kin g h k f e s xs ys m l
count_kin g h k f e s (Array x i) (Array y j) c n m l = ap₂ (λ a b. a * b) n (s x y m.0 (any_none (goes g k) x [] l).0)
count_kin g h k f e s (Hybrid xs x) (Hybrid ys y) c n m l = sum_kin g h k f e s xs ys (front_kin g h x y xs ys m) (front_none (goes g k) xs x l)
count_kin g h k f e s Void Void c n m l = refl
count_kin g h k f e s (Ref x) (Ref y) c n m l = refl
count_kin g h k f e s (Iref x) (Iref y) c n m l = refl
count_kin g h k f e s (FuncRef x) (FuncRef y) c n m l = refl
count_kin g h k f e s StackRef StackRef c n m l = refl
count_kin g h k f e s ThreadRef ThreadRef c n m l = refl
count_kin g h k f e s (Sig xs us) (Sig ys vs) c n m l = refl
count_kin g h k f e s c d q n m l = absurd (omega (arith, q))

leaves_to_depth : (g h : List TypeDef) → IsGraph g → IsFinite g → IsGraph h → IsFinite h → (k a b : ℕ) → Kin g h a b → goes g k a ≡ false → length (leaves g a) ≡ length (leaves h b)
unfolding goes
leaves_to_depth g h i f j e zero a b m n = absurd (false≢true (sym n))
leaves_to_depth g h i f j e (suc k) a b m n =
    let d = defined g h a b m in
    let none : list_any (goes g k) (parts d.one) ≡ false = rw d.at_one at n in
    ap (λ (xs : List ℕ). length xs) (leaves_are g i f a m.low ∙ ap (leaves_at (leaves g) a) d.at_one)
    ∙ (counted (leaves g) a d.one
    ∙ (count_kin g h k (λ p. length (leaves g p)) (λ p. length (leaves h p)) (λ x y z w. leaves_to_depth g h i f j e k x y z w) d.one d.other d.kind d.sized d.args none
    ∙ (sym (counted (leaves h) b d.other) ∙ sym (ap (λ (xs : List ℕ). length xs) (leaves_are h j e b m.there ∙ ap (leaves_at (leaves h) b) d.at_other)))))

-- kin types have as many leaves
pub leaves_kin : (g h : List TypeDef) → IsGraph g → IsFinite g → IsGraph h → IsFinite h → (a b : ℕ) → Kin g h a b → length (leaves g a) ≡ length (leaves h b)
leaves_kin g h i f j e a b m = leaves_to_depth g h i f j e (length g) a b m (goes_ends g i f a m.low)
