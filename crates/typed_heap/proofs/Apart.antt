-- Cells that were given scalars of their own, when cells are added, taken away or given one.
use Rattle.std.proofs.Common.{◌≡◌, ◌⊎◌, inl, inr, ℕ, zero, suc, ◌+◌, ◌<◌, List, [], ◌∷◌, ◌++◌, length, take, map, Option, Some, None, slice_get, refl, sym, ap, subst, ◌∙◌, arith}
use Rattle.std.specs.Prelude.{slice_set}
use Rattle.std.specs.List.{All}
use Rattle.std.proofs.lemmas.List.{get_or-set_same, get_or-set_other}
use Rattle.std.proofs.lemmas.List.Elements.{All-set}
use Rattle.std.proofs.lemmas.Option.{slice_get_within, get_or_from_slice_get}
use Rattle.type_definitions.specs.declared.definition.TypeDef.{TypeDef}
use Rattle.mu_values.specs.Constants.{width_of}
use Rattle.mu_values.specs.declared.scalars.Scalar.{Scalar}
use Rattle.mu_values.specs.declared.scalars.Scalar.TheVariants.{Null}
use Rattle.typed_heap.specs.declared.objects.Initial.{Initial}
use Rattle.typed_heap.specs.declared.objects.Initial.TheVariants as initials
use Rattle.typed_heap.specs.Rows.{initial_of, IsKnown, AreApart, AreOwn, first_by, firsts}
use Rattle.typed_heap.specs.Lemmas.Firsts.{known_more}

-- ---- cells that are added or taken away

first_not_given : (o : Option ℕ) (n : ℕ) → first_by o ≡ initials.Given n → ⊥
first_not_given None n h = cc
first_not_given (Some w) n h = cc

some_is : {A : Type 0} (x y : A) → Some x ≡ Some y → x ≡ y
some_is x y h = cc

firsts_not_given : (g : List TypeDef) (cs : List ℕ) (i n : ℕ) → slice_get (firsts g cs) i ≡ Some (initials.Given n) → ⊥
firsts_not_given g [] i n h = cc
firsts_not_given g (c ∷ cs) zero n h = first_not_given (width_of (slice_get g c)) n (some_is _ _ h)
firsts_not_given g (c ∷ cs) (suc i) n h = firsts_not_given g cs i n h

given_before : (is : List Initial) (g : List TypeDef) (cs : List ℕ) (i n : ℕ) → slice_get (is ++ firsts g cs) i ≡ Some (initials.Given n) → slice_get is i ≡ Some (initials.Given n)
given_before [] g cs i n h = absurd (firsts_not_given g cs i n h)
given_before (x ∷ is) g cs zero n h = h
given_before (x ∷ is) g cs (suc i) n h = given_before is g cs i n h

pub apart_pushed : (is : List Initial) (g : List TypeDef) (cs : List ℕ) → AreApart is → AreApart (is ++ firsts g cs)
apart_pushed is g cs h i j n e f = h i j n (given_before is g cs i n e) (given_before is g cs j n f)

get_of_take : {A : Type 0} (xs : List A) (k i : ℕ) (x : A) → slice_get (take k xs) i ≡ Some x → slice_get xs i ≡ Some x
get_of_take xs zero i x h = cc
get_of_take [] (suc k) i x h = cc
get_of_take (y ∷ xs) (suc k) zero x h = h
get_of_take (y ∷ xs) (suc k) (suc i) x h = get_of_take xs k i x h

pub apart_front : (is : List Initial) (k : ℕ) → AreApart is → AreApart (take k is)
apart_front is k h i j n e f = h i j n (get_of_take is k i (initials.Given n) e) (get_of_take is k j (initials.Given n) f)

-- ---- a cell that is given its first scalar

get_of_set : {A : Type 0} (xs : List A) (k i : ℕ) (x y : A) → slice_get (slice_set xs k x) i ≡ Some y → ((i ≡ k) × (x ≡ y)) ⊎ (slice_get xs i ≡ Some y)
get_of_set [] k i x y h = inr h
get_of_set (z ∷ xs) zero zero x y h = inl (refl, some_is x y h)
get_of_set (z ∷ xs) zero (suc i) x y h = inr h
get_of_set (z ∷ xs) (suc k) zero x y h = inr h
get_of_set (z ∷ xs) (suc k) (suc i) x y h = go (get_of_set xs k i x y h)
  where
    go : ((i ≡ k) × (x ≡ y)) ⊎ (slice_get xs i ≡ Some y) → ((suc i ≡ suc k) × (x ≡ y)) ⊎ (slice_get xs i ≡ Some y)
    go (inl e) = inl (ap suc e.0, e.1)
    go (inr e) = inr e

number_is : (m n : ℕ) → initials.Given m ≡ initials.Given n → m ≡ n
number_is m n h = cc

pub known_at : (many : ℕ) (is : List Initial) (i n : ℕ) → All (IsKnown many) is → slice_get is i ≡ Some (initials.Given n) → n < many
known_at many is i n h e =
    let d = initials.Given n in
    subst (IsKnown many) (get_or_from_slice_get is i d d e) (h i d (slice_get_within is i d e))

apart_given : (many : ℕ) (is : List Initial) (k : ℕ) → All (IsKnown many) is → AreApart is → AreApart (slice_set is k (initials.Given many))
apart_given many is k known h i j n e f = go (get_of_set is k i (initials.Given many) (initials.Given n) e) (get_of_set is k j (initials.Given many) (initials.Given n) f)
  where
    go : ((i ≡ k) × (initials.Given many ≡ initials.Given n)) ⊎ (slice_get is i ≡ Some (initials.Given n)) → ((j ≡ k) × (initials.Given many ≡ initials.Given n)) ⊎ (slice_get is j ≡ Some (initials.Given n)) → i ≡ j
    go (inl a) (inl b) = a.0 ∙ sym b.0
    go (inl a) (inr b) = absurd (omega (arith, number_is many n a.1, known_at many is j n known b))
    go (inr a) (inl b) = absurd (omega (arith, number_is many n b.1, known_at many is i n known a))
    go (inr a) (inr b) = h i j n a b

-- its scalar is its own
pub own_given : (many : ℕ) (is : List Initial) (k : ℕ) → AreOwn is many → AreOwn (slice_set is k (initials.Given many)) (many + 1)
own_given many is k h =
    let low : IsKnown (many + 1) (initials.Given many) = omega arith in
    record {
      known = All-set (IsKnown (many + 1)) is k (initials.Given many) low (known_more many is h.known);
      apart = apart_given many is k h.known h.apart;
    }

-- ---- a cell that is given another one

other_shown : (given : List Scalar) (n : ℕ) (s : Scalar) (x : Initial) → (x ≡ initials.Given n → ⊥) → initial_of (slice_set given n s) x ≡ initial_of given x
other_shown given n s initials.Null h = refl
other_shown given n s (initials.Zero w) h = refl
other_shown given n s (initials.Given m) h = get_or-set_other given n m s Null (λ e. h (ap initials.Given e))

others_shown : (given : List Scalar) (n : ℕ) (s : Scalar) (is : List Initial) → ((i : ℕ) → slice_get is i ≡ Some (initials.Given n) → ⊥) → map (initial_of (slice_set given n s)) is ≡ map (initial_of given) is
others_shown given n s [] h = refl
others_shown given n s (x ∷ is) h =
    let here = other_shown given n s x (λ e. h zero (ap Some e)) in
    let rest = others_shown given n s is (λ i. h (suc i)) in
    cc

pub overwritten_shown : (given : List Scalar) (n : ℕ) (s : Scalar) (is : List Initial) (k : ℕ) → n < length given → AreApart is → slice_get is k ≡ Some (initials.Given n) →
    map (initial_of (slice_set given n s)) is ≡ slice_set (map (initial_of given) is) k s
overwritten_shown given n s [] k l h e = cc
overwritten_shown given n s (x ∷ is) zero l h e =
    let same : x ≡ initials.Given n = some_is _ _ e in
    let here : initial_of (slice_set given n s) x ≡ s = rw same (get_or-set_same given n s Null l) in
    let rest = others_shown given n s is (λ i f. (let far : suc i ≡ zero = h (suc i) zero n f e in absurd (omega (arith, far)))) in
    cc
overwritten_shown given n s (x ∷ is) (suc k) l h e =
    let here = other_shown given n s x (λ f. (let far : zero ≡ suc k = h zero (suc k) n (ap Some f) e in absurd (omega (arith, far)))) in
    let rest = overwritten_shown given n s is k l (λ i j m f g. (let near : suc i ≡ suc j = h (suc i) (suc j) m f g in omega (arith, near))) e in
    cc
