-- A search from the oldest event on finds the least.
use Rattle.std.proofs.Common.{◌≡◌, ℕ, ◌+◌, ◌<◌, ◌≤◌, Bool, true, false, ◌&&◌, List, [], ◌∷◌, ◌++◌, length, refl, sym, ap, ◌∙◌, inl, inr, arith, is_none, length-append}
use Rattle.std.specs.Prelude.{Option, Some, None, nat_le, ◌==◌, ◌||◌, unwrap_or}
use Rattle.std.proofs.lemmas.Bool.{and_from, cases_lt, false≢true, eqb-true, le-leb, leb-true, or_left, or_right, eq-eqb}
use Rattle.mem_axioms.specs.Logs.{event_at, least_event}
use Rattle.mem_axioms.specs.Lemmas.Numbers.{event-below, event-cases, event-one, event-newest}
use Rattle.mem_axioms.specs.Lemmas.Racings.{LeastOr, least-is, least-one}
use Rattle.mem_axioms.specs.declared.types.Event.{Event}

module _ (test : ℕ → Event → Bool) (past : List Event) where
  -- none passes that has a number below
  abbrev pub NoneBelow : ℕ → Type 0
  NoneBelow i = (k : ℕ) (ek : Event) → k < i → event_at past k ≡ Some ek → test k ek ≡ false

  pub found : (i : ℕ) (e : Event) → NoneBelow i → event_at past i ≡ Some e → test i e ≡ true → Some i ≡ least_event test past
  found i e n h t = go (least_event test past) (least-is test past)
    where
      least : (k : ℕ) (ek : Event) → event_at past k ≡ Some ek → test k ek ≡ true → i ≤ k
      least k ek at q = elim (cases_lt k i) [ inl l ↦ absurd (false≢true (sym (n k ek l at) ∙ q)) | inr l ↦ l ]

      go : (o : Option ℕ) → LeastOr test past o → Some i ≡ o
      go (Some j) w = ap (λ (x : ℕ). Some x) (least-one test past i j (record { ei = e; there = h; passes = t; least = least }) w)
      go None w = absurd (w i e h t)

  pub none_found : (i : ℕ) → length past ≤ i → NoneBelow i → None ≡ least_event test past
  none_found i l n = go (least_event test past) (least-is test past)
    where
      go : (o : Option ℕ) → LeastOr test past o → None ≡ o
      go (Some j) w = let b = event-below past j w.ei w.there in absurd (false≢true (sym (n j w.ei (omega arith) w.there) ∙ w.passes))
      go None w = refl

  pub none_more : (i : ℕ) (e : Event) → NoneBelow i → event_at past i ≡ Some e → test i e ≡ false → NoneBelow (i + 1)
  none_more i e n h t k ek l at = elim (cases_lt k i) [ inl q ↦ n k ek q at | inr q ↦ same k (omega arith) at ]
    where
      same : (k : ℕ) → k ≡ i → event_at past k ≡ Some ek → test k ek ≡ false
      same k p at = rw (p, event-one past i ek e (rw (← p) at) h) t

-- ---- a test of two parts

pub both_hold : (a b x y : Bool) → a ≡ true → a ≡ x → b ≡ true → b ≡ y → (x && y) ≡ true
both_hold a b x y p q r s = and_from x y (sym q ∙ p) (sym s ∙ r)

pub first_fails : (a x y : Bool) → a ≡ false → a ≡ x → (x && y) ≡ false
first_fails a x y p q = rw (sym q ∙ p) refl

pub second_fails : (b x y : Bool) → b ≡ false → b ≡ y → (x && y) ≡ false
second_fails b x y p q = rw (sym q ∙ p) (last x)
  where
    last : (x : Bool) → (x && false) ≡ false
    last true = refl
    last false = refl

pub three_hold : (a b c x y z : Bool) → a ≡ true → a ≡ x → b ≡ true → b ≡ y → c ≡ true → c ≡ z → ((x && y) && z) ≡ true
three_hold a b c x y z p q r s t u = rw (sym q ∙ p, sym s ∙ r, sym u ∙ t) refl

pub third_fails : (c x y z : Bool) → c ≡ false → c ≡ z → ((x && y) && z) ≡ false
third_fails c x y z p q = second_fails c (x && y) z p q

pub first_of_three : (a x y z : Bool) → a ≡ false → a ≡ x → ((x && y) && z) ≡ false
first_of_three a x y z p q = rw (sym q ∙ p) refl

pub second_of_three : (b x y z : Bool) → b ≡ false → b ≡ y → ((x && y) && z) ≡ false
second_of_three b x y z p q = first_fails (x && y) (x && y) z (second_fails b x y p q) refl

-- ---- the test of a fence that comes first

fence_fails : (s q f h : Bool) → q ≡ false → ((s && f) && h) ≡ false → (s && (q || (f && h))) ≡ false
fence_fails true q true h p r = rw (p, r) refl
fence_fails true q false h p r = rw p refl
fence_fails false q f h p r = refl

fence_holds : (s q f h : Bool) → ((s && f) && h) ≡ true → (s && (q || (f && h))) ≡ true
fence_holds true q true h r = rw r (or_right q true refl)
fence_holds true q false h r = absurd (false≢true r)
fence_holds false q f h r = absurd (false≢true r)

other : (a n : ℕ) → a < n → (a == n) ≡ false
other a n l = go (a == n) refl
  where
    go : (x : Bool) → (a == n) ≡ x → (a == n) ≡ false
    go true q = let z = eqb-true a n q in absurd (omega (arith, z, l))
    go false q = q

pub a_fails : (b a n : ℕ) (s f h : Bool) → a < n → ((s && f) && h) ≡ false → (nat_le b a && (s && ((a == n) || (f && h)))) ≡ false
a_fails b a n s f h l r = second_fails (s && ((a == n) || (f && h))) (nat_le b a) (s && ((a == n) || (f && h))) (fence_fails s (a == n) f h (other a n l) r) refl

pub a_holds : (b a n : ℕ) (s f h : Bool) → b ≤ a → ((s && f) && h) ≡ true → (nat_le b a && (s && ((a == n) || (f && h)))) ≡ true
a_holds b a n s f h l r = and_from (nat_le b a) (s && ((a == n) || (f && h))) (le-leb b a l) (fence_holds s (a == n) f h r)

pub read_holds : (b n : ℕ) (s x : Bool) → b ≤ n → s ≡ true → (nat_le b n && (s && ((n == n) || x))) ≡ true
read_holds b n s x l p = and_from (nat_le b n) (s && ((n == n) || x)) (le-leb b n l) (and_from s ((n == n) || x) p (or_left (n == n) x (eq-eqb n n refl)))

pub read_fails : (l s x : Bool) → s ≡ false → (l && (s && x)) ≡ false
read_fails l s x p = second_fails (s && x) l (s && x) (rw p refl) refl

-- a number below the first of them is not among those from there on
pub not_from : (b k : ℕ) (x : Bool) → k < b → (nat_le b k && x) ≡ false
not_from b k x l = go (nat_le b k) refl
  where
    go : (y : Bool) → nat_le b k ≡ y → (nat_le b k && x) ≡ false
    go true q = let z = leb-true b k q in absurd (omega (arith, z, l))
    go false q = rw q refl

-- ---- the newest event passes or not, where no earlier one did

pub here : (test : ℕ → Event → Bool) (past : List Event) (n i : ℕ) (e : Event) → n ≡ length past → n ≤ i → NoneBelow test (e ∷ past) i → test (length past) e ≡ true → Some n ≡ least_event test (e ∷ past)
here test past n i e p l none t = ap (λ (x : ℕ). Some x) p ∙ found test (e ∷ past) (length past) e (λ k ek q. none k ek (omega arith)) (event-newest e past) t

pub nowhere : (test : ℕ → Event → Bool) (past : List Event) (n i : ℕ) (e : Event) → n ≡ length past → n ≤ i → NoneBelow test (e ∷ past) i → test (length past) e ≡ false → None ≡ least_event test (e ∷ past)
nowhere test past n i e p l none t =
    none_found test (e ∷ past) (length past + 1) (omega arith)
    (none_more test (e ∷ past) (length past) e (λ k ek q. none k ek (omega arith)) (event-newest e past) t)

-- ---- the least is a number of the log

some_is : (b j : ℕ) → Some b ≡ Some j → b ≡ j
some_is b j q = ap (λ (o : Option ℕ). unwrap_or o 0) q

some_none : {A : Type 0} (b : ℕ) → Some b ≡ None → A
some_none b q = absurd (false≢true (ap is_none q))

pub within : (test : ℕ → Event → Bool) (past : List Event) (b n : ℕ) → Some b ≡ least_event test past → n ≡ length past → b ≤ n
within test past b n h l = go (least_event test past) (least-is test past) h
  where
    go : (o : Option ℕ) → LeastOr test past o → Some b ≡ o → b ≤ n
    go (Some j) w q = let z = event-below past j w.ei w.there in let y = some_is b j q in omega (arith, z, y, l)
    go None w q = some_none b q
