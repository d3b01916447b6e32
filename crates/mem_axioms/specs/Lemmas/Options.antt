-- The options of an access: the newest position is among them, and no two are the same choice.
use Rattle.std.proofs.Common.{◌≡◌, ℕ, suc, zero, ◌+◌, ◌-◌, ◌<◌, ◌≤◌, Bool, true, false, not, ◌||◌, leb, List, [], ◌∷◌, length, map, filter, All, AllPairs, slice_get, Some, refl, sym, ap, ◌∙◌, inl, inr, ◌⊎◌, ◌↔◌, arith}
use Rattle.std.specs.Bool.{⊤}
use Rattle.std.proofs.lemmas.Bool.{cases_lt, le-leb, lt-leb, false≢true}
use Rattle.std.proofs.lemmas.List.Kept.{AllPairs-cons, AllPairs-filter}
use Rattle.std.proofs.lemmas.List.Elements.{All-map, All-filter}
use Rattle.mu_base.specs.declared.order.Order.{Order}
use Rattle.mu_values.specs.declared.scalars.Scalar.{Scalar}
use Rattle.mu_values.specs.declared.cells.CellId.{CellId}
use Rattle.mem_axioms.specs.Logs.{newest}
use Rattle.mem_axioms.specs.Axioms.{meets_axioms}
use Rattle.mem_axioms.specs.Choices.{down_from, is_option, options, chosen_at, holds, choices}
use Rattle.mem_axioms.specs.OptionTheorems.{order_to_read, ChoiceStands}
use Rattle.mem_axioms.specs.Floor.{floor}
use Rattle.mem_axioms.specs.Objects.{initial_of, HasCell}
use Rattle.mem_axioms.specs.EventFits.{is_thread, EventFits}
use Rattle.mem_axioms.specs.declared.types.Mode.TheVariants.{Read, Update}
use Rattle.mem_axioms.specs.declared.types.Kind.TheVariants.{Access}
use Rattle.mem_axioms.specs.Lemmas.Kept.{newest-allowed}
use Rattle.mem_axioms.specs.Lemmas.Floors.{options-floor, option-iff}
use Rattle.mem_axioms.specs.declared.types.Event.{Event}
use Rattle.mem_axioms.specs.declared.types.Rule.{Rule}
use Rattle.mem_axioms.specs.declared.types.Wanted.{Wanted}
use Rattle.mem_axioms.specs.declared.types.Wanted.TheVariants.{Load, Swap, Compare}
use Rattle.mem_axioms.specs.declared.types.Chosen.{Chosen}

-- ---- lists of positions that go down

-- where the greatest passes it comes first
pub down_from-first : (test : ℕ → Bool) (n : ℕ) → test n ≡ true → (rest : List ℕ) × (down_from test n ≡ n ∷ rest)
down_from-first test zero h = ([], rw (h, down_from))
down_from-first test (suc n) h = (down_from test n, rw (h, down_from))

down_from-below : (test : ℕ → Bool) (n k : ℕ) → n < k → All (λ q. q < k) (down_from test n)
down_from-below test zero k l = go (test 0) refl
  where
    go : (b : Bool) → test 0 ≡ b → All (λ q. q < k) (down_from test 0)
    go true p = rw (p, down_from) (λ i d h. let z : i ≡ 0 = omega arith in rw z (omega arith))
    go false p = rw (p, down_from) (λ i d h. absurd (omega arith))
down_from-below test (suc n) k l = go (test (suc n)) refl (down_from-below test n k (omega arith))
  where
    go : (b : Bool) → test (suc n) ≡ b → All (λ q. q < k) (down_from test n) → All (λ q. q < k) (down_from test (suc n))
    go true p ih = rw (p, down_from) at_each
      where
        at_each : All (λ q. q < k) (suc n ∷ down_from test n)
        at_each zero d h = l
        at_each (suc i) d h = ih i d (omega arith)
    go false p ih = rw (p, down_from) ih

down_from-falls : (test : ℕ → Bool) (n : ℕ) → AllPairs (λ a b. b < a) (down_from test n)
down_from-falls test zero = go (test 0) refl
  where
    go : (b : Bool) → test 0 ≡ b → AllPairs (λ a b. b < a) (down_from test 0)
    go true p = rw (p, down_from) (λ i j d l h. absurd (omega arith))
    go false p = rw (p, down_from) (λ i j d l h. absurd (omega arith))
down_from-falls test (suc n) = go (test (suc n)) refl (down_from-falls test n)
  where
    go : (b : Bool) → test (suc n) ≡ b → AllPairs (λ a b. b < a) (down_from test n) → AllPairs (λ a b. b < a) (down_from test (suc n))
    go true p ih = rw (p, down_from) (AllPairs-cons (λ a b. b < a) (suc n) (down_from test n) (down_from-below test n (suc n) (omega arith)) ih)
    go false p ih = rw (p, down_from) ih

down_from-none : (f n : ℕ) → n < f → down_from (λ p. leb f p) n ≡ []
down_from-none f zero h = rw (lt-leb f 0 h)
down_from-none f (suc n) h = rw (lt-leb f (suc n) h) (down_from-none f n (omega arith))

-- all positions from a floor on
pub down_from-length : (f n : ℕ) → length (down_from (λ p. leb f p) n) ≡ suc n - f
down_from-length f zero = go (cases_lt 0 f)
  where
    go : (0 < f) ⊎ (f ≤ 0) → length (down_from (λ p. leb f p) 0) ≡ 1 - f
    go (inl l) = rw (lt-leb f 0 l) (omega arith)
    go (inr l) = rw (le-leb f 0 l) (omega arith)
down_from-length f (suc n) = go (down_from-length f n) (cases_lt (suc n) f)
  where
    go : length (down_from (λ p. leb f p) n) ≡ suc n - f → (suc n < f) ⊎ (f ≤ suc n) → length (down_from (λ p. leb f p) (suc n)) ≡ suc (suc n) - f
    go ih (inl l) = rw (lt-leb f (suc n) l) (omega (arith, ih))
    go ih (inr l) = rw (le-leb f (suc n) l) (omega (arith, ih))

pub down_from-nth : (f n i : ℕ) → f + i ≤ n → slice_get (down_from (λ p. leb f p) n) i ≡ Some (n - i)
down_from-nth f zero i h = let z : i ≡ 0 = omega arith in rw (z, le-leb f 0 (omega arith)) (ap Some (omega arith))
down_from-nth f (suc n) zero h = rw (le-leb f (suc n) (omega arith)) (ap Some (omega arith))
down_from-nth f (suc n) (suc i) h = rw (le-leb f (suc n) (omega arith)) (down_from-nth f n i (omega arith) ∙ ap Some (omega arith))

-- ---- choices

-- not the same choice
abbrev Apart : Chosen → Chosen → Type 0
Apart a b = a.position ≡ b.position → a.success ≡ b.success → ⊥

AllPairs-map : {X Y : Type 0} (R : Y → Y → Type 0) (f : X → Y) (xs : List X) → AllPairs (λ a b. R (f a) (f b)) xs → AllPairs R (map f xs)
AllPairs-map R f [] h = λ i j d l m. absurd (omega arith)
AllPairs-map R f (x ∷ xs) h = AllPairs-cons R (f x) (map f xs) (All-map (R (f x)) f xs (λ k d l. h 0 (suc k) d (omega arith) (omega arith)))
    (AllPairs-map R f xs (λ i j d l m. h (suc i) (suc j) d (omega arith) (omega arith)))

module _ (rule : Rule) (initial : CellId → Scalar) (log : List Event) (thread : ℕ) (cell : CellId) where
  failures-apart : (ps : List ℕ) → AllPairs (λ a b. b < a) ps → AllPairs Apart (map (chosen_at initial log cell false) ps)
  failures-apart ps h = AllPairs-map Apart (chosen_at initial log cell false) ps (λ i j d l m p s. let q = h i j d l m in omega arith)

  success-apart : (n : ℕ) (ps : List ℕ) → All (Apart (chosen_at initial log cell true n)) (map (chosen_at initial log cell false) ps)
  success-apart n ps = All-map (Apart (chosen_at initial log cell true n)) (chosen_at initial log cell false) ps (λ k d l p s. false≢true (sym s))

  one-apart : (c : Chosen) → AllPairs Apart (c ∷ [])
  one-apart c = λ i j d l m. absurd (omega arith)

  pub choices-apart : (wanted : Wanted) → AllPairs Apart (choices rule initial log thread cell wanted)
  unfolding choices options
  choices-apart (Load order) = failures-apart (options rule initial log thread cell order) (down_from-falls (is_option rule initial log thread cell order) (newest log cell))
  choices-apart Swap = one-apart (chosen_at initial log cell true (newest log cell))
  choices-apart (Compare success failure expected weak) = go (holds initial log cell expected (newest log cell)) refl
    where
      rest : List ℕ
      rest = filter (λ position. weak || not (holds initial log cell expected position)) (options rule initial log thread cell failure)

      falls : AllPairs (λ a b. b < a) rest
      falls = AllPairs-filter (λ a b. b < a) (λ position. weak || not (holds initial log cell expected position)) (options rule initial log thread cell failure)
          (down_from-falls (is_option rule initial log thread cell failure) (newest log cell))

      go : (b : Bool) → holds initial log cell expected (newest log cell) ≡ b → AllPairs Apart (choices rule initial log thread cell (Compare success failure expected weak))
      go true p = rw p (AllPairs-cons Apart (chosen_at initial log cell true (newest log cell)) (map (chosen_at initial log cell false) rest) (success-apart (newest log cell) rest) (failures-apart rest falls))
      go false p = rw p (failures-apart rest falls)

  module _ (m : meets_axioms rule initial log ≡ true) where
    pub newest-is : (order : Order) → is_option rule initial log thread cell order (newest log cell) ≡ true
    newest-is order = newest-allowed rule initial log thread cell order m

    first-option : (order : Order) → (rest : List ℕ) × (options rule initial log thread cell order ≡ newest log cell ∷ rest)
    unfolding options
    first-option order = down_from-first (is_option rule initial log thread cell order) (newest log cell) (newest-is order)

    pub newest-first : (order : Order) → slice_get (options rule initial log thread cell order) 0 ≡ Some (newest log cell)
    newest-first order = rw (first-option order).1

    pub newest-first-choice : (order : Order) → slice_get (choices rule initial log thread cell (Load order)) 0 ≡ Some (chosen_at initial log cell false (newest log cell))
    unfolding choices
    newest-first-choice order = rw (first-option order).1

    pub choices-some : (wanted : Wanted) → 0 < length (choices rule initial log thread cell wanted)
    unfolding choices
    choices-some (Load order) = rw (first-option order).1 (omega arith)
    choices-some Swap = omega arith
    choices-some (Compare success failure expected weak) = go (holds initial log cell expected (newest log cell)) refl
      where
        go : (b : Bool) → holds initial log cell expected (newest log cell) ≡ b → 0 < length (choices rule initial log thread cell (Compare success failure expected weak))
        go true p = rw p (omega arith)
        go false p = rw (p, (first-option failure).1) (kept weak)
          where
            kept : (weak : Bool) → 0 < length (map (chosen_at initial log cell false) (filter (λ position. weak || not (holds initial log cell expected position)) (newest log cell ∷ (first-option failure).0)))
            kept true = omega arith
            kept false = rw p (omega arith)

    pub floor-option : (order : Order) (position : ℕ) → position ≤ newest log cell → (is_option rule initial log thread cell order position ≡ true) ↔ (floor rule log thread cell order ≤ position)
    floor-option order position le = option-iff rule initial log thread cell order position m le

    pub floor-below : (order : Order) → floor rule log thread cell order ≤ newest log cell
    floor-below order = (floor-option order (newest log cell) (omega arith)).0 (newest-is order)

    pub options-number : (order : Order) → length (options rule initial log thread cell order) ≡ suc (newest log cell) - floor rule log thread cell order
    options-number order = rw (options-floor rule initial log thread cell order m) (down_from-length (floor rule log thread cell order) (newest log cell))

    pub options-nth : (order : Order) (n : ℕ) → floor rule log thread cell order + n ≤ newest log cell → slice_get (options rule initial log thread cell order) n ≡ Some (newest log cell - n)
    options-nth order n le = rw (options-floor rule initial log thread cell order m) (down_from-nth (floor rule log thread cell order) (newest log cell) n le)

-- ---- what each choice is

at-each : {X : Type 0} (P : X → Type 0) (xs : List X) → All P xs → (n : ℕ) (c : X) → slice_get xs n ≡ Some c → P c
at-each P [] h n c g = absurd (cc)
at-each P (x ∷ xs) h zero c g = let q : x ≡ c = cc in rw (sym q) (h 0 x (omega arith))
at-each P (x ∷ xs) h (suc n) c g = at-each P xs (λ k d l. h (suc k) d (omega arith)) n c g

all-cons : {X : Type 0} (P : X → Type 0) (x : X) (xs : List X) → P x → All P xs → All P (x ∷ xs)
all-cons P x xs p h zero d l = p
all-cons P x xs p h (suc k) d l = h k d (omega arith)

down_from-passes : (test : ℕ → Bool) (n : ℕ) → All (λ q. test q ≡ true) (down_from test n)
down_from-passes test zero = go (test 0) refl
  where
    go : (b : Bool) → test 0 ≡ b → All (λ q. test q ≡ true) (down_from test 0)
    go true p = rw (p, down_from) (all-cons (λ q. test q ≡ true) 0 [] p (λ k d l. absurd (omega arith)))
    go false p = rw (p, down_from) (λ k d l. absurd (omega arith))
down_from-passes test (suc n) = go (test (suc n)) refl (down_from-passes test n)
  where
    go : (b : Bool) → test (suc n) ≡ b → All (λ q. test q ≡ true) (down_from test n) → All (λ q. test q ≡ true) (down_from test (suc n))
    go true p ih = rw (p, down_from) (all-cons (λ q. test q ≡ true) (suc n) (down_from test n) p ih)
    go false p ih = rw (p, down_from) ih

module _ (rule : Rule) (initial : CellId → Scalar) (log : List Event) (thread : ℕ) (cell : CellId) where
  abbrev Certain : Wanted → Bool → Type 0
  Certain wanted success = elim wanted as (λ _. Type 0) [ Load order ↦ success ≡ false | Swap ↦ success ≡ true | Compare s f e w ↦ ⊤ ]

  failure-stands : (wanted : Wanted) (q : ℕ) → Certain wanted false → is_option rule initial log thread cell (order_to_read wanted) q ≡ true → ChoiceStands rule initial log thread cell wanted (chosen_at initial log cell false q)
  failure-stands wanted q k o = record { value = refl; success = λ s. absurd (false≢true s); failure = λ s. o; certain = k }

  success-stands : (wanted : Wanted) → Certain wanted true → ChoiceStands rule initial log thread cell wanted (chosen_at initial log cell true (newest log cell))
  success-stands wanted k = record { value = refl; success = λ s. refl; failure = λ s. absurd (false≢true (sym s)); certain = k }

  failures-stand : (wanted : Wanted) (ps : List ℕ) → Certain wanted false → All (λ q. is_option rule initial log thread cell (order_to_read wanted) q ≡ true) ps
      → All (ChoiceStands rule initial log thread cell wanted) (map (chosen_at initial log cell false) ps)
  failures-stand wanted ps k h = All-map (ChoiceStands rule initial log thread cell wanted) (chosen_at initial log cell false) ps (λ i d l. failure-stands wanted _ k (h i d l))

  all-stand : (wanted : Wanted) → All (ChoiceStands rule initial log thread cell wanted) (choices rule initial log thread cell wanted)
  unfolding choices options
  all-stand (Load order) = failures-stand (Load order) (options rule initial log thread cell order) refl (down_from-passes (is_option rule initial log thread cell order) (newest log cell))
  all-stand Swap = all-cons (ChoiceStands rule initial log thread cell Swap) (chosen_at initial log cell true (newest log cell)) [] (success-stands Swap refl) (λ k d l. absurd (omega arith))
  all-stand (Compare success failure expected weak) = go (holds initial log cell expected (newest log cell)) refl
    where
      rest : List ℕ
      rest = filter (λ position. weak || not (holds initial log cell expected position)) (options rule initial log thread cell failure)

      passes : All (λ q. is_option rule initial log thread cell failure q ≡ true) rest
      passes = All-filter (λ position. weak || not (holds initial log cell expected position)) (λ q. is_option rule initial log thread cell failure q ≡ true) (options rule initial log thread cell failure)
          (down_from-passes (is_option rule initial log thread cell failure) (newest log cell))

      go : (b : Bool) → holds initial log cell expected (newest log cell) ≡ b
          → All (ChoiceStands rule initial log thread cell (Compare success failure expected weak)) (choices rule initial log thread cell (Compare success failure expected weak))
      go true p = rw p (all-cons (ChoiceStands rule initial log thread cell (Compare success failure expected weak)) (chosen_at initial log cell true (newest log cell)) (map (chosen_at initial log cell false) rest)
          (success-stands (Compare success failure expected weak) tt) (failures-stand (Compare success failure expected weak) rest tt passes))
      go false p = rw p (failures-stand (Compare success failure expected weak) rest tt passes)

  pub choice-stands : (wanted : Wanted) (n : ℕ) (c : Chosen) → slice_get (choices rule initial log thread cell wanted) n ≡ Some c → ChoiceStands rule initial log thread cell wanted c
  choice-stands wanted n c g = at-each (ChoiceStands rule initial log thread cell wanted) (choices rule initial log thread cell wanted) (all-stand wanted) n c g

-- what was chosen fits a run
pub choice-fits : (rule : Rule) (objects : List (List Scalar)) (log : List Event) (thread : ℕ) (cell : CellId) (wanted : Wanted) (n : ℕ) (c : Chosen)
    → is_thread log thread ≡ true → HasCell objects cell → slice_get (choices rule (initial_of objects) log thread cell wanted) n ≡ Some c
    → (c.success ≡ false → EventFits rule objects log (record { thread = thread; kind = Access Read cell (order_to_read wanted) c.position c.value }))
    × (c.success ≡ true → (order : Order) (value : Scalar) → EventFits rule objects log (record { thread = thread; kind = Access Update cell order (suc c.position) value }))
choice-fits rule objects log thread cell wanted n c made there g = (
  λ f. record { thread = made; child = tt; cell = there; wake = tt; position = (stands.failure f, stands.value) },
  λ t order value. record { thread = made; child = tt; cell = there; wake = tt; position = ap suc (stands.success t) },
)
  where
    stands : ChoiceStands rule (initial_of objects) log thread cell wanted c
    stands = choice-stands rule (initial_of objects) log thread cell wanted n c g
