-- Passes over the constants that are not made: each makes at least one.
use Rattle.std.specs.Prelude.{IfSome, slice_index, slice_index_or}
use Rattle.std.proofs.Common.{◌≡◌, ◌≢◌, ℕ, zero, suc, ◌+◌, ◌<◌, ◌≤◌, Bool, true, false, List, [], ◌∷◌, ◌++◌, length, set, Option, Some, None, slice_get, refl, sym, ◌∙◌, ap, subst, inl, inr, ◌⊎◌, arith, get_or-set_same, get_or-set_other}
use Rattle.std.specs.List.{All, Contains}
use Rattle.std.proofs.lemmas.Bool.{false≢true, cases_lt}
use Rattle.std.proofs.lemmas.List.{length-append, length-set}
use Rattle.std.proofs.lemmas.List.Elements.{All-nil, All-cons, All-append, All-contains, All-weaker, Contains-append_cases, Contains-append_left, Contains-append_right}
use Rattle.std.proofs.lemmas.List.Sums.{AllPass-from_list_all}
use Rattle.type_definitions.specs.declared.definition.TypeDef.{TypeDef}
use Rattle.mu_values.specs.declared.scalars.Scalar.{Scalar}
use Rattle.mu_values.specs.Constants.{width_of, constant_value, value_at, HasMembers}
use Rattle.checked_code.specs.declared.constants.Constant.{Constant}
use Rattle.bundle_constants.specs.declared.making.Making.{Making}
use Rattle.checked_code.specs.ConstantMembers.{members_of, is_made, is_ready, is_ready_at, value_by, value_of, Lawful}
use Rattle.bundle_constants.specs.Making.{IsMaking, AreLeft}
use Rattle.checked_code.specs.Lemmas.ConstantMembers.{none_stuck, constant_at, not_ready, kind_low, holds_at, value_same, settled_at}

-- ---- one pass, where so many were left: those that are still to be looked at, and those that are kept
pub record IsPass (many total : ℕ) (cs : List Constant) (done : List Bool) (left kept : List ℕ) : Type 0 where
  pub left_low : All (λ n. n < many) left
  pub kept_low : All (λ n. n < many) kept
  pub covers : (n : ℕ) → n < many → is_made done n ≡ false → Contains left n ⊎ Contains kept n
  -- some were made, or those that are kept have members that are not made
  pub progress : (length left + length kept < total) ⊎ ((length left + length kept ≡ total) × All (λ n. is_ready_at done (slice_get cs n) ≡ false) kept)

pub started : (many : ℕ) (cs : List Constant) (done : List Bool) (left kept : List ℕ) → kept ≡ [] → AreLeft many done left → IsPass many (length left) cs done left kept
started many cs done left kept e l = rw e (record {
  left_low = l.within;
  kept_low = All-nil (λ n. n < many);
  covers = λ n m h. inl (l.covers n m h);
  progress = inr ((omega arith), All-nil (λ n. is_ready_at done (slice_get cs n) ≡ false));
})

all_left : (P : ℕ → Type 0) (xs ys : List ℕ) → All P (xs ++ ys) → All P xs
all_left P xs ys a k d l = by (All-contains P (xs ++ ys) (slice_index_or xs k d) a (Contains-append_left xs ys (slice_index_or xs k d) (k, l, itself xs k d l)))
  where
    by : P (slice_index_or xs k d) → P (slice_index_or xs k d)
    by p = p

    itself : (xs : List ℕ) (k d : ℕ) → k < length xs → slice_index_or xs k (slice_index_or xs k d) ≡ slice_index_or xs k d
    itself [] k d l = absurd (omega arith)
    itself (x ∷ xs) zero d l = refl
    itself (x ∷ xs) (suc k) d l = itself xs k d (omega arith)

all_last : (P : ℕ → Type 0) (xs : List ℕ) (x : ℕ) → All P (xs ++ x ∷ []) → P x
all_last P xs x a = All-contains P (xs ++ x ∷ []) x a (Contains-append_right xs (x ∷ []) x (0, (omega arith), refl))

one_is : (x m : ℕ) → Contains (x ∷ []) m → m ≡ x
one_is x m c = by c.0 c.1 c.2
  where
    by : (k : ℕ) → k < 1 → slice_index_or (x ∷ []) k m ≡ m → m ≡ x
    by zero l e = sym e
    by (suc k) l e = absurd (omega arith)

pub kept_more : (many total : ℕ) (cs : List Constant) (done : List Bool) (old new kept : List ℕ) (n : ℕ) → old ≡ new ++ n ∷ [] → is_ready_at done (slice_get cs n) ≡ false →
    IsPass many total cs done old kept → IsPass many total cs done new (kept ++ n ∷ [])
kept_more many total cs done old new kept n e h p =
    let low : All (λ m. m < many) (new ++ n ∷ []) = subst (λ (xs : List ℕ). All (λ m. m < many) xs) e p.left_low in
    let same : length old ≡ length new + 1 = ap (λ (xs : List ℕ). length xs) e ∙ length-append new (n ∷ []) in
    let more : length (kept ++ n ∷ []) ≡ length kept + 1 = length-append kept (n ∷ []) in
    record {
      left_low = all_left (λ m. m < many) new (n ∷ []) low;
      kept_low = All-append (λ m. m < many) kept (n ∷ []) p.kept_low (All-cons (λ m. m < many) n [] (all_last (λ m. m < many) new n low) (All-nil (λ m. m < many)));
      covers = λ m l k. elim (p.covers m l k) [
        | inl c ↦ elim (Contains-append_cases new (n ∷ []) m (subst (λ (xs : List ℕ). Contains xs m) e c)) [
          | inl c ↦ inl c
          | inr c ↦ inr (Contains-append_right kept (n ∷ []) m c)
        ]
        | inr c ↦ inr (Contains-append_left kept (n ∷ []) m c)
      ];
      progress = elim p.progress [
        | inl l ↦ inl (omega (arith, l, same, more))
        | inr s ↦ inr (
          (omega (arith, s.0, same, more)),
          All-append (λ m. is_ready_at done (slice_get cs m) ≡ false) kept (n ∷ []) s.1
              (All-cons (λ m. is_ready_at done (slice_get cs m) ≡ false) n [] h (All-nil (λ m. is_ready_at done (slice_get cs m) ≡ false))),
        )
      ];
    }

-- which are made when one more is
pub made_more : (done : List Bool) (n m : ℕ) → m ≢ n → is_made (set done n true) m ≡ is_made done m
made_more done n m ne = get_or-set_other done n m true false ne

pub made_now : (done : List Bool) (n : ℕ) → n < length done → is_made (set done n true) n ≡ true
made_now done n l = get_or-set_same done n true false l

same_or_not : (m n : ℕ) → (m ≡ n) ⊎ (m ≢ n)
same_or_not m n = elim (cases_lt m n) [
  | inl l ↦ inr (λ e. omega arith)
  | inr l ↦ elim (cases_lt n m) [ inl k ↦ inr (λ e. omega arith) | inr k ↦ inl (omega arith) ]
]

pub one_made : (many total : ℕ) (cs : List Constant) (done next : List Bool) (old new kept : List ℕ) (n : ℕ) → old ≡ new ++ n ∷ [] → next ≡ set done n true → n < length done →
    IsPass many total cs done old kept → IsPass many total cs next new kept
one_made many total cs done next old new kept n e f l p = rw f (record {
  left_low = all_left (λ m. m < many) new (n ∷ []) (subst (λ (xs : List ℕ). All (λ m. m < many) xs) e p.left_low);
  kept_low = p.kept_low;
  covers = λ m low h. elim (same_or_not m n) [
    | inl same ↦ absurd (false≢true (sym (subst (λ (x : ℕ). is_made (set done n true) x ≡ false) same h) ∙ made_now done n l))
    | inr ne ↦ elim (p.covers m low (sym (made_more done n m ne) ∙ h)) [
      | inl c ↦ elim (Contains-append_cases new (n ∷ []) m (subst (λ (xs : List ℕ). Contains xs m) e c)) [
        | inl c ↦ inl c
        | inr c ↦ absurd (ne (one_is n m c))
      ]
      | inr c ↦ inr c
    ]
  ];
  progress = let same : length old ≡ length new + 1 = ap (λ (xs : List ℕ). length xs) e ∙ length-append new (n ∷ []) in elim p.progress [
    | inl fewer ↦ inl (omega (arith, fewer, same))
    | inr s ↦ inl (omega (arith, s.0, same))
  ];
})

none_in : (m : ℕ) → Contains [] m → ⊥
none_in m c = omega (arith, c.1)

pub all_kept : (many total : ℕ) (cs : List Constant) (done : List Bool) (left kept : List ℕ) → left ≡ [] → IsPass many total cs done left kept → AreLeft many done kept
all_kept many total cs done left kept e p = record {
  within = p.kept_low;
  covers = λ n l h. elim (p.covers n l h) [ inl c ↦ absurd (none_in n (subst (λ (xs : List ℕ). Contains xs n) e c)) | inr c ↦ c ];
}

-- those that are kept were not all that were left
pub fewer_kept : (g : List TypeDef) (many total : ℕ) (cs : List Constant) (done : List Bool) (left kept : List ℕ) → Lawful g cs → many ≡ length cs → left ≡ [] → IsPass many total cs done left kept →
    0 < total → length kept < total
fewer_kept g many total cs done left kept law count e p some =
    let none : length left ≡ 0 = ap (λ (xs : List ℕ). length xs) e in
    elim p.progress [
      | inl l ↦ omega (arith, l, none)
      | inr s ↦ by kept s.1 (made s.1) p.kept_low
    ]
  where
    made : All (λ n. is_ready_at done (slice_get cs n) ≡ false) kept → (n : ℕ) → n < length cs → is_made done n ≡ true
    made stuck = none_stuck g cs law done (record {
      each = λ n c there h.
          let low : n < many = rw count (within cs n c there) in
          let one = All-contains (λ m. is_ready_at done (slice_get cs m) ≡ false) kept n stuck ((all_kept many total cs done left kept e p).covers n low h) in
          subst (λ (o : Option Constant). is_ready_at done o ≡ false) there one;
    })
      where
        within : (cs : List Constant) (n : ℕ) (c : Constant) → slice_get cs n ≡ Some c → n < length cs
        within [] n c e = cc
        within (d ∷ cs) zero c e = omega arith
        within (d ∷ cs) (suc n) c e = let l = within cs n c e in omega arith

    by : (xs : List ℕ) → All (λ n. is_ready_at done (slice_get cs n) ≡ false) xs → ((n : ℕ) → n < length cs → is_made done n ≡ true) → All (λ n. n < many) xs → length xs < total
    by [] a all low = some
    by (x ∷ xs) a all low =
        let there = constant_at cs x (subst (λ (n : ℕ). x < n) count (low 0 x (omega arith))) in
        let stuck : is_ready done there.0.literal.kind ≡ false = subst (λ (o : Option Constant). is_ready_at done o ≡ false) there.1 (a 0 x (omega arith)) in
        let one = not_ready done (members_of there.0.literal.kind) stuck in
        let m = slice_index (members_of there.0.literal.kind) one.0 in
        let m_low : m < length cs = kind_low (length cs) there.0.literal.kind (holds_at (λ (c : Constant). HasMembers (length cs) c.literal.kind) cs x there.0 law.members there.1) one.0 one.1 in
        absurd (false≢true (sym one.2 ∙ all m m_low))

-- ---- one value

-- the value of a constant whose members are made is the one that it has
pub value_right : (g : List TypeDef) (cs : List Constant) → Lawful g cs → (done : List Bool) (of : ℕ → List Scalar) → ((m : ℕ) → is_made done m ≡ true → of m ≡ value_of g cs m) →
    (n : ℕ) (c : Constant) → slice_get cs n ≡ Some c → is_ready_at done (slice_get cs n) ≡ true → constant_value g of c.of_type c.literal ≡ value_of g cs n
value_right g cs law done of right n c e h =
    let ready : is_ready done c.literal.kind ≡ true = subst (λ (o : Option Constant). is_ready_at done o ≡ true) e h in
    value_same of (value_of g cs) (slice_get g c.of_type) c.literal.kind
    (All-weaker (λ m. is_made done m ≡ true) (λ m. of m ≡ value_of g cs m) right (members_of c.literal.kind) (AllPass-from_list_all (is_made done) (members_of c.literal.kind) ready))
    ∙ sym (settled_at g cs law n c e)

pub one_more : (g : List TypeDef) (cs : List Constant) → Lawful g cs → (was now : Making) (n : ℕ) (v : List Scalar) → n < length cs → IsMaking g cs was → is_ready_at was.done.items (slice_get cs n) ≡ true →
    now.done.items ≡ set was.done.items n true → v ≡ value_by g (value_at was.made) (slice_get cs n) → value_at now.made n ≡ v → ((k : ℕ) → k ≢ n → value_at now.made k ≡ value_at was.made k) → IsMaking g cs now
one_more g cs law was now n v l m ready d e added others = record {
  count = ap (λ (xs : List Bool). length xs) d ∙ length-set was.done.items n true ∙ m.count;
  told = λ k h. elim (same_or_not k n) [
    | inl same ↦ subst (λ (x : ℕ). value_at now.made x ≡ value_of g cs x) (sym same) (added ∙ e ∙ right)
    | inr ne ↦ others k ne ∙ m.told k (sym (made_more was.done.items n k ne) ∙ subst (λ (xs : List Bool). is_made xs k ≡ true) d h)
  ];
}
  where
    right : value_by g (value_at was.made) (slice_get cs n) ≡ value_of g cs n
    right =
        let c = constant_at cs n l in
        ap (λ (o : Option Constant). value_by g (value_at was.made) o) c.1 ∙ value_right g cs law was.done.items (value_at was.made) m.told n c.0 c.1 ready

-- ---- the numbers below a number

pub numbers_more : (old new : List ℕ) (n : ℕ) → new ≡ old ++ n ∷ [] → ((m : ℕ) → m < n → Contains old m) → (m : ℕ) → m < n + 1 → Contains new m
numbers_more old new n e below m l = subst (λ (xs : List ℕ). Contains xs m) (sym e) (elim (cases_lt m n) [
  | inl less ↦ Contains-append_left old (n ∷ []) m (below m less)
  | inr more ↦ let same : n ≡ m = omega arith in Contains-append_right old (n ∷ []) m (0, (omega arith), same)
])

pub low_more : (old new : List ℕ) (n many : ℕ) → new ≡ old ++ n ∷ [] → n < many → All (λ m. m < many) old → All (λ m. m < many) new
low_more old new n many e l a = subst (λ (xs : List ℕ). All (λ m. m < many) xs) (sym e) (All-append (λ m. m < many) old (n ∷ []) a (All-cons (λ m. m < many) n [] l (All-nil (λ m. m < many))))

pub is_empty : (xs : List ℕ) → (0 < length xs → ⊥) → xs ≡ []
is_empty [] h = refl
is_empty (x ∷ xs) h = absurd (h (omega arith))

-- ---- what is made fits its type

pub width_fits : (g : List TypeDef) (cs : List Constant) → Lawful g cs → (t : ℕ) → IfSome (width_of (slice_get g t)) (λ w. (1 ≤ w) × (w ≤ 128))
width_fits g cs law t = go (width_of (slice_get g t)) (law.widths t)
  where
    go : (o : Option ℕ) → ((w : ℕ) → o ≡ Some w → (1 ≤ w) × (w ≤ 128)) → IfSome o (λ w. (1 ≤ w) × (w ≤ 128))
    go None f = tt
    go (Some w) f = f w refl

pub type_fits : (g : List TypeDef) (cs : List Constant) → Lawful g cs → (n : ℕ) (c : Constant) → slice_get cs n ≡ Some c → c.of_type < length g
type_fits g cs law n c e = holds_at (λ (d : Constant). d.of_type < length g) cs n c law.typed e

pub value_is : (g : List TypeDef) (cs : List Constant) (of : ℕ → List Scalar) (n : ℕ) (c : Constant) → slice_get cs n ≡ Some c → constant_value g of c.of_type c.literal ≡ value_by g of (slice_get cs n)
value_is g cs of n c e = sym (ap (λ (o : Option Constant). value_by g of o) e)
