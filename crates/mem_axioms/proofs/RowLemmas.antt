-- Rows of flags.
use Rattle.std.proofs.Common.{◌≡◌, ℕ, ◌<◌, ◌≤◌, Bool, true, false, ◌&&◌, ◌||◌, ◌==◌, List, ◌∷◌, length, slice_set, reverse, take, refl, sym, ap, ◌∙◌, inl, inr, ◌⊎◌, arith}
use Rattle.std.proofs.lemmas.List.{get_or-set_same, get_or-set_other, get_or_past, length-reverse, take_all}
use Rattle.std.proofs.lemmas.Bool.{cases_lt, cases_eq, eq-eqb, ne_eqb}
use Rattle.std.proofs.Math.ListN.{length-set}
use Rattle.mem_axioms.specs.Logs.{any_event}
use Rattle.mem_axioms.specs.HappensBefore.{precedes, happens_before}
use Rattle.mem_axioms.specs.Flags.{flag}
use Rattle.mem_axioms.specs.declared.types.Event.{Event}
use Rattle.mem_axioms.specs.declared.types.Rule.{Rule}
use Rattle.mem_axioms.specs.Lemmas.Steps.{before-newest, leads}

or_true : (b : Bool) → (b || true) ≡ true
or_true true = refl
or_true false = refl

or_false : (b : Bool) → (b || false) ≡ b
or_false true = refl
or_false false = refl

or_swap : (a b : Bool) → (a || b) ≡ (b || a)
or_swap true b = sym (or_true b)
or_swap false b = sym (or_false b)

-- one number marked, and another row joined
pub marked_joined : (old marked new : List Bool) (other : List Bool) (k i : ℕ) (before : Bool) → marked ≡ slice_set old k true → k < length old → length new ≡ length marked → ((j : ℕ) → j < length marked → flag new j ≡ (flag marked j || flag other j)) → flag other i ≡ before → (k < i → before ≡ false) → flag new i ≡ (((k == i) || before) || flag old i)
marked_joined old marked new other k i before m h size all there none = go (cases_lt i (length old)) (cases_eq k i)
  where
    sizes : length marked ≡ length old
    sizes = ap length m ∙ length-set old k true

    go : (i < length old) ⊎ (length old ≤ i) → (k ≡ i) ⊎ (k ≡ i → ⊥) → flag new i ≡ (((k == i) || before) || flag old i)
    go (inl l) (inl p) =
        let a = all i (let s = sizes in omega arith) in
        let q : flag marked i ≡ true = ap (λ r. flag r i) m ∙ (rw p (get_or-set_same old i true false l)) in
        a ∙ rw (q, eq-eqb k i p)
    go (inl l) (inr n) =
        let a = all i (let s = sizes in omega arith) in
        let q : flag marked i ≡ flag old i = ap (λ r. flag r i) m ∙ get_or-set_other old k i true false (λ p. n (sym p)) in
        a ∙ rw (q, there, ne_eqb k i n) (or_swap (flag old i) before)
    go (inr l) p =
        let s = sizes in
        let a : flag new i ≡ false = get_or_past new i false (omega arith) in
        let b : flag old i ≡ false = get_or_past old i false l in
        let n : k ≡ i → ⊥ = λ p. omega arith in
        rw (a, b, ne_eqb k i n, none (omega arith))

-- all events as they precede the next one
pub all_before : (rule : Rule) (events : List Event) (next : Event) (i k : ℕ) → length events ≤ k → any_event (λ k ek. precedes rule (reverse events) k ek next && ((k == i) || happens_before rule (reverse events) i k)) (reverse (take k events)) ≡ happens_before rule (next ∷ reverse events) i (length events)
unfolding leads
all_before rule events next i k h = rw (take_all k events h) (sym (before-newest rule next (reverse events) i) ∙ ap (happens_before rule (next ∷ reverse events) i) (length-reverse events))
