-- Cells by their keys.
use Rattle.std.proofs.Common.{◌≡◌, ℕ, ◌+◌, ◌<◌, ◌≤◌, Bool, true, false, cond, eqb, ltb, [], Some, None, refl, sym, ap, ◌∙◌, inl, inr, ◌⊎◌, arith}
use Rattle.std.proofs.lemmas.Bool.{eq-eqb, lt-ltb, le-ltb, cases_lt, cases_order, cases_Bool, and_from, false≢true}
use Rattle.std.specs.Ordering.{nat_cmp}
use Rattle.std.specs.Cmp.{nat_cmp_is}
use Rattle.std.specs.declared.cmp.Ordering.TheVariants.{Less, Equal, Greater}
use Rattle.std.specs.BTreeMap.{get, is_at, BTreeMap}
use Rattle.mu_values.specs.declared.cells.CellId.{CellId}
use Rattle.mu_values.specs.SameCell.{same_cell}
use Rattle.mu_values.specs.CellLaws.{same_cell-true, same_cell-refl}
use Rattle.log_judge.specs.CellKeys.{cell_key, one_more, number_in}

-- the test of a map's query
pub is_at-same : (a : ℕ) → is_at (nat_cmp a) a ≡ true
is_at-same a = rw (← nat_cmp_is a a Equal refl) refl

pub is_at-other : (a b : ℕ) → (a ≡ b → ⊥) → is_at (nat_cmp a) b ≡ false
is_at-other a b n = go (cases_order a b)
  where
    go : (a ≡ b) ⊎ ((a < b) ⊎ (b < a)) → is_at (nat_cmp a) b ≡ false
    go (inl e) = absurd (n e)
    go (inr (inl l)) = rw (← nat_cmp_is a b Less l) refl
    go (inr (inr l)) = rw (← nat_cmp_is a b Greater l) refl

-- cells of one key are one
pub one_key : (a b : CellId) → a.at < 4294967296 → b.at < 4294967296 → cell_key a ≡ cell_key b → a ≡ b
one_key a b l m h = same_cell-true a b (and_from (eqb a.object b.object) (eqb a.at b.at) (eq-eqb a.object b.object (omega arith)) (eq-eqb a.at b.at (omega arith)))

pub is_at-key : (cell c : CellId) → cell.at < 4294967296 → c.at < 4294967296 → is_at (nat_cmp (cell_key cell)) (cell_key c) ≡ same_cell c cell
is_at-key cell c l m = go (same_cell c cell) refl
  where
    go : (b : Bool) → same_cell c cell ≡ b → is_at (nat_cmp (cell_key cell)) (cell_key c) ≡ b
    go true q = rw (same_cell-true c cell q) (is_at-same (cell_key cell))
    go false q = is_at-other (cell_key cell) (cell_key c) (λ e. false≢true (sym q ∙ (rw (one_key cell c l m e) (same_cell-refl c))))

-- a new place is that of its cell
pub numbers-put : (old new : BTreeMap ℕ ℕ) (cell : CellId) (place : ℕ) → cell.at < 4294967296 → ((q : ℕ) → get nat_cmp new q ≡ cond (is_at (nat_cmp (cell_key cell)) q) (Some place) (get nat_cmp old q))
    → (c : CellId) → number_in new c ≡ cond (same_cell c cell) (place + 1) (number_in old c)
numbers-put old new cell place l h c = go (cases_lt c.at 4294967296)
  where
    pick : (b : Bool) → one_more (cond b (Some place) (get nat_cmp old (cell_key c))) ≡ cond b (place + 1) (one_more (get nat_cmp old (cell_key c)))
    pick true = omega arith
    pick false = refl

    apart : 4294967296 ≤ c.at → same_cell c cell ≡ false
    apart m = elim (cases_Bool (same_cell c cell)) [
      | inl q ↦ absurd (let e = ap (λ (x : CellId). x.at) (same_cell-true c cell q) in omega (arith, e, l, m))
      | inr q ↦ q
    ]

    go : (c.at < 4294967296) ⊎ (4294967296 ≤ c.at) → number_in new c ≡ cond (same_cell c cell) (place + 1) (number_in old c)
    go (inl m) = rw (lt-ltb c.at 4294967296 m, h (cell_key c), is_at-key cell c l m) (pick (same_cell c cell))
    go (inr m) = rw (le-ltb c.at 4294967296 m, apart m) refl

-- what a look-up of the cell finds
pub number-found : (places : BTreeMap ℕ ℕ) (cell : CellId) (place : ℕ) → cell.at < 4294967296 → get nat_cmp places (cell_key cell) ≡ Some place → number_in places cell ≡ place + 1
number-found places cell place l h = rw (lt-ltb cell.at 4294967296 l, h) (omega arith)

pub number-none : (places : BTreeMap ℕ ℕ) (cell : CellId) → get nat_cmp places (cell_key cell) ≡ None → number_in places cell ≡ 0
number-none places cell h = go (ltb cell.at 4294967296)
  where
    go : (b : Bool) → cond b (one_more (get nat_cmp places (cell_key cell))) 0 ≡ 0
    go true = rw h refl
    go false = refl

-- an empty map has no cell
pub number-empty : (places : BTreeMap ℕ ℕ) → places.entries ≡ [] → (cell : CellId) → number_in places cell ≡ 0
number-empty places e cell = number-none places cell (rw e refl)
