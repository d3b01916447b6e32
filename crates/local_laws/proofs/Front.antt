-- A local step goes to the front of a run, on any machine whose steps meet.
use Rattle.std.specs.Prelude.{◌≡◌, ◌⊎◌, ◌<◌, ℕ, zero, suc}
use Rattle.std.proofs.Common.{sym, ◌∙◌, ap, subst, arith, inl, inr}

pub record Machine : Type 1 where
  pub Place : Type 0
  pub Lines : Type 0
  -- what is seen of a run; of one that comes to its budget, nothing
  pub Seen : Type 0
  pub nothing : Seen
  pub add : Lines → Seen → Seen
  -- some step goes on, with lines, or ends the run; a place has no step, or has steps and none may be made any more
  pub Goes : Place → Lines → Place → Type 0
  pub Cuts : Place → Seen → Type 0
  pub Ends : Place → Seen → Type 0
  pub Full : Place → Type 0
  -- a local step, also the one that is to be made first; it has no rule; or no step is to be made first
  pub Local : Place → Lines → Place → Type 0
  pub First : Place → Lines → Place → Type 0
  pub Sticks : Place → Type 0
  pub Never : Place → Type 0
  pub left : Place → ℕ

pub data Runs (m : Machine) : m.Place → m.Seen → Type 0 where
  goes : {c d : m.Place} {ls : m.Lines} {s : m.Seen} → m.Goes c ls d → Runs m d s → Runs m c (m.add ls s)
  cuts : {c : m.Place} {s : m.Seen} → m.Cuts c s → Runs m c s
  ends : {c : m.Place} {s : m.Seen} → m.Ends c s → Runs m c s
  over : {c : m.Place} → m.Full c → Runs m c m.nothing

-- What is asked: a local step and another one meet, and it comes to one place.
pub record Meets (m : Machine) : Type 0 where
  pub mine : (c d e : m.Place) (li ls : m.Lines) → m.Local c li d → m.Goes c ls e →
      ((ls ≡ li) × (e ≡ d)) ⊎ (m.Full d ⊎ ((f : m.Place) × m.Goes d ls f × m.Local e li f × ((s : m.Seen) → m.add li (m.add ls s) ≡ m.add ls (m.add li s))))
  pub cut : (c d : m.Place) (li : m.Lines) (s : m.Seen) → m.Local c li d → m.Cuts c s → (m.add li s ≡ s) × (m.Full d ⊎ m.Cuts d s)
  pub goes_on : (c d : m.Place) (li : m.Lines) (s : m.Seen) → m.Local c li d → m.Ends c s → ⊥
  pub room : (c d : m.Place) (li : m.Lines) → m.Local c li d → m.Full c → ⊥
  pub none : (ls : m.Lines) → m.add ls m.nothing ≡ m.nothing
  pub is_local : (c d : m.Place) (li : m.Lines) → m.First c li d → m.Local c li d
  pub goes_down : (c d : m.Place) (ls : m.Lines) → m.Goes c ls d → m.left d < m.left c
  pub local_down : (c d : m.Place) (ls : m.Lines) → m.Local c ls d → m.left d < m.left c
  pub first_at : (c : m.Place) → ((li : m.Lines) × (d : m.Place) × m.First c li d) ⊎ (m.Sticks c ⊎ m.Never c)

-- some run from there shows the same, or comes to its budget
pub front : (m : Machine) → Meets m → {c : m.Place} {s : m.Seen} → Runs m c s → (d : m.Place) (li : m.Lines) → m.Local c li d →
    ((r : m.Seen) × (m.add li r ≡ s) × Runs m d r) ⊎ Runs m d m.nothing
front m law (goes {c} {d = e} {ls} {s} g r) d li h = by (law.mine c d e li ls h g) (front m law r)
  where
    by : (((ls ≡ li) × (e ≡ d)) ⊎ (m.Full d ⊎ ((f : m.Place) × m.Goes d ls f × m.Local e li f × ((s : m.Seen) → m.add li (m.add ls s) ≡ m.add ls (m.add li s)))))
        → ((f : m.Place) (li : m.Lines) → m.Local e li f → ((r : m.Seen) × (m.add li r ≡ s) × Runs m f r) ⊎ Runs m f m.nothing)
        → ((r : m.Seen) × (m.add li r ≡ m.add ls s) × Runs m d r) ⊎ Runs m d m.nothing
    by (inl q) more = inl (s, ap (λ l. m.add l s) (sym q.0), subst (λ e. Runs m e s) q.1 r)
    by (inr (inl full)) more = inr (over full)
    by (inr (inr q)) more = moved (more q.0 li q.2)
      where
        moved : (((r : m.Seen) × (m.add li r ≡ s) × Runs m q.0 r) ⊎ Runs m q.0 m.nothing) → ((r : m.Seen) × (m.add li r ≡ m.add ls s) × Runs m d r) ⊎ Runs m d m.nothing
        moved (inl t) = inl (m.add ls t.0, q.3 t.0 ∙ ap (m.add ls) t.1, goes q.1 t.2)
        moved (inr t) = inr (subst (Runs m d) (law.none ls) (goes q.1 t))
front m law (cuts {c} {s} g) d li h = let q = law.cut c d li s h g in by q.0 q.1
  where
    by : m.add li s ≡ s → (m.Full d ⊎ m.Cuts d s) → ((r : m.Seen) × (m.add li r ≡ s) × Runs m d r) ⊎ Runs m d m.nothing
    by e (inl full) = inr (over full)
    by e (inr g) = inl (s, e, cuts g)
front m law (ends {c} {s} g) d li h = absurd (law.goes_on c d li s h g)
front m law (over {c} g) d li h = absurd (law.room c d li h g)

-- ---- a search that makes a step first where there is one to be made first

pub data Finds (m : Machine) : m.Place → m.Seen → Type 0 where
  first : {c d : m.Place} {li : m.Lines} {s : m.Seen} → m.First c li d → Finds m d s → Finds m c (m.add li s)
  sticks : {c : m.Place} → m.Sticks c → Finds m c m.nothing
  each : {c d : m.Place} {ls : m.Lines} {s : m.Seen} → m.Never c → m.Goes c ls d → Finds m d s → Finds m c (m.add ls s)
  halts : {c : m.Place} {s : m.Seen} → m.Never c → m.Cuts c s → Finds m c s
  stops : {c : m.Place} {s : m.Seen} → m.Never c → m.Ends c s → Finds m c s
  spent : {c : m.Place} → m.Never c → m.Full c → Finds m c m.nothing

by_each : (m : Machine) → Meets m → (n : ℕ) {c : m.Place} {s : m.Seen} →
    m.Never c → ((c : m.Place) (s : m.Seen) → m.left c < n → Runs m c s → Finds m c s ⊎ Finds m c m.nothing) → m.left c < suc n → Runs m c s → Finds m c s ⊎ Finds m c m.nothing
by_each m law n none more l (goes {c} {d = e} {ls} {s = q} g r) = elim (more e q (omega (arith, l, law.goes_down c e ls g)) r) [
  | inl f ↦ inl (each none g f)
  | inr f ↦ inr (subst (Finds m c) (law.none ls) (each none g f))
]
by_each m law n none more l (cuts g) = inl (halts none g)
by_each m law n none more l (ends g) = inl (stops none g)
by_each m law n none more l (over g) = inl (spent none g)

-- It finds what each run shows, or a run that comes to its budget. The steps that are left go down.
pub found : (m : Machine) → Meets m → (n : ℕ) (c : m.Place) (s : m.Seen) → m.left c < n → Runs m c s → Finds m c s ⊎ Finds m c m.nothing
found m law zero c s l r = absurd (omega (arith, l))
found m law (suc n) c s l r = by (law.first_at c) (found m law n)
  where
    More : Type 0
    More = (c : m.Place) (s : m.Seen) → m.left c < n → Runs m c s → Finds m c s ⊎ Finds m c m.nothing

    by_first : (li : m.Lines) (d : m.Place) → m.First c li d → More → (((r : m.Seen) × (m.add li r ≡ s) × Runs m d r) ⊎ Runs m d m.nothing) → Finds m c s ⊎ Finds m c m.nothing
    by_first li d h more (inl t) = elim (more d t.0 (omega (arith, l, law.local_down c d li (law.is_local c d li h))) t.2) [
      | inl f ↦ inl (subst (Finds m c) t.1 (first h f))
      | inr f ↦ inr (subst (Finds m c) (law.none li) (first h f))
    ]
    by_first li d h more (inr t) = elim (more d m.nothing (omega (arith, l, law.local_down c d li (law.is_local c d li h))) t) [
      | inl f ↦ inr (subst (Finds m c) (law.none li) (first h f))
      | inr f ↦ inr (subst (Finds m c) (law.none li) (first h f))
    ]

    by : ((li : m.Lines) × (d : m.Place) × m.First c li d) ⊎ (m.Sticks c ⊎ m.Never c) → More → Finds m c s ⊎ Finds m c m.nothing
    by (inl h) more = by_first h.0 h.1 h.2 more (front m law r h.1 h.0 (law.is_local c h.1 h.0 h.2))
    by (inr (inl stuck)) more = inr (sticks stuck)
    by (inr (inr none)) more = by_each m law n none more l r
