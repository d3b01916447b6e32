-- Which threads may run: those that are left and do not wait without a limit.
use Rattle.std.specs.Prelude.{◌≡◌, ◌≢◌, ◌+◌, ℕ, zero, suc, Bool, true, false, not, ◌&&◌, ◌||◌, List, [], ◌∷◌, Option, Some, None, find, filter, slice_get, slice_set, refl, if◌then◌else◌}
use Rattle.std.proofs.Common.{sym, ◌∙◌, ap, arith, cond, inl, inr, zero-add}
use Rattle.std.proofs.lemmas.Bool.Decides.{eqb_tells}
use Rattle.futex.specs.declared.waiters.Waiter.{Waiter}
use Rattle.mu_model.specs.Configuration.{Thread, Configuration}
use Rattle.mu_model.specs.Acts.{Program}
use Rattle.mu_model.specs.Step.{threads_from, is_blocked, runnable}
use Rattle.search_laws.specs.Local.{Awake}
use Rattle.local_laws.specs.Lemmas.Forms.{Locals}

-- ---- lists

-- it stands in the list
abbrev pub In : ℕ → List ℕ → Type 0
In j xs = (n : ℕ) × (slice_get xs n ≡ Some j)

pub in_filter : (q : ℕ → Bool) (j : ℕ) (xs : List ℕ) (n : ℕ) → slice_get xs n ≡ Some j → q j ≡ true → In j (filter q xs)
in_filter q j [] n e h = cc
in_filter q j (x ∷ xs) zero e h =
    let same : x ≡ j = cc in
    let pass : q x ≡ true = ap q same ∙ h in
    (0, ap (λ (b : Bool). slice_get (cond b (x ∷ filter q xs) (filter q xs)) 0) pass ∙ ap Some same)
in_filter q j (x ∷ xs) (suc n) e h = by (q x) (in_filter q j xs n e h)
  where
    by : (b : Bool) → In j (filter q xs) → In j (cond b (x ∷ filter q xs) (filter q xs))
    by true r = (suc r.0, r.1)
    by false r = r

pub of_filter : (q : ℕ → Bool) (j : ℕ) (xs : List ℕ) (n : ℕ) → slice_get (filter q xs) n ≡ Some j → In j xs × (q j ≡ true)
of_filter q j [] n e = cc
of_filter q j (x ∷ xs) n e = by (q x) refl n e (of_filter q j xs)
  where
    by : (b : Bool) → q x ≡ b → (n : ℕ) → slice_get (cond b (x ∷ filter q xs) (filter q xs)) n ≡ Some j → ((n : ℕ) → slice_get (filter q xs) n ≡ Some j → In j xs × (q j ≡ true)) → In j (x ∷ xs) × (q j ≡ true)
    by true g zero e more = let same : x ≡ j = cc in ((0, e), ap q (sym same) ∙ g)
    by true g (suc n) e more = let r = more n e in ((suc r.0.0, r.0.1), r.1)
    by false g n e more = let r = more n e in ((suc r.0.0, r.0.1), r.1)

pub found_in : (q : ℕ → Bool) (i : ℕ) (xs : List ℕ) → find q xs ≡ Some i → In i xs × (q i ≡ true)
found_in q i [] e = cc
found_in q i (x ∷ xs) e = by (q x) refl e (found_in q i xs)
  where
    by : (b : Bool) → q x ≡ b → (if b then Some x else find q xs) ≡ Some i → (find q xs ≡ Some i → In i xs × (q i ≡ true)) → In i (x ∷ xs) × (q i ≡ true)
    by true g e more = let same : x ≡ i = cc in ((0, e), ap q (sym same) ∙ g)
    by false g e more = let r = more e in ((suc r.0.0, r.0.1), r.1)

-- the threads that are left
pub of_threads : (base : ℕ) (ts : List (Option Thread)) (n j : ℕ) → slice_get (threads_from base ts) n ≡ Some j → (m : ℕ) × (t : Thread) × (j ≡ base + m) × (slice_get ts m ≡ Some (Some t))
of_threads base [] n j e = cc
of_threads base (None ∷ ts) n j e = let r = of_threads (suc base) ts n j e in let at = r.2 in (suc r.0, r.1, omega (arith, at), r.3)
of_threads base (Some t ∷ ts) zero j e = let same : base ≡ j = cc in (0, t, omega (arith, same), refl)
of_threads base (Some t ∷ ts) (suc n) j e = let r = of_threads (suc base) ts n j e in let at = r.2 in (suc r.0, r.1, omega (arith, at), r.3)

pub in_threads : (base : ℕ) (ts : List (Option Thread)) (m : ℕ) (t : Thread) → slice_get ts m ≡ Some (Some t) → In (base + m) (threads_from base ts)
in_threads base [] m t e = cc
in_threads base (None ∷ ts) zero t e = cc
in_threads base (None ∷ ts) (suc m) t e =
    let r = in_threads (suc base) ts m t e in
    let same : suc base + m ≡ base + suc m = omega arith in
    (r.0, r.1 ∙ ap Some same)
in_threads base (Some u ∷ ts) zero t e = let same : base ≡ base + 0 = omega arith in (0, ap Some same)
in_threads base (Some u ∷ ts) (suc m) t e =
    let r = in_threads (suc base) ts m t e in
    let same : suc base + m ≡ base + suc m = omega arith in
    (suc r.0, r.1 ∙ ap Some same)

pub get_other : {A : Type 0} (xs : List A) (a b : ℕ) (v : A) → a ≢ b → slice_get (slice_set xs a v) b ≡ slice_get xs b
get_other [] a b v h = refl
get_other (x ∷ xs) zero zero v h = absurd (h refl)
get_other (x ∷ xs) zero (suc b) v h = refl
get_other (x ∷ xs) (suc a) zero v h = refl
get_other (x ∷ xs) (suc a) (suc b) v h = get_other xs a b v (λ e. h (ap suc e))

pub runs_at : (c : Configuration) (j : ℕ) (t : Thread) → slice_get c.threads j ≡ Some (Some t) → not (is_blocked c.waiters j) ≡ true → In j (runnable c)
runs_at c j t at free =
    let r = in_threads 0 c.threads j t at in
    in_filter (λ i. not (is_blocked c.waiters i)) j (threads_from 0 c.threads) r.0 (r.1 ∙ ap Some (zero-add j)) free

-- a thread that may run may run after a step that changes another one alone
pub runs_after : (c d : Configuration) (i j : ℕ) (x : Option Thread) → d.threads ≡ slice_set c.threads i x → d.waiters ≡ c.waiters → i ≢ j → In j (runnable c) → In j (runnable d)
runs_after c d i j x ts ws ne r =
    let q = of_filter (λ i. not (is_blocked c.waiters i)) j (threads_from 0 c.threads) r.0 r.1 in
    let m = of_threads 0 c.threads q.0.0 j q.0.1 in
    let same : m.0 ≡ j = sym (m.2 ∙ zero-add m.0) in
    runs_at d j m.1 (ap (λ ts. slice_get ts j) ts ∙ get_other c.threads i j x ne ∙ ap (slice_get c.threads) (sym same) ∙ m.3) (ap (λ ws. not (is_blocked ws j)) ws ∙ q.1)

-- a thread whose step is local may run
pub not_blocked : (i : ℕ) (ws : List Waiter) → Awake i ws → not (is_blocked ws i) ≡ true
not_blocked i [] a = refl
not_blocked i (w ∷ ws) a = elim (eqb_tells w.thread i) [
  | inl e ↦ absurd (a.0 e.1)
  | inr e ↦ ap (λ (b : Bool). not ((b && not w.timed) || is_blocked ws i)) e.0 ∙ not_blocked i ws a.1
]

pub local_runs : (p : Program) (c : Configuration) (i : ℕ) → Locals p c i → In i (runnable c)
local_runs p c i h = runs_at c i h.t h.acts.thread (not_blocked i c.waiters h.awake)
