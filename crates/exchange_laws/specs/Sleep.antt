-- Sleep sets lose no outcome, on any machine whose independent steps may be exchanged. A machine is given by its states and moves, and by
-- when its states are alike; no contract can range over such a relation, so these lemmas are for the crate that has the machine.
use Rattle.std.proofs.Common.{◌≡◌, ℕ, zero, suc, ◌<◌, ◌≤◌, Bool, true, false, cond, List, [], ◌∷◌, ◌++◌, length, take, Option, Some, None, refl, sym, ap, subst, ◌∙◌, inl, inr, ◌⊎◌, arith}
use Rattle.std.specs.Prelude.{filter}

-- x is at number k of the list
abbrev pub At : {A : Type 0} → A → ℕ → List A → Type 0
At x k [] = ⊥
At x zero (y ∷ ys) = x ≡ y
At x (suc k) (y ∷ ys) = At x k ys

abbrev pub Member : {A : Type 0} → A → List A → Type 0
Member x xs = (k : ℕ) × At x k xs

pub in-filter : {A : Type 0} (test : A → Bool) (x : A) (k : ℕ) (xs : List A) → At x k (filter test xs) → (test x ≡ true) × Member x xs
in-filter test x k [] h = absurd h
in-filter {A} test x k (y ∷ xs) h = go (λ m. in-filter test x m xs) (test y) refl k h
  where
    go : ((m : ℕ) → At x m (filter test xs) → (test x ≡ true) × Member x xs) → (b : Bool) → test y ≡ b → (m : ℕ) → At x m (cond b (y ∷ filter test xs) (filter test xs)) → (test x ≡ true) × Member x (y ∷ xs)
    go ih true p zero h = (ap test h ∙ p, (zero, h))
    go ih true p (suc m) h = let q = ih m h in (q.0, (suc q.1.0, q.1.1))
    go ih false p m h = let q = ih m h in (q.0, (suc q.1.0, q.1.1))

pub in-append : {A : Type 0} (x : A) (k : ℕ) (xs ys : List A) → At x k (xs ++ ys) → Member x xs ⊎ Member x ys
in-append x k [] ys h = inr (k, h)
in-append x zero (y ∷ xs) ys h = inl (zero, h)
in-append x (suc k) (y ∷ xs) ys h = elim (in-append x k xs ys h) [ inl p ↦ inl (suc p.0, p.1) | inr p ↦ inr p ]

pub in-take : {A : Type 0} (x : A) (j k : ℕ) (xs : List A) → At x j (take k xs) → (j < k) × At x j xs
in-take x j zero xs h = absurd h
in-take x j (suc k) [] h = absurd h
in-take x zero (suc k) (y ∷ xs) h = (omega arith, h)
in-take x (suc j) (suc k) (y ∷ xs) h = let p = in-take x j k xs h in let l = p.0 in (omega arith, p.1)

module _ {S L O : Type 0} (over : S → Option O) (moves : S → List L) (step : S → L → S) (independent : S → L → L → Bool) where
  -- a run to an outcome
  pub data Leads : S → List L → O → Type 0 where
    done : {s : S} {o : O} → over s ≡ Some o → Leads s [] o
    goes : {s : S} {a : L} {w : List L} {o : O} → over s ≡ None → Member a (moves s) → Leads (step s a) w o → Leads s (a ∷ w) o

  -- what sleeps after the move with number k: what slept, and the moves before it, as far as they are independent of it
  abbrev pub asleep : S → L → ℕ → List L → List L
  asleep s a k sleep = filter (independent s a) (sleep ++ take k (moves s))

  -- what the search comes to: it makes no move that sleeps
  pub data Found : S → List L → O → Type 0 where
    here : {s : S} {sleep : List L} {o : O} → over s ≡ Some o → Found s sleep o
    there : {s : S} {a : L} {sleep : List L} {o : O} → over s ≡ None → (k : ℕ) → At a k (moves s) → (Member a sleep → ⊥) → Found (step s a) (asleep s a k sleep) o → Found s sleep o

  -- Independent moves may be exchanged: some run that is no longer begins with the second.
  pub record Begins (s : S) (b : L) (n : ℕ) (o : O) : Type 0 where
    pub rest : List L
    pub few : length rest ≤ n
    pub leads : Leads s (b ∷ rest) o

  abbrev pub Exchanges : Type 0
  Exchanges = (s : S) (a b : L) (x : List L) (o : O) → independent s a b ≡ true → Leads s (a ∷ b ∷ x) o → Begins s b (suc (length x)) o

  module _ (exchanges : Exchanges) (decide : (a : L) (xs : List L) → Member a xs ⊎ (Member a xs → ⊥)) where
    -- some run begins with what sleeps
    pub record Slept (s : S) (sleep : List L) (n : ℕ) (o : O) : Type 0 where
      pub a : L
      pub sleeps : Member a sleep
      pub begins : Begins s a n o

    behind : (s : S) (a : L) (w : List L) (o : O) → Leads s (a ∷ w) o → Leads (step s a) w o
    behind s a w o (goes p m h) = h

    abbrev pub FoundOrSlept : ℕ → S → List L → O → Type 0
    FoundOrSlept n s sleep o = Found s sleep o ⊎ ((m : ℕ) × (m < n) × Slept s sleep m o)

    -- by the number of the first move, below some bound
    by-number : (n : ℕ) → ((s : S) (sleep w : List L) (o : O) → length w ≤ n → Leads s w o → FoundOrSlept n s sleep o)
        → (s : S) (sleep : List L) (o : O) → over s ≡ None → (bound k : ℕ) (a : L) (w : List L) → k < bound → At a k (moves s) → length w ≤ n → Leads (step s a) w o → FoundOrSlept (suc n) s sleep o
    by-number n ih s sleep o p zero k a w lt at le h = absurd (omega arith)
    by-number n ih s sleep o p (suc bound) k a w lt at le h = go (decide a sleep) (λ j c v lt at le h. by-number n ih s sleep o p bound j c v lt at le h)
      where
        again : ((j : ℕ) (c : L) (v : List L) → j < bound → At c j (moves s) → length v ≤ n → Leads (step s c) v o → FoundOrSlept (suc n) s sleep o)
            → (m : ℕ) → m < n → Slept (step s a) (asleep s a k sleep) m o → FoundOrSlept (suc n) s sleep o
        again rec m l x = last (in-append x.a inside.1.0 sleep (take k (moves s)) inside.1.1)
          where
            inside : (independent s a x.a ≡ true) × Member x.a (sleep ++ take k (moves s))
            inside = in-filter (independent s a) x.a x.sleeps.0 (sleep ++ take k (moves s)) x.sleeps.1

            turned : Begins s x.a (suc (length x.begins.rest)) o
            turned = exchanges s a x.a x.begins.rest o inside.0 (goes p (k, at) x.begins.leads)

            few : length turned.rest ≤ n
            few = let y = turned.few in let z = x.begins.few in omega arith

            last : Member x.a sleep ⊎ Member x.a (take k (moves s)) → FoundOrSlept (suc n) s sleep o
            last (inl q) = inr (n, omega arith, record { a = x.a; sleeps = q; begins = record { rest = turned.rest; few = few; leads = turned.leads } })
            last (inr q) = let r = in-take x.a q.0 k (moves s) q.1 in rec q.0 x.a turned.rest (let y = r.0 in omega arith) r.1 few (behind s x.a turned.rest o turned.leads)

        go : Member a sleep ⊎ (Member a sleep → ⊥) → ((j : ℕ) (c : L) (v : List L) → j < bound → At c j (moves s) → length v ≤ n → Leads (step s c) v o → FoundOrSlept (suc n) s sleep o) → FoundOrSlept (suc n) s sleep o
        go (inl q) rec = inr (n, omega arith, record { a = a; sleeps = q; begins = record { rest = w; few = le; leads = goes p (k, at) h } })
        go (inr q) rec = elim (ih (step s a) (asleep s a k sleep) w o le h) [ inl f ↦ inl (there p k at q f) | inr x ↦ again rec x.0 x.1 x.2 ]

    -- The outcome of a run is found, or some run to it that is no longer begins with what sleeps.
    pub found-or-slept : (n : ℕ) (s : S) (sleep w : List L) (o : O) → length w ≤ n → Leads s w o → FoundOrSlept n s sleep o
    found-or-slept n s sleep [] o l (done p) = inl (here p)
    found-or-slept zero s sleep (a ∷ w) o l (goes p m h) = absurd (omega arith)
    found-or-slept (suc n) s sleep (a ∷ w) o l (goes p m h) = by-number n (λ s sleep w o l h. found-or-slept n s sleep w o l h) s sleep o p (suc m.0) m.0 a w (omega arith) m.1 (omega arith) h

    -- With nothing asleep each outcome is found.
    pub all-found : (s : S) (w : List L) (o : O) → Leads s w o → Found s [] o
    all-found s w o h = elim (found-or-slept (length w) s [] w o (omega arith) h) [ inl f ↦ f | inr x ↦ absurd (x.2.sleeps.1) ]

    -- What is found is an outcome of a run.
    pub found-leads : {s : S} {sleep : List L} {o : O} → Found s sleep o → (w : List L) × Leads s w o
    found-leads (here p) = ([], done p)
    found-leads (there {a = a} p k at q f) = let r = found-leads f in (a ∷ r.0, goes p (k, at) r.1)

-- ---- Machines whose states may be alike: they are over alike, have the same moves, and go on alike.
module _ {S L O : Type 0} (over : S → Option O) (moves : S → List L) (step : S → L → S) (independent : S → L → L → Bool) (Like : S → S → Type 0) where
  pub record Behaves : Type 0 where
    pub ends : (s t : S) → Like s t → over s ≡ over t
    pub same : (s t : S) → Like s t → (a : L) → Member a (moves s) → Member a (moves t)
    pub goes_on : (s t : S) → Like s t → (a : L) → Member a (moves s) → Like (step s a) (step t a)

  leads-alike : Behaves → (s t : S) (w : List L) (o : O) → Like s t → Leads over moves step independent s w o → Leads over moves step independent t w o
  leads-alike b s t w o l (done p) = done (sym (b.ends s t l) ∙ p)
  leads-alike b s t w o l (goes {a = a} {w = v} p m h) = goes (sym (b.ends s t l) ∙ p) (b.same s t l a m) (leads-alike b (step s a) (step t a) v o (b.goes_on s t l a m) h)

  -- what is asked of two independent moves: the second could have come first, and the first after it, to a state that is alike; or the run
  -- is over with the second, the same way
  pub record Turns (s : S) (a b : L) : Type 0 where
    pub second_moves : Member b (moves s)
    pub goes_on : over (step s b) ≡ None
    pub first_moves : Member a (moves (step s b))
    pub alike : Like (step (step s a) b) (step (step s b) a)

  abbrev pub Diamond : Type 0
  Diamond = (s : S) (a b : L) → independent s a b ≡ true → over s ≡ None → Member a (moves s) → over (step s a) ≡ None → Member b (moves (step s a)) →
      Turns s a b ⊎ (Member b (moves s) × (over (step s b) ≡ over (step (step s a) b)) × ((o : O) (x : List L) → Leads over moves step independent (step (step s a) b) x o → x ≡ []))

  exchanged-run : Behaves → Diamond → (s : S) (a b : L) (x : List L) (o : O) → independent s a b ≡ true → Leads over moves step independent s (a ∷ b ∷ x) o → Begins over moves step independent s b (suc (length x)) o
  exchanged-run behaves diamond s a b x o ind (goes p m (goes q k h)) = go (diamond s a b ind p m q k)
    where
      go : Turns s a b ⊎ (Member b (moves s) × (over (step s b) ≡ over (step (step s a) b)) × ((o : O) (x : List L) → Leads over moves step independent (step (step s a) b) x o → x ≡ [])) → Begins over moves step independent s b (suc (length x)) o
      go (inl t) = record { rest = a ∷ x; few = omega arith; leads = goes p t.second_moves (goes t.goes_on t.first_moves (leads-alike behaves (step (step s a) b) (step (step s b) a) x o t.alike h)) }
      go (inr t) = record { rest = []; few = omega arith; leads = goes p t.0 (done (t.1 ∙ last (subst (λ (z : List L). Leads over moves step independent (step (step s a) b) z o) (t.2 o x h) h))) }
        where
          last : Leads over moves step independent (step (step s a) b) [] o → over (step (step s a) b) ≡ Some o
          last (done r) = r

  -- So sleep sets lose no outcome.
  pub sleep-sets-lose-nothing : Behaves → Diamond → ((a : L) (xs : List L) → Member a xs ⊎ (Member a xs → ⊥)) → (s : S) (w : List L) (o : O) → Leads over moves step independent s w o → Found over moves step independent s [] o
  sleep-sets-lose-nothing behaves diamond decide = all-found over moves step independent (exchanged-run behaves diamond) decide
