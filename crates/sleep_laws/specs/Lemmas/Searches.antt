-- Sleep sets lose no outcome, on any machine whose independent moves may be exchanged at the states that are good; each state that a move
-- comes to is good.
use Rattle.std.proofs.Common.{◌≡◌, ℕ, zero, suc, ◌<◌, ◌≤◌, Bool, true, false, cond, List, [], ◌∷◌, ◌++◌, length, take, Option, Some, None, refl, sym, ap, subst, ◌∙◌, inl, inr, ◌⊎◌, arith}
use Rattle.std.specs.Prelude.{filter}
use Rattle.exchange_laws.specs.Sleep.{At, Member, in-filter, in-append, in-take, Leads, done, goes, Begins}

module _ {S L O : Type 0} (over : S → Option O) (moves : S → List L) (step : S → L → S) (independent : S → L → L → Bool) (sleeps : L → List L → Bool) (Good : S → Type 0) where
  abbrev pub asleep : S → L → ℕ → List L → List L
  asleep s a k sleep = filter (independent s a) (sleep ++ take k (moves s))

  -- what the search comes to: it makes no move that sleeps
  pub data Found : S → List L → O → Type 0 where
    here : {s : S} {sleep : List L} {o : O} → over s ≡ Some o → Found s sleep o
    there : {s : S} {a : L} {sleep : List L} {o : O} → over s ≡ None → (k : ℕ) → At a k (moves s) → sleeps a sleep ≡ false → Found (step s a) (asleep s a k sleep) o → Found s sleep o

  abbrev pub Keeps : Type 0
  Keeps = (s : S) (a : L) → Good s → over s ≡ None → Member a (moves s) → Good (step s a)

  abbrev pub Exchanges : Type 0
  Exchanges = (s : S) → Good s → (a b : L) (x : List L) (o : O) → independent s a b ≡ true → Leads over moves step independent s (a ∷ b ∷ x) o → Begins over moves step independent s b (suc (length x)) o

  module _ (keeps : Keeps) (exchanges : Exchanges) (among : (a : L) (xs : List L) → sleeps a xs ≡ true → Member a xs) where
    -- some run begins with what sleeps
    pub record Slept (s : S) (sleep : List L) (n : ℕ) (o : O) : Type 0 where
      pub a : L
      pub sleeping : Member a sleep
      pub begins : Begins over moves step independent s a n o

    behind : (s : S) (a : L) (w : List L) (o : O) → Leads over moves step independent s (a ∷ w) o → Leads over moves step independent (step s a) w o
    behind s a w o (goes p m h) = h

    abbrev pub FoundOrSlept : ℕ → S → List L → O → Type 0
    FoundOrSlept n s sleep o = Found s sleep o ⊎ ((m : ℕ) × (m < n) × Slept s sleep m o)

    tells : (a : L) (xs : List L) → Member a xs ⊎ (sleeps a xs ≡ false)
    tells a xs = go (sleeps a xs) refl
      where
        go : (b : Bool) → sleeps a xs ≡ b → Member a xs ⊎ (sleeps a xs ≡ false)
        go true e = inl (among a xs e)
        go false e = inr e

    -- by the number of the first move, below some bound
    by-number : (n : ℕ) → ((s : S) → Good s → (sleep w : List L) (o : O) → length w ≤ n → Leads over moves step independent s w o → FoundOrSlept n s sleep o)
        → (s : S) → Good s → (sleep : List L) (o : O) → over s ≡ None → (bound k : ℕ) (a : L) (w : List L) → k < bound → At a k (moves s) → length w ≤ n → Leads over moves step independent (step s a) w o → FoundOrSlept (suc n) s sleep o
    by-number n ih s good sleep o p zero k a w lt at le h = absurd (omega arith)
    by-number n ih s good sleep o p (suc bound) k a w lt at le h = go (tells a sleep) (λ j c v lt at le h. by-number n ih s good sleep o p bound j c v lt at le h)
      where
        again : ((j : ℕ) (c : L) (v : List L) → j < bound → At c j (moves s) → length v ≤ n → Leads over moves step independent (step s c) v o → FoundOrSlept (suc n) s sleep o)
            → (m : ℕ) → m < n → Slept (step s a) (asleep s a k sleep) m o → FoundOrSlept (suc n) s sleep o
        again rec m l x = last (in-append x.a inside.1.0 sleep (take k (moves s)) inside.1.1)
          where
            inside : (independent s a x.a ≡ true) × Member x.a (sleep ++ take k (moves s))
            inside = in-filter (independent s a) x.a x.sleeping.0 (sleep ++ take k (moves s)) x.sleeping.1

            turned : Begins over moves step independent s x.a (suc (length x.begins.rest)) o
            turned = exchanges s good a x.a x.begins.rest o inside.0 (goes p (k, at) x.begins.leads)

            few : length turned.rest ≤ n
            few = let y = turned.few in let z = x.begins.few in omega arith

            last : Member x.a sleep ⊎ Member x.a (take k (moves s)) → FoundOrSlept (suc n) s sleep o
            last (inl q) = inr (n, omega arith, record { a = x.a; sleeping = q; begins = record { rest = turned.rest; few = few; leads = turned.leads } })
            last (inr q) = let r = in-take x.a q.0 k (moves s) q.1 in rec q.0 x.a turned.rest (let y = r.0 in omega arith) r.1 few (behind s x.a turned.rest o turned.leads)

        go : Member a sleep ⊎ (sleeps a sleep ≡ false) → ((j : ℕ) (c : L) (v : List L) → j < bound → At c j (moves s) → length v ≤ n → Leads over moves step independent (step s c) v o → FoundOrSlept (suc n) s sleep o) → FoundOrSlept (suc n) s sleep o
        go (inl q) rec = inr (n, omega arith, record { a = a; sleeping = q; begins = record { rest = w; few = le; leads = goes p (k, at) h } })
        go (inr q) rec = elim (ih (step s a) (keeps s a good p (k, at)) (asleep s a k sleep) w o le h) [ inl f ↦ inl (there p k at q f) | inr x ↦ again rec x.0 x.1 x.2 ]

    -- The outcome of a run is found, or some run to it that is no longer begins with what sleeps.
    pub found-or-slept : (n : ℕ) (s : S) → Good s → (sleep w : List L) (o : O) → length w ≤ n → Leads over moves step independent s w o → FoundOrSlept n s sleep o
    found-or-slept n s good sleep [] o l (done p) = inl (here p)
    found-or-slept zero s good sleep (a ∷ w) o l (goes p m h) = absurd (omega arith)
    found-or-slept (suc n) s good sleep (a ∷ w) o l (goes p m h) = by-number n (λ s good sleep w o l h. found-or-slept n s good sleep w o l h) s good sleep o p (suc m.0) m.0 a w (omega arith) m.1 (omega arith) h

    -- With nothing asleep each outcome is found.
    pub all-found : (s : S) → Good s → (w : List L) (o : O) → Leads over moves step independent s w o → Found s [] o
    all-found s good w o h = elim (found-or-slept (length w) s good [] w o (omega arith) h) [ inl f ↦ f | inr x ↦ absurd (x.2.sleeping.1) ]

  -- ---- States may be alike: they are over alike, have the same moves, and go on alike.
  module _ (Like : S → S → Type 0) where
    pub record Behaves : Type 0 where
      pub ends : (s t : S) → Like s t → over s ≡ over t
      pub same : (s t : S) → Good s → Like s t → over s ≡ None → (a : L) → Member a (moves s) → Member a (moves t)
      pub goes_on : (s t : S) → Good s → Like s t → over s ≡ None → (a : L) → Member a (moves s) → Like (step s a) (step t a)

    leads-alike : Keeps → Behaves → (s t : S) (w : List L) (o : O) → Good s → Like s t → Leads over moves step independent s w o → Leads over moves step independent t w o
    leads-alike keeps b s t w o good l (done p) = done (sym (b.ends s t l) ∙ p)
    leads-alike keeps b s t w o good l (goes {a = a} {w = v} p m h) =
        goes (sym (b.ends s t l) ∙ p) (b.same s t good l p a m) (leads-alike keeps b (step s a) (step t a) v o (keeps s a good p m) (b.goes_on s t good l p a m) h)

    -- what is asked of two independent moves: the second could have come first, and the first after it, to a state that is alike ..
    pub record Turns (s : S) (a b : L) : Type 0 where
      pub second_moves : Member b (moves s)
      pub goes_on : over (step s b) ≡ None
      pub first_moves : Member a (moves (step s b))
      pub alike : Like (step (step s a) b) (step (step s b) a)

    -- .. or the run is over with the second, the same way
    pub record Stops (s : S) (a b : L) : Type 0 where
      pub moves_first : Member b (moves s)
      pub o : O
      pub stops : over (step s b) ≡ Some o
      pub stops_too : over (step (step s a) b) ≡ Some o

    abbrev pub Diamond : Type 0
    Diamond = (s : S) → Good s → (a b : L) → independent s a b ≡ true → over s ≡ None → Member a (moves s) → over (step s a) ≡ None → Member b (moves (step s a)) → Turns s a b ⊎ Stops s a b

    exchanged-run : Keeps → Behaves → Diamond → Exchanges
    exchanged-run keeps behaves diamond s good a b x o ind (goes p m (goes q k h)) = go (diamond s good a b ind p m q k)
      where
        over_with : (o' : O) → over (step (step s a) b) ≡ Some o' → (x : List L) → Leads over moves step independent (step (step s a) b) x o → o' ≡ o
        over_with o' r [] (done e) = let same : Some o' ≡ Some o = sym r ∙ e in cc
        over_with o' r (c ∷ x) (goes e m l) = let no : Some o' ≡ None = sym r ∙ e in cc

        go : Turns s a b ⊎ Stops s a b → Begins over moves step independent s b (suc (length x)) o
        go (inl t) =
            let g : Good (step (step s a) b) = keeps (step s a) b (keeps s a good p m) q k in
            record { rest = a ∷ x; few = omega arith; leads = goes p t.second_moves (goes t.goes_on t.first_moves (leads-alike keeps behaves (step (step s a) b) (step (step s b) a) x o g t.alike h)) }
        go (inr t) = record { rest = []; few = omega arith; leads = goes p t.moves_first (done (t.stops ∙ ap Some (over_with t.o t.stops_too x h))) }

    -- So sleep sets lose no outcome.
    pub sleep-sets-lose-nothing : Keeps → Behaves → Diamond → ((a : L) (xs : List L) → sleeps a xs ≡ true → Member a xs) → (s : S) → Good s → (w : List L) (o : O) → Leads over moves step independent s w o → Found s [] o
    sleep-sets-lose-nothing keeps behaves diamond among = all-found keeps (exchanged-run keeps behaves diamond) among
