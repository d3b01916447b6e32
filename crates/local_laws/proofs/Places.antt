-- The machine's steps, as places that a run comes to.
use Rattle.std.specs.Prelude.{◌≡◌, ◌≢◌, ◌⊎◌, ◌<◌, ◌+◌, ◌-◌, ℕ, zero, suc, Bool, true, false, not, ◌&&◌, ◌||◌, List, [], ◌∷◌, ◌++◌, Option, Some, None, find, filter, reverse, slice_get, slice_set, refl, if◌then◌else◌}
use Rattle.std.proofs.Common.{sym, ◌∙◌, ap, subst, arith, cond, inl, inr, zero-add}
use Rattle.std.proofs.lemmas.Bool.Decides.{eqb_tells, leb_tells}
use Rattle.mu_model.specs.declared.lines.Line.{Line}
use Rattle.mu_model.specs.declared.endings.Ending.{Ending}
use Rattle.mu_model.specs.declared.endings.Ending.TheVariants as endings
use Rattle.futex.specs.declared.waiters.Waiter.{Waiter}
use Rattle.mu_model.specs.Configuration.{Thread, Configuration}
use Rattle.mu_model.specs.Acts.{Program}
use Rattle.mu_model.specs.Outcomes.{Outcome, Next, End, Asks, Stuck, on}
use Rattle.mu_model.specs.Step.{threads_from, is_blocked, runnable, picked}
use Rattle.search_laws.specs.Local.{after, mapped, Awake, ToldTurnsCommute}
use Rattle.local_steps.specs.IsLocal.{is_local, least_local}
use Rattle.local_laws.specs.LocalSteps.{made, plain, Meet}
use Rattle.local_laws.proofs.Counting.{counted}
use Rattle.local_laws.proofs.Keeping.{NoEnds}
use Rattle.local_laws.proofs.Answering.{no_ends_reverse}
use Rattle.local_laws.specs.Lemmas.Running.{In, found_in, runs_after, local_runs}
use Rattle.local_laws.specs.Lemmas.Forms.{Effect, effect, Stays, Leaves, lines_of, thread_of, stack_of, result, on_some, Locals, locals}
use Rattle.local_laws.proofs.Meeting.{made_counts, made_cuts, local_made, went, Kept, kept, behind_local, local_steps_meet}
use Rattle.local_laws.proofs.Front.{Machine, Meets}
use Rattle.local_laws.proofs.Seeing.{Shown, Nothing, shown_at, add, add_swap, add_cut}

-- ---- places

abbrev pub IsOver : Outcome → Shown → Type 0
IsOver (Next d) s = ⊥
IsOver (End ls e) s = s ≡ shown_at ls e
IsOver (Asks view go) s = s ≡ Nothing
IsOver Stuck s = s ≡ Nothing

abbrev pub ending_by : List ℕ → Ending
ending_by [] = endings.Done
ending_by (i ∷ is) = endings.AllWaiting (i ∷ is)

module _ (p : Program) where
  -- a step of some thread goes on
  pub record GoesOn (c : Configuration) (ls : List Line) (d : Configuration) : Type 0 where
    pub j : ℕ
    pub picks : List ℕ
    pub runs : In j (runnable c)
    pub room : c.steps < c.budget
    pub x : Configuration
    pub made : made p c j picks ≡ Next x
    pub lines : ls ≡ reverse x.lines
    pub place : d ≡ plain x

  -- a step of some thread ends the run
  pub record CutsOff (c : Configuration) (s : Shown) : Type 0 where
    pub j : ℕ
    pub picks : List ℕ
    pub runs : In j (runnable c)
    pub room : c.steps < c.budget
    pub stops : IsOver (made p c j picks) s

  -- no thread can make a step
  pub record IsDone (c : Configuration) (s : Shown) : Type 0 where
    pub none : runnable c ≡ []
    pub says : s ≡ shown_at [] (ending_by (threads_from 0 c.threads))

  -- some thread could, and no step may be made
  pub record IsFull (c : Configuration) : Type 0 where
    pub j : ℕ
    pub runs : In j (runnable c)
    pub spent : c.steps ≡ c.budget

  pub record IsLocalStep (c : Configuration) (li : List Line) (d : Configuration) : Type 0 where
    pub i : ℕ
    pub local : is_local p c i ≡ true
    pub room : c.steps < c.budget
    pub x : Configuration
    pub made : made p c i [] ≡ Next x
    pub lines : li ≡ reverse x.lines
    pub place : d ≡ plain x

  -- that of the least thread whose step is local
  pub record IsFirst (c : Configuration) (li : List Line) (d : Configuration) : Type 0 where
    pub i : ℕ
    pub least : least_local p c ≡ Some i
    pub room : c.steps < c.budget
    pub x : Configuration
    pub made : made p c i [] ≡ Next x
    pub lines : li ≡ reverse x.lines
    pub place : d ≡ plain x

  -- that has no rule, or more steps were made than may be
  abbrev pub Sticks : Configuration → Type 0
  Sticks c = ((i : ℕ) × (least_local p c ≡ Some i) × (made p c i [] ≡ Stuck)) ⊎ (c.budget < c.steps)

  abbrev pub places : Machine
  places =
      record {
        Place = Configuration;
        Lines = List Line;
        Seen = Shown;
        nothing = Nothing;
        add = add;
        Goes = GoesOn;
        Cuts = CutsOff;
        Ends = IsDone;
        Full = IsFull;
        Local = IsLocalStep;
        First = IsFirst;
        Sticks = Sticks;
        Never = λ c. least_local p c ≡ None;
        left = λ c. c.budget - c.steps;
      }

  -- ---- that they meet

  least_is : (c : Configuration) (i : ℕ) → least_local p c ≡ Some i → (is_local p c i ≡ true) × (c.steps ≢ c.budget)
  least_is c i e = elim (eqb_tells c.steps c.budget) [
    | inl q ↦ let none : None ≡ Some i = sym (ap (λ (b : Bool). if b then None else find (is_local p c) (runnable c)) q.0) ∙ e in cc
    | inr q ↦ ((found_in (is_local p c) i (runnable c) (sym (ap (λ (b : Bool). if b then None else find (is_local p c) (runnable c)) q.0) ∙ e)).1, q.1)
  ]

  -- the step of a thread that is local goes on in one way
  one_way : (c x y : Configuration) (i : ℕ) (picks : List ℕ) → Locals p c i → made p c i picks ≡ Next x → made p c i [] ≡ Next y → (plain x ≡ plain y) × (x.lines ≡ y.lines)
  one_way c x y i picks h e f =
      let v = went p c x i h picks e in
      let w = went p c y i h [] f in
      let same : v.does ≡ w.does = let both : Some v.does ≡ Some w.does = sym v.is ∙ w.is in cc in (
        ap plain v.comes ∙ ap (λ z. plain (result i h.t z (picked c []))) same ∙ sym (ap plain w.comes),
        ap (λ (c : Configuration). c.lines) v.comes ∙ ap (λ z. (result i h.t z (picked c [])).lines) same ∙ sym (ap (λ (c : Configuration). c.lines) w.comes),
      )

  -- and it goes on by any numbers
  any_way : (c y : Configuration) (i : ℕ) (picks : List ℕ) → Locals p c i → made p c i [] ≡ Next y → (x : Configuration) × (made p c i picks ≡ Next x)
  any_way c y i picks h f =
      let w = went p c y i h [] f in
      (result i h.t w.does (picked c picks), local_made p c i h picks ∙ on_some (effect p h.u h.a) w.does (λ e. Next (result i h.t e (picked c picks))) w.is)

  local_lines : (i : ℕ) (x : Effect) → reverse (lines_of i x ++ []) ≡ lines_of i x
  local_lines i (Stays fs) = refl
  local_lines i (Leaves vs) = refl

  module _ (commutes : ToldTurnsCommute) (c : Configuration) where
    -- behind a local step another thread may still run
    runs_behind : (i j : ℕ) (y : Configuration) → Locals p c i → made p c i [] ≡ Next y → j ≢ i → In j (runnable c) → In j (runnable (plain y))
    runs_behind i j y h f ne r =
        let w = went p c y i h [] f in
        runs_after c (plain y) i j (thread_of h.t w.does) (ap (λ (c : Configuration). c.threads) w.comes) (ap (λ (c : Configuration). c.waiters) w.comes) (λ e. ne (sym e)) r

    -- there a step may still be made, or none
    full_or_room : (j : ℕ) (y : Configuration) → y.steps ≡ suc c.steps → y.budget ≡ c.budget → c.steps < c.budget → In j (runnable (plain y)) → IsFull (plain y) ⊎ (y.steps < y.budget)
    full_or_room j y s b room r = elim (eqb_tells y.steps y.budget) [
      | inl q ↦ inl (record { j = j; runs = r; spent = q.1 })
      | inr q ↦ inr (by q.1)
    ]
      where
        by : y.steps ≢ y.budget → y.steps < y.budget
        by ne = elim (leb_tells y.budget y.steps) [
          | inl q ↦ absurd (ne (omega (arith, s, b, room, q.1)))
          | inr q ↦ q.1
        ]

    -- the step of another thread
    other_meets : (i j : ℕ) (picks : List ℕ) (x y : Configuration) (li ls : List Line) → (h : Locals p c i) → is_local p c i ≡ true → j ≢ i → c.steps < c.budget → In j (runnable c)
        → made p c i [] ≡ Next y → made p c j picks ≡ Next x → li ≡ reverse y.lines → ls ≡ reverse x.lines
        → IsFull (plain y) ⊎ ((f : Configuration) × GoesOn (plain y) ls f × IsLocalStep (plain x) li f × ((s : Shown) → add li (add ls s) ≡ add ls (add li s)))
    other_meets i j picks x y li ls h l ne room r f g el es =
        let n = made_counts p c y i [] f in
        let m = made_counts p c x j picks g in
        by n m (full_or_room j y n.0 n.1 room (runs_behind i j y h f ne r))
      where
        by : (y.steps ≡ suc c.steps) × (y.budget ≡ c.budget) → (x.steps ≡ suc c.steps) × (x.budget ≡ c.budget) → IsFull (plain y) ⊎ (y.steps < y.budget)
            → IsFull (plain y) ⊎ ((f : Configuration) × GoesOn (plain y) ls f × IsLocalStep (plain x) li f × ((s : Shown) → add li (add ls s) ≡ add ls (add li s)))
        by n m (inl full) = inl full
        by n m (inr more) =
            let meet : Meet p i j picks y x = local_steps_meet commutes p c y x i j picks l ne f g in
            let w = went p c y i h [] f in
            let k : Kept commutes p c i j ne h picks x = kept commutes p c i j ne h picks x g in
            let own : li ≡ lines_of i w.does = el ∙ ap (λ (c : Configuration). reverse c.lines) w.comes ∙ local_lines i w.does in
            let none : NoEnds i ls = subst (NoEnds i) (sym es) (no_ends_reverse i x.lines k.ends) in
            let n0 = n.0 in let n1 = n.1 in let m0 = m.0 in let m1 = m.1 in
            let space : x.steps < x.budget = omega (arith, n0, n1, m0, m1, more) in
            inr (
              plain meet.over,
              record { j = j; picks = picks; runs = runs_behind i j y h f ne r; room = more; x = meet.over; made = meet.made_over; lines = es ∙ ap reverse (sym meet.lines_over); place = refl },
              record { i = i; local = meet.local; room = space; x = meet.under; made = meet.made_under; lines = el ∙ ap reverse (sym meet.lines_under); place = meet.same },
              (λ s. ap (λ li. add li (add ls s)) own ∙ add_swap i w.does ls s none ∙ sym (ap (λ li. add ls (add li s)) own)),
            )

    Met : Configuration → Configuration → List Line → List Line → Type 0
    Met d e li ls = IsFull d ⊎ ((f : Configuration) × GoesOn d ls f × IsLocalStep e li f × ((s : Shown) → add li (add ls s) ≡ add ls (add li s)))

    mine : (d e : Configuration) (li ls : List Line) → IsLocalStep c li d → GoesOn c ls e
        → ((ls ≡ li) × (e ≡ d)) ⊎ (IsFull d ⊎ ((f : Configuration) × GoesOn d ls f × IsLocalStep e li f × ((s : Shown) → add li (add ls s) ≡ add ls (add li s))))
    unfolding Met
    mine d e li ls l g = elim (eqb_tells g.j l.i) [
      | inl q ↦
          let m : made p c l.i g.picks ≡ Next g.x = ap (λ j. made p c j g.picks) (sym q.1) ∙ g.made in
          let o = one_way c g.x l.x l.i g.picks h m l.made in
          inl (g.lines ∙ ap reverse o.1 ∙ sym l.lines, g.place ∙ o.0 ∙ sym l.place)
      | inr q ↦
          let met : Met (plain l.x) (plain g.x) li ls = other_meets l.i g.j g.picks g.x l.x li ls h l.local q.1 l.room g.runs l.made g.made l.lines g.lines in
          inr (subst (λ d. Met d e li ls) (sym l.place) (subst (λ e. Met (plain l.x) e li ls) (sym g.place) met))
    ]
      where
        h : Locals p c l.i
        h = locals p c l.i l.local

    over_kept : (ps : ℕ × ℕ) (f : Configuration → Configuration) (o : Outcome) (s : Shown) → IsOver o s → IsOver (counted ps (mapped f o)) s
    over_kept ps f (Next d) s h = absurd h
    over_kept ps f (End ls e) s h = h
    over_kept ps f (Asks view go) s h = h
    over_kept ps f Stuck s h = h

    cut_says : (i j : ℕ) (picks : List ℕ) (li : List Line) (s : Shown) → j ≢ i → Awake i c.waiters → (o : Outcome) → made p c j picks ≡ o → IsOver o s → add li s ≡ s
    cut_says i j picks li s ne a (Next d) e h = absurd h
    cut_says i j picks li s ne a (End ls x) e h = ap (add li) h ∙ add_cut li ls x (made_cuts p i j c picks ls x ne a e) ∙ sym h
    cut_says i j picks li s ne a (Asks view go) e h = ap (add li) h ∙ sym h
    cut_says i j picks li s ne a Stuck e h = ap (add li) h ∙ sym h

    cut : (d : Configuration) (li : List Line) (s : Shown) → IsLocalStep c li d → CutsOff c s → (add li s ≡ s) × (IsFull d ⊎ CutsOff d s)
    cut d li s l k = elim (eqb_tells k.j l.i) [
      | inl q ↦
          let x = any_way c l.x l.i k.picks h l.made in
          absurd (subst (λ o. IsOver o s) (ap (λ j. made p c j k.picks) q.1 ∙ x.1) k.stops)
      | inr q ↦ (cut_says l.i k.j k.picks li s q.1 h.awake (made p c k.j k.picks) refl k.stops, subst (λ d. IsFull d ⊎ CutsOff d s) (sym l.place) (other q.1))
    ]
      where
        h : Locals p c l.i
        h = locals p c l.i l.local

        other : k.j ≢ l.i → IsFull (plain l.x) ⊎ CutsOff (plain l.x) s
        other ne =
            let n = made_counts p c l.x l.i [] l.made in
            let w = went p c l.x l.i h [] l.made in
            let runs : In k.j (runnable (plain l.x)) = runs_behind l.i k.j l.x h l.made ne k.runs in
            let same : made p l.x k.j k.picks ≡ counted (suc (suc c.steps), c.budget) (mapped (after l.i h.t.stack (thread_of h.t w.does) (stack_of l.i w.does)) (made p c k.j k.picks)) =
            ap (λ y. made p y k.j k.picks) w.comes ∙ behind_local commutes p c l.i k.j ne h k.picks w.does in
            let stops : IsOver (made p l.x k.j k.picks) s =
            subst (λ o. IsOver o s) (sym same) (over_kept (suc (suc c.steps), c.budget) (after l.i h.t.stack (thread_of h.t w.does) (stack_of l.i w.does)) (made p c k.j k.picks) s k.stops) in
            elim (full_or_room k.j l.x n.0 n.1 l.room runs) [
              | inl full ↦ inl full
              | inr more ↦ inr (record { j = k.j; picks = k.picks; runs = runs; room = more; stops = stops })
            ]

    not_done : (d : Configuration) (li : List Line) (s : Shown) → IsLocalStep c li d → IsDone c s → ⊥
    not_done d li s l e =
        let r = local_runs p c l.i (locals p c l.i l.local) in
        let none : None ≡ Some l.i = sym (ap (λ xs. slice_get xs r.0) e.none) ∙ r.1 in
        cc

    has_room : (d : Configuration) (li : List Line) → IsLocalStep c li d → IsFull c → ⊥
    has_room d li l f = let a = l.room in let b = f.spent in absurd (omega (arith, a, b))

    down : (x d : Configuration) (j : ℕ) (picks : List ℕ) → c.steps < c.budget → made p c j picks ≡ Next x → d ≡ plain x → d.budget - d.steps < c.budget - c.steps
    down x d j picks room m e =
        let n = made_counts p c x j picks m in
        let s : d.steps ≡ suc c.steps = ap (λ (c : Configuration). c.steps) e ∙ n.0 in
        let b : d.budget ≡ c.budget = ap (λ (c : Configuration). c.budget) e ∙ n.1 in
        omega (arith, s, b, room)

    -- a thread whose step is local has one that goes on, or has none
    goes_or_sticks : (i : ℕ) → Locals p c i → ((x : Configuration) × (made p c i [] ≡ Next x)) ⊎ (made p c i [] ≡ Stuck)
    unfolding on
    goes_or_sticks i h = by (effect p h.u h.a) refl
      where
        by : (o : Option Effect) → effect p h.u h.a ≡ o → ((x : Configuration) × (made p c i [] ≡ Next x)) ⊎ (made p c i [] ≡ Stuck)
        by None e = inr (local_made p c i h [] ∙ ap (λ o. on o (λ e. Next (result i h.t e (picked c [])))) e)
        by (Some x) e = inl (result i h.t x (picked c []), local_made p c i h [] ∙ ap (λ o. on o (λ e. Next (result i h.t e (picked c [])))) e)

    first_at : ((li : List Line) × (d : Configuration) × IsFirst c li d) ⊎ (Sticks c ⊎ (least_local p c ≡ None))
    first_at = by (least_local p c) refl
      where
        least : (i : ℕ) → least_local p c ≡ Some i → c.steps < c.budget → ((x : Configuration) × (made p c i [] ≡ Next x)) ⊎ (made p c i [] ≡ Stuck) → ((li : List Line) × (d : Configuration) × IsFirst c li d) ⊎ (Sticks c ⊎ (least_local p c ≡ None))
        least i e room (inl q) = inl (reverse q.0.lines, plain q.0, record { i = i; least = e; room = room; x = q.0; made = q.1; lines = refl; place = refl })
        least i e room (inr q) = inr (inl (inl (i, e, q)))

        by : (o : Option ℕ) → least_local p c ≡ o → ((li : List Line) × (d : Configuration) × IsFirst c li d) ⊎ (Sticks c ⊎ (least_local p c ≡ None))
        by None e = inr (inr e)
        by (Some i) e =
            let l = least_is c i e in
            elim (leb_tells c.steps c.budget) [
              | inr q ↦ inr (inl (inr q.1))
              | inl q ↦ elim (leb_tells c.budget c.steps) [
                | inl r ↦ absurd (l.1 (omega (arith, q.1, r.1)))
                | inr r ↦ least i e r.1 (goes_or_sticks i (locals p c i l.0))
              ]
            ]

  pub meets : ToldTurnsCommute → Meets places
  meets commutes =
      record {
        mine = λ c d e li ls. mine commutes c d e li ls;
        cut = λ c d li s. cut commutes c d li s;
        goes_on = λ c d li s. not_done commutes c d li s;
        room = λ c d li. has_room commutes c d li;
        none = λ ls. refl;
        is_local = λ c d li f. record { i = f.i; local = (least_is c f.i f.least).0; room = f.room; x = f.x; made = f.made; lines = f.lines; place = f.place };
        goes_down = λ c d ls g. down commutes c g.x d g.j g.picks g.room g.made g.place;
        local_down = λ c d ls l. down commutes c l.x d l.i [] l.room l.made l.place;
        first_at = λ c. first_at commutes c;
      }
