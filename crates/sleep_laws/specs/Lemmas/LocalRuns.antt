-- The local steps of one thread, one after the other: what they come to follows from its frames.
use Rattle.std.specs.Prelude.{◌≡◌, ◌≢◌, ◌⊎◌, ◌+◌, ◌<◌, ℕ, zero, suc, Bool, true, false, ◌==◌, List, [], ◌∷◌, ◌++◌, Option, Some, None, find, length, option_map, reverse, slice_get, slice_set, refl, if◌then◌else◌}
use Rattle.std.proofs.Common.{sym, ◌∙◌, ap, subst, arith, inl, inr}
use Rattle.std.proofs.lemmas.Bool.{false≢true}
use Rattle.std.proofs.lemmas.Bool.Decides.{eqb_tells}
use Rattle.std.proofs.lemmas.List.{set-set}
use Rattle.std.proofs.lemmas.Option.{slice_get_within}
use Rattle.typed_heap.specs.Objects.{HeapObject}
use Rattle.typed_heap.specs.Places.{with_some}
use Rattle.frames.specs.Activations.{Activation}
use Rattle.futex.specs.declared.waiters.Waiter.{Waiter}
use Rattle.futex.specs.Waiting.{is_of}
use Rattle.mu_model.specs.declared.lines.Line.{Line}
use Rattle.mu_model.specs.declared.lines.Line.TheVariants as line_forms
use Rattle.mu_model.specs.declared.lines.Note.TheVariants as notes
use Rattle.mu_model.specs.Configuration.{Stack, Ready, Active, Dead, Thread, Configuration}
use Rattle.mu_model.specs.Acts.{Act, Program}
use Rattle.mu_model.specs.Turns.{Turn, turn_of, turn_at, active_on}
use Rattle.mu_model.specs.Outcomes.{Next, on}
use Rattle.mu_model.specs.Step.{runnable, turns, picked}
use Rattle.mu_model.specs.Run.{client_answers}
use Rattle.search_laws.specs.Local.{after, Acts}
use Rattle.local_steps.specs.IsLocal.{is_local_act, does_local_act, is_local_turn, is_local}
use Rattle.local_laws.specs.Lemmas.Forms.{Effect, effect, Stays, Leaves, lines_of, thread_of, stack_of, result, set_there, get_within, on_some, local_turns, turn_from, Locals, locals}
use Rattle.local_laws.specs.Lemmas.Running.{In, get_other, found_in, local_runs}
use Rattle.sleep_laws.specs.Fits.{plain}
use Rattle.sleep_laws.specs.Lemmas.Places.{Place, At, Gone, comes, local_first, stays_at, goes_first, settled}

-- ---- lists

pub append_nil : {A : Type 0} (xs : List A) → xs ++ [] ≡ xs
append_nil [] = refl
append_nil (x ∷ xs) = ap (λ ys. x ∷ ys) (append_nil xs)

find_none : (q : ℕ → Bool) (xs : List ℕ) → ((j : ℕ) → q j ≡ false) → find q xs ≡ None
find_none q [] h = refl
find_none q (x ∷ xs) h = ap (λ (b : Bool). if b then Some x else find q xs) (h x) ∙ find_none q xs h

find_only : (q : ℕ → Bool) (i : ℕ) (xs : List ℕ) → ((j : ℕ) → j ≢ i → q j ≡ false) → q i ≡ true → In i xs → find q xs ≡ Some i
find_only q i [] h g (n, e) = let no : None ≡ Some i = e in cc
find_only q i (x ∷ xs) h g (n, e) = elim (eqb_tells x i) [
  | inl s ↦ ap (λ (b : Bool). if b then Some x else find q xs) (ap q s.1 ∙ g) ∙ ap Some s.1
  | inr s ↦ ap (λ (b : Bool). if b then Some x else find q xs) (h x s.1) ∙ find_only q i xs h g (later n e s.1)
]
  where
    later : (n : ℕ) → slice_get (x ∷ xs) n ≡ Some i → x ≢ i → In i xs
    later zero e ne = let same : Some x ≡ Some i = e in absurd (ne (cc))
    later (suc n) e ne = (n, e)

pub none_found : (q : ℕ → Bool) (xs : List ℕ) (i : ℕ) → find q xs ≡ None → In i xs → q i ≡ false
none_found q [] i e (n, at) = let no : None ≡ Some i = at in cc
none_found q (x ∷ xs) i e (n, at) = by (q x) refl e (none_found q xs i)
  where
    by : (b : Bool) → q x ≡ b → (if b then Some x else find q xs) ≡ None → (find q xs ≡ None → In i xs → q i ≡ false) → q i ≡ false
    by true g e more = let no : Some x ≡ None = e in cc
    by false g e more = at_number n at e more g
      where
        at_number : (n : ℕ) → slice_get (x ∷ xs) n ≡ Some i → find q xs ≡ None → (find q xs ≡ None → In i xs → q i ≡ false) → q x ≡ false → q i ≡ false
        at_number zero at e more g = let same : Some x ≡ Some i = at in let s : x ≡ i = cc in ap q (sym s) ∙ g
        at_number (suc n) at e more g = more e (n, at)

-- where no thread that may run has a local step, none has
pub none_local : (p : Program) (c : Configuration) → find (is_local p c) (runnable c) ≡ None → (j : ℕ) → is_local p c j ≡ false
none_local p c e j = by (is_local p c j) refl
  where
    by : (b : Bool) → is_local p c j ≡ b → is_local p c j ≡ false
    by false q = q
    by true q = none_found (is_local p c) (runnable c) j e (local_runs p c j (locals p c j q))

-- ---- other threads

module _ (p : Program) where
  abbrev pub at_stack : List Stack → ℕ → Option (Option Thread) → Option Turn
  at_stack ss j o = with_some o (λ (t : Option Thread). with_some t (λ (t : Thread). with_some (slice_get ss t.stack) (λ s. with_some (active_on j s) (turn_at p j t.stack))))

  -- a thread's turn stays the same where another thread and its stack change
  pub other_turn : (c : Configuration) (i k j : ℕ) (x : Option Thread) (y : Stack) (fs : List Activation) → slice_get c.stacks k ≡ Some (Active i fs) → active_on j y ≡ None → i ≢ j → turn_of p (after i k x y c) j ≡ turn_of p c j
  other_turn c i k j x y fs on shut ne = ap (at_stack (slice_set c.stacks k y) j) (get_other c.threads i j x ne) ∙ by (slice_get c.threads j)
    where
      mine : (s : ℕ) → s ≡ k → with_some (slice_get (slice_set c.stacks k y) s) (λ s'. with_some (active_on j s') (turn_at p j s)) ≡ with_some (slice_get c.stacks s) (λ s'. with_some (active_on j s') (turn_at p j s))
      mine s e =
          let now : slice_get (slice_set c.stacks k y) s ≡ Some y = ap (slice_get (slice_set c.stacks k y)) e ∙ get_within c.stacks k y (slice_get_within c.stacks k (Active i fs) on) in
          let was : slice_get c.stacks s ≡ Some (Active i fs) = ap (slice_get c.stacks) e ∙ on in
          let none : active_on j (Active i fs) ≡ None = elim (eqb_tells i j) [
            | inl q ↦ absurd (ne q.1)
            | inr q ↦ ap (λ (b : Bool). if b then Some fs else None) q.0
          ] in
          ap (λ o. with_some o (λ s'. with_some (active_on j s') (turn_at p j s))) now ∙ ap (λ o. with_some o (turn_at p j s)) shut
          ∙ sym (ap (λ o. with_some o (λ s'. with_some (active_on j s') (turn_at p j s))) was ∙ ap (λ o. with_some o (turn_at p j s)) none)

      by : (o : Option (Option Thread)) → at_stack (slice_set c.stacks k y) j o ≡ at_stack c.stacks j o
      by None = refl
      by (Some None) = refl
      by (Some (Some t)) = elim (eqb_tells k t.stack) [
        | inl q ↦ mine t.stack (sym q.1)
        | inr q ↦ ap (λ o. with_some o (λ s. with_some (active_on j s) (turn_at p j t.stack))) (get_other c.stacks k t.stack y q.1)
      ]

  pub other_local : (c : Configuration) (i k j : ℕ) (x : Option Thread) (y : Stack) (fs : List Activation) → slice_get c.stacks k ≡ Some (Active i fs) → active_on j y ≡ None → i ≢ j → is_local p (after i k x y c) j ≡ is_local p c j
  other_local c i k j x y fs on shut ne = ap (is_local_turn p (find (is_of j) c.waiters)) (other_turn c i k j x y fs on shut ne)

  -- a stack on which thread i goes on is not that of another
  pub not_others : (i j : ℕ) (fs : List Activation) → i ≢ j → active_on j (Active i fs) ≡ None
  not_others i j fs ne = elim (eqb_tells i j) [
    | inl q ↦ absurd (ne q.1)
    | inr q ↦ ap (λ (b : Bool). if b then Some fs else None) q.0
  ]

  -- what a local step comes to, with the client's own answer, which is not asked
  pub local_comes : (c : Configuration) (i : ℕ) (h : Locals p c i) → client_answers p c.client (turns p (picked c []) i) ≡ on (effect p h.u h.a) (λ e. Next (result i h.t e (picked c [])))
  unfolding on
  local_comes c i h = ap (client_answers p c.client) (local_turns p (picked c []) i h.t h.u h.a acts h.alone) ∙ by (effect p h.u h.a)
    where
      acts : Acts p (picked c []) i h.t h.u h.a
      acts = record { thread = h.acts.thread; turn = h.acts.turn; awake = h.acts.awake; act = h.acts.act; own = h.acts.own }

      by : (o : Option Effect) → client_answers p c.client (on o (λ e. Next (result i h.t e (picked c [])))) ≡ on o (λ e. Next (result i h.t e (picked c [])))
      by None = refl
      by (Some e) = refl

-- ---- the run of local steps

-- what it comes to: the thread and its stack, how many steps it is, and its lines
pub record Ran : Type 0 where
  pub thread : Option Thread
  pub stack : Stack
  pub made : ℕ
  pub says : List Line

abbrev pub one_more : Ran → Ran
one_more r = record r { made = suc r.made }

module _ (p : Program) (i : ℕ) (t : Thread) where
  -- what the local step of a turn does; or there is none
  abbrev pub effect_of : Turn → Option Act → Option (Option Effect)
  effect_of u None = None
  effect_of u (Some a) = if is_local_act p u a then Some (effect p u a) else None

  abbrev pub local_effect : Option Turn → Option (Option Effect)
  local_effect None = None
  local_effect (Some u) = effect_of u u.doing.act

  abbrev pub rests : List Activation → Ran
  rests fs = record { thread = Some t; stack = Active i fs; made = 0; says = [] }

  abbrev pub runs_out : List Activation → Option (Option Effect) → Option Ran
  runs_out fs None = Some (rests fs)
  runs_out fs (Some e) = None

  abbrev pub runs_by : (List Activation → Option Ran) → Option Effect → Option Ran
  runs_by more None = None
  runs_by more (Some (Stays gs)) = option_map one_more (more gs)
  runs_by more (Some (Leaves vs)) = Some (record { thread = None; stack = Dead; made = 1; says = line_forms.Note (notes.Returned i vs) ∷ [] })

  abbrev pub runs_on : (List Activation → Option Ran) → List Activation → Option (Option Effect) → Option Ran
  runs_on more fs None = Some (rests fs)
  runs_on more fs (Some e) = runs_by more e

  -- if it is no more than so many steps, each of which has a rule
  abbrev pub local_run : ℕ → List Activation → Option Ran
  local_run zero fs = runs_out fs (local_effect (turn_at p i t.stack fs))
  local_run (suc n) fs = runs_on (local_run n) fs (local_effect (turn_at p i t.stack fs))

  -- the thread stands on its stack with these frames, and no other thread has a local step
  pub record Stood (c : Configuration) (fs : List Activation) : Type 0 where
    pub thread : slice_get c.threads i ≡ Some (Some t)
    pub stack : slice_get c.stacks t.stack ≡ Some (Active i fs)
    pub awake : find (is_of i) c.waiters ≡ None
    pub alone : (j : ℕ) → j ≢ i → is_local p c j ≡ false

  abbrev pub with_run : Configuration → Ran → Configuration
  with_run c r = record (plain c) { threads = slice_set c.threads i r.thread; stacks = slice_set c.stacks t.stack r.stack; steps = c.steps + r.made }

  abbrev pub after_run : Configuration → List Line → Option Ran → Place
  after_run c ls None = Gone None
  after_run c ls (Some r) = At (with_run c r) (ls ++ r.says)

  -- it is the thread's turn, with these frames
  pub own_turn : (c : Configuration) (fs : List Activation) → slice_get c.threads i ≡ Some (Some t) → slice_get c.stacks t.stack ≡ Some (Active i fs) → turn_of p c i ≡ turn_at p i t.stack fs
  own_turn c fs at on = turn_from p c i t (Active i fs) at on ∙ ap (λ o. with_some o (turn_at p i t.stack)) (elim (eqb_tells i i) [
    | inl q ↦ ap (λ (b : Bool). if b then Some fs else None) q.0
    | inr q ↦ absurd (q.1 refl)
  ])

  no_effect : (o : Option Turn) → is_local_turn p None o ≡ false → local_effect o ≡ None
  no_effect None e = refl
  no_effect (Some u) e = by u.doing.act e
    where
      by : (o : Option Act) → does_local_act p u o ≡ false → effect_of u o ≡ None
      by None e = refl
      by (Some a) e = ap (λ (b : Bool). if b then Some (effect p u a) else None) e

  same_effect : (u : Turn) (a : Act) → u.doing.act ≡ Some a → is_local_act p u a ≡ true → local_effect (Some u) ≡ Some (effect p u a)
  same_effect u a q l = ap (effect_of u) q ∙ ap (λ (b : Bool). if b then Some (effect p u a) else None) l

  module _ (globals : ℕ) (os : List HeapObject) where
    settled_gone : (n : ℕ) → settled p globals os n (Gone None) ≡ Gone None
    settled_gone zero = refl
    settled_gone (suc n) = refl

    settled_here : (n : ℕ) (c : Configuration) (ls : List Line) → local_first p c ≡ None → settled p globals os n (At c ls) ≡ At c ls
    settled_here zero c ls e = ap (stays_at p globals os c ls) e
    settled_here (suc n) c ls e = ap (goes_first p globals os (settled p globals os n) c ls) e

    -- the thread has no local step
    rested : (n : ℕ) (c : Configuration) (ls : List Line) (fs : List Activation) → Stood c fs → is_local p c i ≡ false → settled p globals os n (At (plain c) ls) ≡ after_run c ls (Some (rests fs))
    rested n c ls fs h e = settled_here n (plain c) ls (find_none (is_local p c) (runnable c) none) ∙ here
      where
        none : (j : ℕ) → is_local p c j ≡ false
        none j = elim (eqb_tells j i) [ inl q ↦ ap (is_local p c) q.1 ∙ e | inr q ↦ h.alone j q.1 ]

        here : At (plain c) ls ≡ after_run c ls (Some (rests fs))
        here =
            let k : c.steps ≡ c.steps + 0 = omega arith in
            ap (λ ts. At (record (plain c) { threads = ts }) ls) (sym (set_there c.threads i (Some t) h.thread))
            ∙ ap (λ ss. At (record (plain c) { threads = slice_set c.threads i (Some t); stacks = ss }) ls) (sym (set_there c.stacks t.stack (Active i fs) h.stack))
            ∙ ap (λ n. At (record (plain c) { threads = slice_set c.threads i (Some t); stacks = slice_set c.stacks t.stack (Active i fs); steps = n }) ls) k
            ∙ ap (At (with_run c (rests fs))) (sym (append_nil ls))

    stood_on : (c : Configuration) (fs gs : List Activation) → Stood c fs → Stood (result i t (Stays gs) (picked c [])) gs
    stood_on c fs gs h = record {
      thread = get_within c.threads i (Some t) (slice_get_within c.threads i (Some t) h.thread);
      stack = get_within c.stacks t.stack (Active i gs) (slice_get_within c.stacks t.stack (Active i fs) h.stack);
      awake = h.awake;
      alone = λ j ne. other_local p c i t.stack j (Some t) (Active i gs) fs h.stack (not_others p i j gs (λ e. ne (sym e))) (λ e. ne (sym e)) ∙ h.alone j ne;
    }

    on_with : (c : Configuration) (ls : List Line) (gs : List Activation) (o : Option Ran) → after_run (result i t (Stays gs) (picked c [])) (ls ++ []) o ≡ after_run c ls (option_map one_more o)
    on_with c ls gs None = refl
    on_with c ls gs (Some r) =
        let k : suc c.steps + r.made ≡ c.steps + suc r.made = omega arith in
        ap (λ ts. At (record (plain c) { threads = ts; stacks = slice_set (slice_set c.stacks t.stack (Active i gs)) t.stack r.stack; steps = suc c.steps + r.made }) ((ls ++ []) ++ r.says)) (set-set c.threads i (Some t) r.thread)
        ∙ ap (λ ss. At (record (plain c) { threads = slice_set c.threads i r.thread; stacks = ss; steps = suc c.steps + r.made }) ((ls ++ []) ++ r.says)) (set-set c.stacks t.stack (Active i gs) r.stack)
        ∙ ap (λ n. At (record (plain c) { threads = slice_set c.threads i r.thread; stacks = slice_set c.stacks t.stack r.stack; steps = n }) ((ls ++ []) ++ r.says)) k
        ∙ ap (λ ms. At (with_run c (one_more r)) (ms ++ r.says)) (append_nil ls)

    -- the thread returned from its last frame
    left : (n : ℕ) (c : Configuration) (ls : List Line) (fs : List Activation) (r : Ran) → Stood c fs → r.thread ≡ None → r.stack ≡ Dead → settled p globals os n (At (record (plain c) { threads = slice_set c.threads i None; stacks = slice_set c.stacks t.stack Dead; steps = suc c.steps }) ls)
        ≡ At (record (plain c) { threads = slice_set c.threads i None; stacks = slice_set c.stacks t.stack Dead; steps = suc c.steps }) ls
    left n c ls fs r h a b = settled_here n d ls (find_none (is_local p d) (runnable d) none)
      where
        d : Configuration
        d = record (plain c) { threads = slice_set c.threads i None; stacks = slice_set c.stacks t.stack Dead; steps = suc c.steps }

        none : (j : ℕ) → is_local p (record (plain c) { threads = slice_set c.threads i None; stacks = slice_set c.stacks t.stack Dead; steps = suc c.steps }) j ≡ false
        none j = elim (eqb_tells i j) [
          | inl q ↦
              let gone : slice_get (slice_set c.threads i None) j ≡ Some None = ap (slice_get (slice_set c.threads i None)) (sym q.1) ∙ get_within c.threads i None (slice_get_within c.threads i (Some t) h.thread) in
              ap (λ o. is_local_turn p (find (is_of j) c.waiters) (at_stack p (slice_set c.stacks t.stack Dead) j o)) gone ∙ no_turn (find (is_of j) c.waiters)
          | inr q ↦ other_local p c i t.stack j None Dead fs h.stack refl q.1 ∙ h.alone j (λ e. q.1 (sym e))
        ]
          where
            no_turn : (w : Option Waiter) → is_local_turn p w None ≡ false
            no_turn None = refl
            no_turn (Some w) = refl

    abbrev goes_by : ℕ → Configuration → List Line → Option Effect → Place
    goes_by n c ls x = settled p globals os n (comes p globals os ls (on x (λ e. Next (result i t e (picked c [])))))

    abbrev Runs : ℕ → Type 0
    Runs n = (c : Configuration) (ls : List Line) (fs : List Activation) → Stood c fs → settled p globals os n (At (plain c) ls) ≡ after_run c ls (local_run n fs)

    abbrev RunsBelow : ℕ → Type 0
    RunsBelow zero = Unit {0}
    RunsBelow (suc n) = Runs n

    moved_on : (n : ℕ) → Runs n → (c : Configuration) (ls : List Line) (fs : List Activation) → Stood c fs → (x : Option Effect) → goes_by n c ls x ≡ after_run c ls (runs_by (local_run n) x)
    unfolding on
    moved_on n ih c ls fs h None = settled_gone n
    moved_on n ih c ls fs h (Some (Stays gs)) = ih (result i t (Stays gs) (picked c [])) (ls ++ []) gs (stood_on c fs gs h) ∙ on_with c ls gs (local_run n gs)
    moved_on n ih c ls fs h (Some (Leaves vs)) =
        let k : suc c.steps ≡ c.steps + 1 = omega arith in
        left n c (ls ++ line_forms.Note (notes.Returned i vs) ∷ []) fs (record { thread = None; stack = Dead; made = 1; says = [] }) h refl refl
        ∙ ap (λ n. At (record (plain c) { threads = slice_set c.threads i None; stacks = slice_set c.stacks t.stack Dead; steps = n }) (ls ++ line_forms.Note (notes.Returned i vs) ∷ [])) k

    one_by_one : (n : ℕ) → RunsBelow n → Runs n
    one_by_one n below c ls fs h = by (is_local p c i) refl
      where
        turn_is : turn_of p c i ≡ turn_at p i t.stack fs
        turn_is = own_turn c fs h.thread h.stack

        rest_of : (n : ℕ) → local_effect (turn_at p i t.stack fs) ≡ None → Some (rests fs) ≡ local_run n fs
        rest_of zero e = sym (ap (runs_out fs) e)
        rest_of (suc n) e = sym (ap (runs_on (local_run n) fs) e)

        by_local : (n : ℕ) → RunsBelow n → Locals p c i → is_local p c i ≡ true → settled p globals os n (At (plain c) ls) ≡ after_run c ls (local_run n fs)
        by_local n below l e = goes n below
          where
            same_thread : l.t ≡ t
            same_thread = let both : Some (Some l.t) ≡ Some (Some t) = sym l.acts.thread ∙ h.thread in cc

            does : local_effect (turn_at p i t.stack fs) ≡ Some (effect p l.u l.a)
            does = ap local_effect (sym turn_is ∙ l.acts.turn) ∙ same_effect l.u l.a l.acts.act l.alone

            first : local_first p (plain c) ≡ Some i
            first = find_only (is_local p c) i (runnable c) h.alone e (local_runs p c i l)

            comes_to : client_answers p c.client (turns p (picked c []) i) ≡ on (effect p l.u l.a) (λ e. Next (result i t e (picked c [])))
            comes_to = local_comes p c i l ∙ ap (λ t. on (effect p l.u l.a) (λ e. Next (result i t e (picked c [])))) same_thread

            goes : (n : ℕ) → RunsBelow n → settled p globals os n (At (plain c) ls) ≡ after_run c ls (local_run n fs)
            goes zero below = ap (stays_at p globals os (plain c) ls) first ∙ sym (ap (λ o. after_run c ls (runs_out fs o)) does)
            goes (suc n) below =
                ap (goes_first p globals os (settled p globals os n) (plain c) ls) first
                ∙ ap (λ o. settled p globals os n (comes p globals os ls o)) comes_to
                ∙ moved_on n below c ls fs h (effect p l.u l.a)
                ∙ sym (ap (λ o. after_run c ls (runs_on (local_run n) fs o)) does)

        by : (b : Bool) → is_local p c i ≡ b → settled p globals os n (At (plain c) ls) ≡ after_run c ls (local_run n fs)
        by false e = rested n c ls fs h e ∙ ap (after_run c ls) (rest_of n (no_effect (turn_at p i t.stack fs) (sym (ap (λ w. is_local_turn p w (turn_of p c i)) h.awake ∙ ap (is_local_turn p None) turn_is) ∙ e)))
        by true e = by_local n below (locals p c i e) e

    -- The local steps from there are those of this thread, and come to what follows from its frames.
    pub ran : (n : ℕ) → Runs n
    ran zero c ls fs h = one_by_one zero tt c ls fs h
    ran (suc n) c ls fs h = one_by_one (suc n) (λ c ls fs h. ran n c ls fs h) c ls fs h
