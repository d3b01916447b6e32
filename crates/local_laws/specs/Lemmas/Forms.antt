-- What a local step does: it changes one stack, with the frames of its thread, or that thread is gone and its stack dead.
use Rattle.std.specs.Prelude.{◌≡◌, ◌<◌, ℕ, zero, suc, Bool, true, List, [], ◌∷◌, ◌++◌, Option, Some, None, length, find, slice_get, slice_set, refl, if◌then◌else◌}
use Rattle.std.proofs.Common.{sym, ◌∙◌, ap, arith, inl, inr}
use Rattle.std.proofs.lemmas.Bool.{false≢true}
use Rattle.std.proofs.lemmas.Bool.Decides.{eqb_tells}
use Rattle.mu_values.specs.Slots.{TypedValues}
use Rattle.typed_heap.specs.Places.{with_some}
use Rattle.frames.specs.Activations.{Value, Activation}
use Rattle.mu_model.specs.declared.lines.Line.{Line}
use Rattle.mu_model.specs.declared.lines.Line.TheVariants as lines
use Rattle.mu_model.specs.declared.lines.Note.TheVariants as notes
use Rattle.mu_model.specs.Types.{classes_given}
use Rattle.futex.specs.declared.waiters.Waiter.{Waiter}
use Rattle.mu_model.specs.Configuration.{Stack, Ready, Active, Dead, Thread, Configuration}
use Rattle.mu_model.specs.Acts as acts
use Rattle.mu_model.specs.Acts.{Act, Doing, Program}
use Rattle.mu_model.specs.Changes.{noted, frames_end}
use Rattle.mu_model.specs.Frames.{called, passed, arrived}
use Rattle.mu_model.specs.Turns.{Turn, turn_of, turn_at, active_on, waiting}
use Rattle.mu_model.specs.Outcomes.{Outcome, Next, on, onto, next, tried}
use Rattle.mu_model.specs.Exceptions.{returns, finishes, body_or_case}
use Rattle.futex.specs.Waiting.{is_of}
use Rattle.mu_model.specs.Step.{performed, turned, turns}
use Rattle.search_laws.specs.Local.{after, IsShut, Awake, Acts}
use Rattle.local_steps.specs.IsLocal.{has_block, has_no_objects, is_local_act, does_local_act, is_local_turn, is_local}

-- ---- what it does

pub data Effect : Type 0 where
  -- the thread has these frames
  Stays : List Activation → Effect
  -- the thread is gone, and returned these values
  Leaves : TypedValues → Effect

abbrev pub stays : Option (List Activation) → Option Effect
stays o = with_some o (λ fs. Some (Stays fs))

abbrev pub call_effect : Program → Turn → ℕ → List Value → Option (Option ℕ) → Option Effect
call_effect p u f vs (Some (Some b)) = stays (with_some (waiting u (classes_given p.tables f)) (λ w. Some (called p f vs b ∷ w ∷ u.below)))
call_effect p u f vs _ = None

abbrev pub return_effect : Program → TypedValues → List Activation → Option Effect
return_effect p vs [] = Some (Leaves vs)
return_effect p vs (f ∷ fs) = stays (with_some (passed p f vs.values) (λ g. Some (g ∷ fs)))

abbrev pub effect : Program → Turn → Act → Option Effect
effect p u (acts.Gives vs) = stays (with_some (passed p u.top vs) (onto u))
effect p u (acts.Goes g) = stays (onto u (arrived u.top g))
effect p u (acts.Calls f vs) = call_effect p u f vs (p.body f)
effect p u (acts.Returns vs) = return_effect p vs u.below
effect p u _ = None

abbrev pub thread_of : Thread → Effect → Option Thread
thread_of t (Stays fs) = Some t
thread_of t (Leaves vs) = None

abbrev pub stack_of : ℕ → Effect → Stack
stack_of i (Stays fs) = Active i fs
stack_of i (Leaves vs) = Dead

abbrev pub lines_of : ℕ → Effect → List Line
lines_of i (Stays fs) = []
lines_of i (Leaves vs) = lines.Note (notes.Returned i vs) ∷ []

abbrev pub result : ℕ → Thread → Effect → Configuration → Configuration
result i t e c = record (after i t.stack (thread_of t e) (stack_of i e) c) { lines = lines_of i e ++ c.lines }

pub is_shut : (i : ℕ) (e : Effect) → IsShut i (stack_of i e)
is_shut i (Stays fs) = refl
is_shut i (Leaves vs) = tt

-- ---- lists

pub set_there : {A : Type 0} (xs : List A) (a : ℕ) (v : A) → slice_get xs a ≡ Some v → slice_set xs a v ≡ xs
set_there [] a v h = refl
set_there (x ∷ xs) zero v h = let same : x ≡ v = cc in ap (λ v. v ∷ xs) (sym same)
set_there (x ∷ xs) (suc a) v h = ap (λ ys. x ∷ ys) (set_there xs a v h)

pub get_within : {A : Type 0} (xs : List A) (a : ℕ) (v : A) → a < length xs → slice_get (slice_set xs a v) a ≡ Some v
get_within [] a v l = absurd (omega (arith, l))
get_within (x ∷ xs) zero v l = refl
get_within (x ∷ xs) (suc a) v l = get_within xs a v (omega (arith, l))

pub on_some : {A : Type 0} (o : Option A) (a : A) (go : A → Outcome) → o ≡ Some a → on o go ≡ go a
unfolding on
on_some o a go e = ap (λ o. on o go) e

-- ---- the act

module _ (p : Program) (c : Configuration) (i : ℕ) (t : Thread) (u : Turn) (a : Act) (h : Acts p c i t u a) where
  abbrev goes_on : Option Effect → Outcome
  goes_on o = on o (λ e. Next (result i t e c))

  turns_act : turns p c i ≡ performed p c u a
  turns_act =
      on_some (turn_of p c i) u (turned p c (find (is_of i) c.waiters)) h.turn ∙ ap (λ w. turned p c w u) h.awake ∙ on_some u.doing.act a (performed p c u) h.act

  with_thread : (fs : List Activation) → Next (record c { stacks = slice_set c.stacks u.stack (Active u.thread fs) }) ≡ Next (after i t.stack (Some t) (Active i fs) c)
  with_thread fs =
      ap (λ j. Next (record c { stacks = slice_set c.stacks u.stack (Active j fs) })) h.own.0
      ∙ ap (λ k. Next (record c { stacks = slice_set c.stacks k (Active i fs) })) h.own.1
      ∙ ap (λ ts. Next (record c { threads = ts; stacks = slice_set c.stacks t.stack (Active i fs) })) (sym (set_there c.threads i (Some t) h.thread))

  next_stays : (o : Option (List Activation)) → next c u o ≡ goes_on (stays o)
  unfolding on
  next_stays None = refl
  next_stays (Some fs) = with_thread fs

  calls_so : (f : ℕ) (vs : List Value) (o : Option (Option ℕ)) → has_block o ≡ true
      → tried p c u (body_or_case o) (λ b. next c u (with_some (waiting u (classes_given p.tables f)) (λ w. Some (called p f vs b ∷ w ∷ u.below)))) ≡ goes_on (call_effect p u f vs o)
  unfolding on tried
  calls_so f vs None b = absurd (false≢true b)
  calls_so f vs (Some None) b = absurd (false≢true b)
  calls_so f vs (Some (Some block)) b = next_stays (with_some (waiting u (classes_given p.tables f)) (λ w. Some (called p f vs block ∷ w ∷ u.below)))

  -- frames without objects end nothing
  none_end : (d : Configuration) (f : Activation) → has_no_objects f.objects ≡ true → frames_end (f ∷ []) d ≡ d
  none_end d f e = by f.objects e
    where
      by : (ns : List ℕ) → has_no_objects ns ≡ true → frames_end (record f { objects = ns } ∷ []) d ≡ d
      by [] e = refl
      by (n ∷ ns) e = absurd (false≢true e)

  finishes_so : (vs : TypedValues) → has_no_objects u.top.objects ≡ true → u.below ≡ [] → finishes c u (notes.Returned u.thread vs) ≡ goes_on (Some (Leaves vs))
  unfolding on
  finishes_so vs none below =
      ap (λ fs. Next (noted (notes.Returned u.thread vs) (frames_end (u.top ∷ fs) ended))) below
      ∙ ap (λ d. Next (noted (notes.Returned u.thread vs) d)) (none_end ended u.top none)
      ∙ ap (λ j. Next (noted (notes.Returned j vs) (record c { threads = slice_set c.threads j None; stacks = slice_set c.stacks u.stack Dead }))) h.own.0
      ∙ ap (λ k. Next (noted (notes.Returned i vs) (record c { threads = slice_set c.threads i None; stacks = slice_set c.stacks k Dead }))) h.own.1
    where
      ended : Configuration
      ended = record c { threads = slice_set c.threads u.thread None; stacks = slice_set c.stacks u.stack Dead }

  returns_so : (vs : TypedValues) (below : List Activation) → u.below ≡ below → has_no_objects u.top.objects ≡ true → returns p c u vs below ≡ goes_on (return_effect p vs below)
  returns_so vs [] e none = finishes_so vs none e
  returns_so vs (f ∷ fs) e none =
      ap (λ d. next d u (with_some (passed p f vs.values) (λ g. Some (g ∷ fs)))) (none_end c u.top none) ∙ next_stays (with_some (passed p f vs.values) (λ g. Some (g ∷ fs)))

  performed_so : (b : Act) → is_local_act p u b ≡ true → performed p c u b ≡ goes_on (effect p u b)
  performed_so (acts.Gives vs) l = next_stays (with_some (passed p u.top vs) (onto u))
  performed_so (acts.Goes g) l = next_stays (onto u (arrived u.top g))
  performed_so (acts.Calls f vs) l = calls_so f vs (p.body f) l
  performed_so (acts.Returns vs) l = returns_so vs u.below refl l
  performed_so _ l = absurd (false≢true l)

  -- the turn of a thread whose act is local
  pub local_turns : is_local_act p u a ≡ true → turns p c i ≡ on (effect p u a) (λ e. Next (result i t e c))
  local_turns l = turns_act ∙ performed_so a l

-- ---- whose turn it is

-- the thread stands on its stack with these frames
pub record Turned (p : Program) (c : Configuration) (i : ℕ) (u : Turn) : Type 0 where
  pub t : Thread
  pub thread : slice_get c.threads i ≡ Some (Some t)
  pub stack : slice_get c.stacks t.stack ≡ Some (Active i (u.top ∷ u.below))
  pub own : (u.thread ≡ i) × (u.stack ≡ t.stack)

frames_at : (p : Program) (i k : ℕ) (fs : List Activation) (u : Turn) → turn_at p i k fs ≡ Some u → (fs ≡ u.top ∷ u.below) × (u.thread ≡ i) × (u.stack ≡ k)
frames_at p i k [] u e = cc
frames_at p i k (f ∷ fs) u e = by (p.doing f.block f.at f.vars) e
  where
    by : (o : Option Doing) → with_some o (λ d. Some (record { thread = i; stack = k; top = f; below = fs; doing = d })) ≡ Some u → (f ∷ fs ≡ u.top ∷ u.below) × (u.thread ≡ i) × (u.stack ≡ k)
    by None e = cc
    by (Some d) e =
        let same : record { thread = i; stack = k; top = f; below = fs; doing = d } ≡ u = cc in
        (ap (λ (u : Turn). u.top ∷ u.below) same, ap (λ (u : Turn). u.thread) (sym same), ap (λ (u : Turn). u.stack) (sym same))

pub turned_on : (p : Program) (c : Configuration) (i : ℕ) (u : Turn) → turn_of p c i ≡ Some u → Turned p c i u
turned_on p c i u e = threads (slice_get c.threads i) refl e
  where
    frames : (t : Thread) (s : Stack) → slice_get c.threads i ≡ Some (Some t) → slice_get c.stacks t.stack ≡ Some s → with_some (active_on i s) (turn_at p i t.stack) ≡ Some u → Turned p c i u
    frames t (Ready fs) at on e = cc
    frames t Dead at on e = cc
    frames t (Active j fs) at on e = elim (eqb_tells j i) [
      | inl q ↦
          let more : turn_at p i t.stack fs ≡ Some u = sym (ap (λ (b : Bool). with_some (if b then Some fs else None) (turn_at p i t.stack)) q.0) ∙ e in
          let r = frames_at p i t.stack fs u more in
          record { t = t; thread = at; stack = on ∙ ap (λ j. Some (Active j fs)) q.1 ∙ ap (λ fs. Some (Active i fs)) r.0; own = (r.1, r.2) }
      | inr q ↦
          let none : None ≡ Some u = sym (ap (λ (b : Bool). with_some (if b then Some fs else None) (turn_at p i t.stack)) q.0) ∙ e in
          cc
    ]

    stacks : (t : Thread) (o : Option Stack) → slice_get c.threads i ≡ Some (Some t) → slice_get c.stacks t.stack ≡ o → with_some o (λ s. with_some (active_on i s) (turn_at p i t.stack)) ≡ Some u → Turned p c i u
    stacks t None at on e = cc
    stacks t (Some s) at on e = frames t s at on e

    threads : (o : Option (Option Thread)) → slice_get c.threads i ≡ o → with_some o (λ (t : Option Thread). with_some t (λ (t : Thread). with_some (slice_get c.stacks t.stack) (λ s. with_some (active_on i s) (turn_at p i t.stack)))) ≡ Some u → Turned p c i u
    threads None at e = cc
    threads (Some None) at e = cc
    threads (Some (Some t)) at e = stacks t (slice_get c.stacks t.stack) at refl e

-- whose turn it is goes by the thread and its stack
pub turn_from : (p : Program) (c : Configuration) (i : ℕ) (t : Thread) (s : Stack) → slice_get c.threads i ≡ Some (Some t) → slice_get c.stacks t.stack ≡ Some s → turn_of p c i ≡ with_some (active_on i s) (turn_at p i t.stack)
turn_from p c i t s at on =
    ap (λ o. with_some o (λ (t : Option Thread). with_some t (λ (t : Thread). with_some (slice_get c.stacks t.stack) (λ s. with_some (active_on i s) (turn_at p i t.stack))))) at
    ∙ ap (λ o. with_some o (λ s. with_some (active_on i s) (turn_at p i t.stack))) on

-- ---- waiting

pub not_waiting : (i : ℕ) (ws : List Waiter) → find (is_of i) ws ≡ None → Awake i ws
not_waiting i [] e = tt
not_waiting i (w ∷ ws) e = elim (eqb_tells w.thread i) [
  | inl q ↦ let some : Some w ≡ None = sym (ap (λ (b : Bool). if b then Some w else find (is_of i) ws) q.0) ∙ e in cc
  | inr q ↦ (q.1, not_waiting i ws (sym (ap (λ (b : Bool). if b then Some w else find (is_of i) ws) q.0) ∙ e))
]

pub waits_not : (i : ℕ) (ws : List Waiter) → Awake i ws → find (is_of i) ws ≡ None
waits_not i [] a = refl
waits_not i (w ∷ ws) a = elim (eqb_tells w.thread i) [
  | inl q ↦ absurd (a.0 q.1)
  | inr q ↦ ap (λ (b : Bool). if b then Some w else find (is_of i) ws) q.0 ∙ waits_not i ws a.1
]

-- ---- a thread whose next step is local

pub record Locals (p : Program) (c : Configuration) (i : ℕ) : Type 0 where
  pub t : Thread
  pub u : Turn
  pub a : Act
  pub acts : Acts p c i t u a
  pub alone : is_local_act p u a ≡ true
  pub stack : slice_get c.stacks t.stack ≡ Some (Active i (u.top ∷ u.below))
  pub awake : Awake i c.waiters

pub locals : (p : Program) (c : Configuration) (i : ℕ) → is_local p c i ≡ true → Locals p c i
locals p c i e = by (find (is_of i) c.waiters) (turn_of p c i) refl refl e
  where
    by : (w : Option Waiter) (o : Option Turn) → find (is_of i) c.waiters ≡ w → turn_of p c i ≡ o → is_local_turn p w o ≡ true → Locals p c i
    by (Some w) o q r e = absurd (false≢true e)
    by None None q r e = absurd (false≢true e)
    by None (Some u) q r e = act u.doing.act refl e
      where
        act : (o : Option Act) → u.doing.act ≡ o → does_local_act p u o ≡ true → Locals p c i
        act None s e = absurd (false≢true e)
        act (Some a) s e =
            let h = turned_on p c i u r in
            record { t = h.t; u = u; a = a; acts = record { thread = h.thread; turn = r; awake = q; act = s; own = h.own }; alone = e; stack = h.stack; awake = not_waiting i c.waiters q }

-- where the thread and its stack are the same, and it does not wait, its step is local too
pub locals_kept : (p : Program) (c e : Configuration) (i : ℕ) (h : Locals p c i) → slice_get e.threads i ≡ Some (Some h.t) → slice_get e.stacks h.t.stack ≡ Some (Active i (h.u.top ∷ h.u.below)) → Awake i e.waiters
    → Acts p e i h.t h.u h.a
locals_kept p c e i h at on a =
    record {
      thread = at;
      turn = turn_from p e i h.t (Active i (h.u.top ∷ h.u.below)) at on ∙ sym (turn_from p c i h.t (Active i (h.u.top ∷ h.u.below)) h.acts.thread h.stack) ∙ h.acts.turn;
      awake = waits_not i e.waiters a;
      act = h.acts.act;
      own = h.acts.own;
    }

pub acts_local : (p : Program) (c : Configuration) (i : ℕ) (t : Thread) (u : Turn) (a : Act) → Acts p c i t u a → is_local_act p u a ≡ true → is_local p c i ≡ true
acts_local p c i t u a h l = ap (λ w. is_local_turn p w (turn_of p c i)) h.awake ∙ ap (is_local_turn p None) h.turn ∙ ap (does_local_act p u) h.act ∙ l
