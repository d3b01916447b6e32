-- How much a step adds.
use Rattle.std.specs.Prelude.{◌≡◌, ◌≤◌, ◌+◌, ℕ, zero, suc, Bool, true, false, nat_le, List, [], ◌∷◌, ◌++◌, Option, Some, None, All, Result, Ok, Err, length, fold, flat_map, slice_get, bytes_eq, refl, if◌then◌else◌}
use Rattle.std.proofs.Common.{sym, ◌∙◌, ap, arith, length-append}
use Rattle.std.proofs.Math.ListN.{length-set}
use Rattle.std.proofs.lemmas.List.Elements.{All-set, All-push}
use Rattle.mu_values.specs.declared.scalars.Scalar.{Scalar}
use Rattle.mu_values.specs.declared.scalars.Scalar.TheVariants as scalars
use Rattle.mem_axioms.specs.declared.types.Kind.{Kind}
use Rattle.mem_axioms.specs.declared.types.Kind.TheVariants as kinds
use Rattle.mem_axioms.specs.Choices.{choices}
use Rattle.mem_axioms.specs.declared.types.Chosen.{Chosen}
use Rattle.mu_base.specs.declared.order.Order.TheVariants.{Relaxed}
use Rattle.mu_values.specs.SameScalar.{same_scalar}
use Rattle.mu_values.specs.declared.cells.CellId.{CellId}
use Rattle.mem_axioms.specs.Races.{race}
use Rattle.mu_model.specs.Acts as acts
use Rattle.mu_model.specs.Clients as clients
use Rattle.frames.specs.Activations.{Activation, Goal, Value}
use Rattle.model_laws.specs.Lemmas.Keeps.{at_place}
use Rattle.model_laws.specs.Bounds.{depth}
use Rattle.mu_model.specs.Accesses.{access_results, accessed, accesses_cell, initial, kind_of, raced, wanted}
use Rattle.mu_model.specs.Acts.{Access, Entering, Misfits, Passes, Program, ThrowsInto}
use Rattle.mu_threads.specs.Picks.{pick}
use Rattle.mu_model.specs.Changes.{changed, event, frames_end, logged, noted, stack_becomes, stack_dies, thread_changes}
use Rattle.mu_model.specs.Clients.{Answer, Classed, Exit, Rebind, Reply, Resume, With}
use Rattle.futex.specs.declared.waiters.Waiter.{Waiter}
use Rattle.mu_model.specs.Configuration.{Active, Configuration, Dead, Ready, Stack}
use Rattle.mu_model.specs.EnteringStacks.{values_entered, entered, entering, enters, kills_stack, swaps_killing, leaving, makes_stack, most_threads, on_stack, ready, ready_at, started, starts, swaps}
use Rattle.mu_model.specs.Exceptions.{EnteredFrames, calls, finishes, returns, throws, unwinding}
use Rattle.model_laws.specs.Unwinding.{caught_by, unwinding_more}
use Rattle.mu_model.specs.Frames.{arrived, called, caught, fresh_frame, passed}
use Rattle.mu_model.specs.Objects.{object_added, asks_cells}
use Rattle.mu_model.specs.Operands.{scalar_in}
use Rattle.mu_model.specs.Outcomes.{Asks, End, Next, Outcome, Stuck, excepted, faulted, has_results, has_result, next, on, onto, refused, tried, unless_refused}
use Rattle.mu_model.specs.Edits.{edited}
use Rattle.model_laws.specs.Lemmas.Editing.{edited_depth}
use Rattle.mu_model.specs.Traps.{answered, edits, chooses, entering_of, enters_by, goes, is_watched, replied, taken, trap_note, trapped, meets_watchpoint}
use Rattle.mu_model.specs.Turns.{Turn, waiting}
use Rattle.mu_model.specs.Types.{type_graph, classes_given}
use Rattle.futex.specs.Waiting.{without}
use Rattle.mu_model.specs.Waiting.{found_another, futex_waits, times_out, waits_at}
use Rattle.mu_model.specs.declared.endings.Case.{Case}
use Rattle.mu_model.specs.declared.endings.Case.TheVariants.{DivideByZero, NullAccess, StackTypes}
use Rattle.mu_model.specs.declared.endings.Ending.{Ending}
use Rattle.mu_model.specs.declared.endings.Ending.TheVariants.{HeapFull, ThreadsFull}
use Rattle.mu_model.specs.declared.lines.Note.{Note}
use Rattle.mu_model.specs.declared.lines.Note.TheVariants.{Returned, TimedOut}
use Rattle.mu_values.specs.Slots.{TypedValues}
use Rattle.typed_heap.specs.Objects.{HeapObject, killed, object_of}
use Rattle.typed_heap.specs.Places.{with_some}

-- what holds of each configuration that an outcome may go on with
abbrev pub Every : (Configuration → Type 0) → Outcome → Type 0
Every P (Next c) = P c
Every P (End ls e) = Unit {0}
Every P (Asks view go) = (a : Option Answer) → Every P (go a)
Every P Stuck = Unit {0}

pub every_on : {A : Type 0} (P : Configuration → Type 0) (o : Option A) (go : A → Outcome) → ((a : A) → o ≡ Some a → Every P (go a)) → Every P (on o go)
unfolding on
every_on P None go h = tt
every_on P (Some a) go h = h a refl

killed_length : (os : List HeapObject) (n : ℕ) → length (changed killed n os) ≡ length os
killed_length [] n = refl
killed_length (o ∷ os) zero = refl
killed_length (o ∷ os) (suc n) = ap suc (killed_length os n)

ended_length : (os : List HeapObject) (ns : List ℕ) → length (fold (λ qs n. changed killed n qs) os ns) ≡ length os
ended_length os [] = refl
ended_length os (n ∷ ns) = ended_length (changed killed n os) ns ∙ killed_length os n

-- ---- frames that are entered are no more than those that were there

unwinding_depth : (p : Program) (e : Scalar) (fs : List Activation) (r : EnteredFrames) → unwinding p e fs ≡ Some (Ok r) → length r.frames ≤ length fs
unwinding_depth p e [] r q = cc
unwinding_depth p e (f ∷ fs) r q = by f.handler (unwinding p e fs) (sym (unwinding_more p e f fs) ∙ q) (unwinding_depth p e fs)
  where
    arrives : (o : Option Activation) → with_some {B = Result EnteredFrames Case} o (λ h. Some (Ok (record { frames = h ∷ fs; ended = [] }))) ≡ Some (Ok r) → length r.frames ≤ suc (length fs)
    arrives None q = cc
    arrives (Some h) q = let same : h ∷ fs ≡ r.frames = cc in omega (arith, ap length same)

    by : (o : Option Goal) (lower : Option (Result EnteredFrames Case)) → caught_by p e f fs o lower ≡ Some (Ok r) → ((x : EnteredFrames) → lower ≡ Some (Ok x) → length x.frames ≤ length fs) → length r.frames ≤ suc (length fs)
    by (Some g) lower q rest = arrives (caught p f g e) q
    by None None q rest = cc
    by None (Some (Err k)) q rest = cc
    by None (Some (Ok x)) q rest = let same : x.frames ≡ r.frames = cc in omega (arith, ap length same, rest x refl)

bound_depth : (p : Program) (f : Activation) (fs : List Activation) (cs : List ℕ) (vs : List Value) (r : EnteredFrames) → values_entered p f fs cs vs ≡ Some (Ok r) → length r.frames ≤ suc (length fs)
bound_depth p f fs cs vs r q = by (bytes_eq cs f.waits) (passed p f vs) q
  where
    by : (b : Bool) (o : Option Activation) → (if b then with_some {B = Result EnteredFrames Case} o (λ g. Some (Ok (record { frames = g ∷ fs; ended = [] }))) else Some (Err StackTypes)) ≡ Some (Ok r) → length r.frames ≤ suc (length fs)
    by true None q = cc
    by true (Some g) q = let same : g ∷ fs ≡ r.frames = cc in omega (arith, ap length same)
    by false o q = cc

entered_depth : (p : Program) (fs : List Activation) (e : Entering) (r : EnteredFrames) → entered p fs e ≡ Some (Ok r) → length r.frames ≤ length fs
entered_depth p [] (Passes cs vs) r q = cc
entered_depth p (f ∷ fs) (Passes cs vs) r q = bound_depth p f fs cs vs r q
entered_depth p [] (ThrowsInto e) r q = unwinding_depth p e [] r q
entered_depth p (f ∷ fs) (ThrowsInto e) r q = unwinding_depth p e (f ∷ fs) r q
entered_depth p [] Misfits r q = cc
entered_depth p (f ∷ fs) Misfits r q = cc

pub ready_is : (ss : List Stack) (s : Scalar) (x : ℕ × List Activation) → ready ss s ≡ Some (Ok x) → slice_get ss x.0 ≡ Some (Ready x.1)
ready_is ss (scalars.Stack k) x q = by (slice_get ss k) refl q
  where
    by : (o : Option Stack) → slice_get ss k ≡ o → with_some o (λ s. Some (ready_at k s)) ≡ Some (Ok x) → slice_get ss x.0 ≡ Some (Ready x.1)
    by None e q = cc
    by (Some (Ready fs)) e q = let n : k ≡ x.0 = cc in let same : fs ≡ x.1 = cc in ap (slice_get ss) (sym n) ∙ e ∙ ap (λ gs. Some (Ready gs)) same
    by (Some (Active j fs)) e q = cc
    by (Some Dead) e q = cc
ready_is ss scalars.Null x q = cc
ready_is ss _ x q = cc

onto_depth : (u : Turn) (o : Option Activation) (now : List Activation) → with_some o (onto u) ≡ Some now → length now ≡ suc (length u.below)
onto_depth u None now q = cc
onto_depth u (Some f) now q = let same : f ∷ u.below ≡ now = cc in ap length (sym same)

-- ---- what is added to a configuration, whose stacks have so many frames at most

module _ (p : Program) (b : Configuration) (n : ℕ) where
  abbrev pub Within : ℕ → ℕ → ℕ → Configuration → Type 0
  Within e o s d =
      (d.steps ≡ b.steps) × (d.budget ≡ b.budget) × (length d.log ≤ length b.log + e) × (length d.objects ≤ length b.objects + o) × (length d.stacks ≤ length b.stacks + s)
      × All (λ x. depth x ≤ n) d.stacks

  abbrev pub Done : Configuration → Type 0
  Done d = Within 66 1 1 d

  pub loosen : (d : Configuration) (e o s : ℕ) → e ≤ 66 → o ≤ 1 → s ≤ 1 → Within e o s d → Done d
  loosen d e o s he ho hs h = (h.0, h.1, omega (arith, h.2, he), omega (arith, h.3, ho), omega (arith, h.4, hs), h.5)

  pub stack_within : (d : Configuration) (e o s k : ℕ) (x : Stack) → Within e o s d → depth x ≤ n → Within e o s (stack_becomes k x d)
  stack_within d e o s k x h few = (h.0, h.1, h.2, h.3, omega (arith, h.4, length-set d.stacks k x), All-set (λ x. depth x ≤ n) d.stacks k x few h.5)

  pub logged_within : (d : Configuration) (e o s i : ℕ) (k : Kind) → Within e o s d → Within (suc e) o s (logged i k d)
  logged_within d e o s i k h = (h.0, h.1, omega (arith, h.2), h.3, h.4, h.5)

  pub ended_within : (d : Configuration) (e o s : ℕ) (fs : List Activation) → Within e o s d → Within e o s (frames_end fs d)
  ended_within d e o s fs h = (h.0, h.1, h.2, omega (arith, h.3, ended_length d.objects (flat_map (λ (f : Activation). f.objects) fs)), h.4, h.5)

  pub dies_within : (d : Configuration) (e o s k : ℕ) (fs : List Activation) → Within e o s d → Within e o s (stack_dies k fs d)
  dies_within d e o s k fs h = ended_within (stack_becomes k Dead d) e o s fs (stack_within d e o s k Dead h (omega arith))

  pub enters_within : (d : Configuration) (e o s i k : ℕ) (r : EnteredFrames) → Within e o s d → length r.frames ≤ n → Within (suc e) o s (enters i k r d)
  enters_within d e o s i k r h few =
      let c1 = thread_changes i (on_stack k) d in
      let c2 = stack_becomes k (Active i r.frames) c1 in
      ended_within (logged i (kinds.Enter k) c2) (suc e) o s r.ended (logged_within c2 e o s i (kinds.Enter k) (stack_within c1 e o s k (Active i r.frames) h few))

  -- ---- outcomes

  pub next_done : (d : Configuration) (u : Turn) (fs : Option (List Activation)) → Done d → ((now : List Activation) → fs ≡ Some now → length now ≤ n) → Every Done (next d u fs)
  next_done d u fs h few = every_on Done fs _ (λ now q. stack_within d 66 1 1 u.stack (Active u.thread now) h (few now q))

  module _ (u : Turn) (low : suc (suc (length u.below)) ≤ n) where
    pub onto_done : (d : Configuration) (o : Option Activation) → Done d → Every Done (next d u (with_some o (onto u)))
    onto_done d o h = next_done d u (with_some o (onto u)) h (λ now q. omega (arith, onto_depth u o now q, low))

    pub given_done : (d : Configuration) (vs : List Value) → Done d → Every Done (has_results p d u vs)
    given_done d vs h = onto_done d (passed p u.top vs) h

    pub faulted_done : (d : Configuration) (e : Ending) → Done d → Every Done (faulted p d u e)
    faulted_done d e h = every_on Done u.doing.exceptional _ (λ o q. by o)
      where
        by : (o : Option Goal) → Every Done (excepted p d u e o)
        by None = tt
        by (Some g) = onto_done d (caught p u.top g scalars.Null) h

    pub refused_done : (d : Configuration) (k : Case) → Done d → Every Done (refused p d u k)
    refused_done d DivideByZero h = faulted_done d _ h
    refused_done d NullAccess h = faulted_done d _ h
    refused_done d _ h = tt

    pub tried_done : {A : Type 0} (d : Configuration) (o : Option (Result A Case)) (go : A → Outcome) → Done d → ((a : A) → o ≡ Some (Ok a) → Every Done (go a)) → Every Done (tried p d u o go)
    unfolding tried
    tried_done {A} d o go h good = every_on Done o _ by
      where
        by : (r : Result A Case) → o ≡ Some r → Every Done (unless_refused p d u go r)
        by (Err k) q = refused_done d k h
        by (Ok a) q = good a q

    pub entering_done : (d : Configuration) (s : Scalar) (e : Entering) (go : ℕ → EnteredFrames → Outcome) → Done d → ((k : ℕ) (r : EnteredFrames) → length r.frames ≤ n → Every Done (go k r)) → Every Done (entering p d u s e go)
    entering_done d s e go h good =
        tried_done d (ready d.stacks s) _ h (λ x q.
        tried_done d (entered p x.1 e) _ h (λ r q'.
        let few : length x.1 ≤ n = at_place (λ x. depth x ≤ n) d.stacks x.0 (Ready x.1) h.5 (ready_is d.stacks s x q) in
        good x.0 r (omega (arith, entered_depth p x.1 e r q', few))))

    -- ---- acts

    module _ (start : Within 0 0 0 b) (few : length b.waiters ≤ 64) where
      abbrev pub here : Done b
      here = loosen b 0 0 0 (omega arith) (omega arith) (omega arith) start

      pub goes_done : (g : Goal) → Every Done (goes b u g)
      goes_done g = onto_done b (Some (arrived u.top g)) here

      pub calls_done : (f : ℕ) (vs : List Value) → Every Done (calls p b u f vs)
      calls_done f vs = tried_done b _ _ here (λ k q. next_done b u _ here (λ now r. by k (waiting u (classes_given p.tables f)) now r))
        where
          by : (k : ℕ) (o : Option Activation) (now : List Activation) → with_some o (λ w. Some (called p f vs k ∷ w ∷ u.below)) ≡ Some now → length now ≤ n
          by k None now r = cc
          by k (Some w) now r = let same : called p f vs k ∷ w ∷ u.below ≡ now = cc in omega (arith, ap length same, low)

      pub finishes_done : (m : Note) → Every Done (finishes b u m)
      finishes_done m = loosen (stack_dies u.stack (u.top ∷ u.below) b) 0 0 0 (omega arith) (omega arith) (omega arith) (dies_within b 0 0 0 u.stack (u.top ∷ u.below) start)

      pub returns_done : (vs : TypedValues) → Every Done (returns p b u vs u.below)
      returns_done vs = by u.below low
        where
          deep : (f : Activation) (fs now : List Activation) (o : Option Activation) → suc (suc (length (f ∷ fs))) ≤ n → with_some o (λ g. Some (g ∷ fs)) ≡ Some now → length now ≤ n
          deep f fs now None l q = cc
          deep f fs now (Some g) l q = let same : g ∷ fs ≡ now = cc in omega (arith, ap length same, l)

          by : (fs : List Activation) → suc (suc (length fs)) ≤ n → Every Done (returns p b u vs fs)
          by [] l = finishes_done (Returned u.thread vs)
          by (f ∷ fs) l = next_done (frames_end (u.top ∷ []) b) u _ (ended_within b 66 1 1 (u.top ∷ []) here) (λ now q. deep f fs now (passed p f vs.values) l q)

      pub throws_done : (e : Scalar) → Every Done (throws p b u e)
      throws_done e = tried_done b _ _ here (λ r q. next_done (frames_end r.ended b) u (Some r.frames) (ended_within b 66 1 1 r.ended here) (λ now s.
          let same : r.frames ≡ now = cc in omega (arith, ap length same, unwinding_depth p e (u.top ∷ u.below) r q, low)))

      pub added_done : (cs : List ℕ) → Done (object_added p b cs)
      added_done cs = (start.0, start.1, omega (arith, start.2), omega (arith, start.3, length-append b.objects (object_of (type_graph p.tables) cs ∷ [])), omega (arith, start.4), start.5)

      pub asks_done : (m : ℕ) (go : Outcome) → Every Done go → Every Done (asks_cells p b u m go)
      asks_done m go h = by (nat_le m b.cells)
        where
          by : (x : Bool) → Every Done (if x then go else faulted p b u (HeapFull u.thread m b.cells))
          by true = h
          by false = faulted_done b (HeapFull u.thread m b.cells) here

      pub raced_done : (d : Configuration) (k : Kind) (fs : List Activation) (r : Option ℕ) → Within 0 0 0 d → length fs ≤ n → Every Done (raced d u (event u.thread k) fs r)
      raced_done d k fs (Some m) h l = tt
      raced_done d k fs None h l =
          next_done (logged u.thread k d) u (Some fs) (loosen (logged u.thread k d) 1 0 0 (omega arith) (omega arith) (omega arith) (logged_within d 0 0 0 u.thread k h)) (λ now q. let same : fs ≡ now = cc in omega (arith, ap length same, l))

      pub accessed_done : (d : Configuration) (k : Option Kind) (o : Option Activation) → Within 0 0 0 d → Every Done (accessed d u k (with_some o (onto u)))
      accessed_done d k o h =
          every_on Done k _ (λ x q. every_on Done (with_some o (onto u)) _ (λ fs r. raced_done d x fs (race d.rule d.log (event u.thread x)) h (omega (arith, onto_depth u o fs r, low))))

      pub accesses_done : (a : Access) (cell : CellId) → Every Done (accesses_cell p b u a cell)
      accesses_done a cell =
          tried_done b _ _ here (λ at q.
          every_on Done _ _ (λ k r. accessed_done (record b { picks = (pick (length (choices b.rule (initial b) b.log u.thread at (wanted a))) b.picks).1 }) (kind_of a at k) (passed p u.top (access_results a k)) start))

      left_within : (f : Activation) → Within 1 0 0 (leaving u f b)
      left_within f = logged_within (stack_becomes u.stack (Ready (f ∷ u.below)) b) 0 0 0 u.thread (kinds.Leave u.stack) (stack_within b 0 0 0 u.stack (Ready (f ∷ u.below)) start (omega (arith, low)))

      pub enters_done : (d : Configuration) (s : Scalar) (e : Entering) (go : Configuration) → Done d → Within 1 0 0 go → Every Done (entering p d u s e (λ k r. Next (enters u.thread k r go)))
      enters_done d s e go h w = entering_done d s e _ h (λ k r l. loosen (enters u.thread k r go) 2 0 0 (omega arith) (omega arith) (omega arith) (enters_within go 1 0 0 u.thread k r w l))

      pub swaps_done : (s : Scalar) (cs : List ℕ) (e : Entering) → Every Done (swaps p b u s cs e)
      swaps_done s cs e = every_on Done (waiting u cs) _ (λ f q. enters_done b s e (leaving u f b) here (left_within f))

      pub leaves_done : (s : Scalar) (e : Entering) → Every Done (swaps_killing p b u s e)
      leaves_done s e =
          let w = dies_within b 0 0 0 u.stack (u.top ∷ u.below) start in
          enters_done b s e (stack_dies u.stack (u.top ∷ u.below) b) here (w.0, w.1, omega (arith, w.2), w.3, w.4, w.5)

      pub starts_done : (s own : Scalar) (e : Entering) → Every Done (starts p b u s own e)
      starts_done s own e = by (nat_le most_threads (length b.threads))
        where
          by : (x : Bool) → Every Done (if x then faulted p b u (ThreadsFull u.thread) else entering p b u s e (λ k r. has_result p (started b u own k r) u (scalars.Thread (length b.threads))))
          by true = faulted_done b (ThreadsFull u.thread) here
          by false = entering_done b s e _ here (λ k r l.
              let d = logged u.thread (kinds.NewThread (length b.threads)) (record b { threads = b.threads ++ Some (record { stack = k; own = own }) ∷ [] }) in
              given_done (started b u own k r) _ (loosen (started b u own k r) 2 0 0 (omega arith) (omega arith) (omega arith)
              (enters_within d 1 0 0 (length b.threads) k r (logged_within (record b { threads = b.threads ++ Some (record { stack = k; own = own }) ∷ [] }) 0 0 0 u.thread (kinds.NewThread (length b.threads)) start) l)))

      pub makes_stack_done : (f : ℕ) → Every Done (makes_stack p b u f)
      makes_stack_done f = tried_done b _ _ here (λ k q.
          let new : Stack = Ready (fresh_frame p f k ∷ []) in
          given_done (logged u.thread (kinds.NewStack (length b.stacks)) (record b { stacks = b.stacks ++ new ∷ [] })) _
          (start.0, start.1, omega (arith, start.2), omega (arith, start.3), omega (arith, start.4, length-append b.stacks (new ∷ [])), All-push (λ x. depth x ≤ n) b.stacks new start.5 (omega (arith, low))))

      pub kills_done : (s : Scalar) → Every Done (kills_stack p b u s)
      kills_done s = tried_done b _ _ here (λ r q. given_done (stack_dies r.0 r.1 b) [] (dies_within b 66 1 1 r.0 r.1 here))

      -- ---- traps

      pub enters_by_done : (d : Configuration) (s : Scalar) (a : With TypedValues Classed) → Within 1 0 0 d → Every Done (enters_by p d u s a)
      enters_by_done d s a h = every_on Done (entering_of p.tables a) _ (λ e q. enters_done d s e d (loosen d 1 0 0 (omega arith) (omega arith) (omega arith) h) h)

      pub replied_done : (d : Configuration) (a : Reply TypedValues Classed) → Within 1 0 0 d → Every Done (replied p d u a)
      replied_done d (Resume w) h = enters_by_done d (scalars.Stack u.stack) w h
      replied_done d (Rebind x w) h = every_on Done (scalar_in (Some x.1)) _ (λ s q. enters_by_done d s w h)
      replied_done d Exit h = loosen d 1 0 0 (omega arith) (omega arith) (omega arith) h
      replied_done d clients.Stop h = tt

      pub answered_done : (d : Configuration) (fs : List Activation) (a : Option Answer) → suc (length fs) ≤ n → Within 1 0 0 d → Every Done (answered p d u fs a)
      answered_done d fs None few h = tt
      answered_done d fs (Some a) few h =
          tried_done (taken a d) (edited p a.edit fs) _ (loosen d 1 0 0 (omega arith) (omega arith) (omega arith) h) (λ r q.
          replied_done (edits u r (taken a d)) a.reply
          (ended_within (stack_becomes u.stack (Ready r.frames) (taken a d)) 1 0 0 r.ended (stack_within (taken a d) 1 0 0 u.stack (Ready r.frames) h (omega (arith, few, edited_depth p a.edit fs r q)))))

      pub trapped_done : (m : Option ℕ) (cs : List ℕ) → Every Done (trapped p b u m cs)
      trapped_done m cs = every_on Done (waiting u cs) _ (λ f q a. answered_done (noted (trap_note u m) (leaving u f b)) (f ∷ u.below) a low (left_within f))

      pub watches_done : (m : ℕ) (cs : List ℕ) (g : Goal) → Every Done (meets_watchpoint p b u m cs g)
      watches_done m cs g = by (is_watched m b.watched)
        where
          by : (x : Bool) → Every Done (if x then trapped p b u (Some m) cs else goes b u g)
          by true = trapped_done (Some m) cs
          by false = goes_done g

      pub chooses_done : (m : ℕ) (g h : Goal) → Every Done (chooses b u m g h)
      chooses_done m g h = by (is_watched m b.watched)
        where
          by : (x : Bool) → Every Done (if x then goes b u h else goes b u g)
          by true = goes_done h
          by false = goes_done g

      -- ---- waits and wakes

      pub waits_done : (timed : Bool) (y : Scalar) (cell : CellId) → Every Done (futex_waits p b u timed y cell)
      waits_done timed y cell = tried_done b _ _ here (λ at q. every_on Done _ _ (λ k r. by at k (same_scalar k.value y)))
        where
          by : (at : CellId) (k : Chosen) (x : Bool) → Every Done (if x then accessed (waits_at u timed at b) u (kind_of (acts.Loads Relaxed) at k) (onto u u.top) else accessed b u (kind_of (acts.Loads Relaxed) at k) (with_some (passed p u.top ((found_another ∷ []) ∷ [])) (onto u)))
          by at k true = accessed_done (waits_at u timed at b) (kind_of (acts.Loads Relaxed) at k) (Some u.top) start
          by at k false = accessed_done b (kind_of (acts.Loads Relaxed) at k) (passed p u.top ((found_another ∷ []) ∷ [])) start

      pub times_out_done : (w : Waiter) → Every Done (times_out p b u w)
      times_out_done w = given_done (noted (TimedOut u.thread w.cell) (record b { waiters = without (w ∷ []) b.waiters })) _ here
