-- Threads' own objects, and stacks that are made and killed.
use Rattle.std.specs.Prelude.{◌≡◌, ◌≢◌, ◌⊎◌, ◌≤◌, ◌<◌, ◌==◌, ℕ, zero, suc, true, List, [], ◌∷◌, ◌++◌, Option, Some, None, IsSomeAnd, length, slice_get, slice_set, option_map, refl}
use Rattle.std.proofs.Common.{sym, ◌∙◌, ap, subst, inl, inr, arith, length-append}
use Rattle.std.proofs.Math.ListN.{length-set}
use Rattle.std.proofs.lemmas.Bool.{cases_eq}
use Rattle.std.proofs.lemmas.List.Elements.{All-push, All-weaker}
use Rattle.mu_values.specs.declared.scalars.Scalar.{Scalar}
use Rattle.mu_values.specs.declared.scalars.Scalar.TheVariants as scalars
use Rattle.check_tables.specs.Types.{stackref}
use Rattle.mem_axioms.specs.EventFits.{is_thread}
use Rattle.mem_axioms.specs.declared.types.Kind.TheVariants as kinds
use Rattle.mu_model.specs.Acts as acts
use Rattle.frames.specs.Activations.{Activation}
use Rattle.model_laws.specs.Lemmas.Basics.{changed_set, first_same, set_cases, set_other, set_same, some_at, some_is, some_more, some_of}
use Rattle.model_laws.specs.Lemmas.Fitting.{Grows, globals_more, one_fits}
use Rattle.model_laws.specs.Lemmas.Growing.{below_more, logged_more, object_more, stack_more, stands_more, thread_more}
use Rattle.model_laws.specs.Lemmas.Keeps.{Going, world_set}
use Rattle.model_laws.specs.Lemmas.Moving.{PartsFit, parts_ended, parts_logged, parts_of, parts_stack, parts_thread, ready_fits, whole}
use Rattle.model_laws.specs.Lemmas.Turning.{Turned, body_fits, ended_grows, given_good, tried_good}
use Rattle.model_laws.specs.ActsFit.{ActFits}
use Rattle.model_laws.specs.FramesFit.{StackFits}
use Rattle.model_laws.specs.LogFits.{LoggedFits, ObjectFits}
use Rattle.model_laws.specs.Places.{Places}
use Rattle.model_laws.specs.Programs.{IsTyped}
use Rattle.model_laws.specs.ThreadsFit.{IsActiveOn, IsAtWait, IsOn, Owned, ThreadAtWait, ThreadFits, WaitersFit}
use Rattle.model_laws.specs.Values.{ValuesFit, world}
use Rattle.model_laws.specs.WellTyped.{GoesWell}
use Rattle.mu_model.specs.Acts.{Program}
use Rattle.mu_model.specs.Answers.{typed}
use Rattle.mu_model.specs.Changes.{logged, stack_becomes, stack_dies}
use Rattle.futex.specs.declared.waiters.Waiter.{Waiter}
use Rattle.mu_model.specs.Configuration.{Active, Configuration, Dead, Ready, Stack, Thread}
use Rattle.mu_model.specs.EnteringStacks.{kills_stack, makes_stack}
use Rattle.mu_model.specs.Frames.{fresh_frame}
use Rattle.mu_model.specs.Outcomes.{has_results, has_result}
use Rattle.mu_model.specs.Step.{performed, with_own}
use Rattle.mu_model.specs.Turns.{Turn}
use Rattle.mu_model.specs.Types.{type_graph}
use Rattle.typed_heap.specs.Fits.{World, fits}

owned_same : (ts : List (Option Thread)) (ss : List Stack) (i : ℕ) (th upon : Thread) → Owned ts ss → slice_get ts i ≡ Some (Some th) → upon.stack ≡ th.stack → Owned (slice_set ts i (Some upon)) ss
owned_same ts ss i th upon o there same = record {
  stacks = λ j t e. at j t (set_cases ts i j (Some upon) (Some t) e);
  threads = λ j k fs e. of j k (cases_eq i j) (o.threads j k fs e);
}
  where
    at : (j : ℕ) (t : Thread) → ((i ≡ j) × (Some t ≡ Some upon)) ⊎ ((i ≢ j) × (slice_get ts j ≡ Some (Some t))) → IsSomeAnd (slice_get ss t.stack) (IsActiveOn j)
    at j t (inl r) =
        let stack : t.stack ≡ th.stack = cc in
        subst (λ n. IsSomeAnd (slice_get ss n) (IsActiveOn j)) (sym stack) (o.stacks j th (ap (slice_get ts) (sym r.0) ∙ there))
    at j t (inr r) = o.stacks j t r.1

    of : (j k : ℕ) → (i ≡ j) ⊎ (i ≡ j → ⊥) → IsSomeAnd (slice_get ts j) (IsOn k) → IsSomeAnd (slice_get (slice_set ts i (Some upon)) j) (IsOn k)
    of j k (inl e) h =
        let old : th.stack ≡ k = some_at _ (IsOn k) (Some th) (ap (slice_get ts) (sym e) ∙ there) h in
        some_is _ (IsOn k) (Some upon) (ap (slice_get (slice_set ts i (Some upon))) (sym e) ∙ set_same ts i (Some upon) (Some th) there) (same ∙ old)
    of j k (inr n) h = subst (λ x. IsSomeAnd x (IsOn k)) (sym (set_other ts i j (Some upon) n)) h

owned_dead : (ts : List (Option Thread)) (ss : List Stack) (k : ℕ) (old : List Activation) → Owned ts ss → slice_get ss k ≡ Some (Ready old) → Owned ts (slice_set ss k Dead)
owned_dead ts ss k old o there = record {
  stacks = λ j t e. at j t.stack (cases_eq k t.stack) (o.stacks j t e);
  threads = λ j m gs e. of j m gs (set_cases ss k m Dead (Active j gs) e);
}
  where
    at : (j m : ℕ) → (k ≡ m) ⊎ (k ≡ m → ⊥) → IsSomeAnd (slice_get ss m) (IsActiveOn j) → IsSomeAnd (slice_get (slice_set ss k Dead) m) (IsActiveOn j)
    at j m (inl e) h = absurd (some_at _ (IsActiveOn j) (Ready old) there (subst (λ n. IsSomeAnd (slice_get ss n) (IsActiveOn j)) (sym e) h))
    at j m (inr n) h = subst (λ x. IsSomeAnd x (IsActiveOn j)) (sym (set_other ss k m Dead n)) h

    of : (j m : ℕ) (gs : List Activation) → ((k ≡ m) × (Active j gs ≡ Dead)) ⊎ ((k ≢ m) × (slice_get ss m ≡ Some (Active j gs))) → IsSomeAnd (slice_get ts j) (IsOn m)
    of j m gs (inl r) = absurd (subst (IsActiveOn j) r.1 refl)
    of j m gs (inr r) = o.threads j m gs r.1

-- ---- one more at the end

pub push_cases : {A : Type 0} (xs : List A) (a s : A) (j : ℕ) → slice_get (xs ++ a ∷ []) j ≡ Some s → (slice_get xs j ≡ Some s) ⊎ ((j ≡ length xs) × (s ≡ a))
push_cases [] a s zero e = inr (refl, cc)
push_cases [] a s (suc j) e = cc
push_cases (x ∷ xs) a s zero e = inl e
push_cases (x ∷ xs) a s (suc j) e = elim (push_cases xs a s j e) [ inl r ↦ inl r | inr r ↦ inr (ap suc r.0, r.1) ]

pub first_and : {A : Type 0} (xs ys : List A) (n : ℕ) (P : A → Type 0) → IsSomeAnd (slice_get xs n) P → IsSomeAnd (slice_get (xs ++ ys) n) P
first_and xs ys n P h = let r : (x : _) × (slice_get xs n ≡ Some x) × P x = some_of _ P h in some_is _ P r.0 (first_same xs ys n r.0 r.1) r.2

owned_more : (ts : List (Option Thread)) (ss : List Stack) (fs : List Activation) → Owned ts ss → Owned ts (ss ++ Ready fs ∷ [])
owned_more ts ss fs o = record {
  stacks = λ j t e. first_and ss (Ready fs ∷ []) t.stack (IsActiveOn j) (o.stacks j t e);
  threads = λ j m gs e. of j m gs (push_cases ss (Ready fs) (Active j gs) m e);
}
  where
    of : (j m : ℕ) (gs : List Activation) → (slice_get ss m ≡ Some (Active j gs)) ⊎ ((m ≡ length ss) × (Active j gs ≡ Ready fs)) → IsSomeAnd (slice_get ts j) (IsOn m)
    of j m gs (inl r) = o.threads j m gs r
    of j m gs (inr r) = absurd (subst (IsActiveOn j) r.1 refl)

waiters_more : (p : Program) (ts : List (Option Thread)) (ss rest : List Stack) (ws : List Waiter) → WaitersFit p ts ss ws → WaitersFit p ts (ss ++ rest) ws
waiters_more p ts ss rest [] h = tt
waiters_more p ts ss rest (w ∷ ws) h = (some_more _ (ThreadAtWait p ss w) (ThreadAtWait p (ss ++ rest) w) one h.0, h.1, waiters_more p ts ss rest ws h.2)
  where
    one : (o : Option Thread) → ThreadAtWait p ss w o → ThreadAtWait p (ss ++ rest) w o
    one None h = h
    one (Some t) h = first_and ss rest t.stack (IsAtWait p w) h

module _ (p : Program) (t : Places) (typed : IsTyped p t) where
  pub later_good : (v : World) (c d : Configuration) (u : Turn) (gs : List ℕ) (s : List (List Scalar)) → Grows (world p.tables c) (world p.tables d) → Going p t d u → Turned p t (world p.tables c) u → t.gives u.top.block u.top.at ≡ Some gs → ValuesFit (type_graph p.tables) (world p.tables d) gs s → GoesWell p t v (has_results p d u s)
  later_good v c d u gs s more g k gives fit = given_good p t typed v d u gs s g (stands_more p t (world p.tables c) (world p.tables d) more u.top k.top) (below_more p t (world p.tables c) (world p.tables d) more (t.results u.top.block) u.below k.below) gives fit

  pub sets_own_good : (v : World) (c : Configuration) (u : Turn) (r : Scalar) (th : Thread) → Going p t c u → Turned p t (world p.tables c) u → slice_get c.threads u.thread ≡ Some (Some th) → ActFits p t (world p.tables c) u.top.block u.top.at (acts.SetsOwn r) → GoesWell p t v (performed p c u (acts.SetsOwn r))
  sets_own_good v c u r th g k there h =
      let upon : Thread = record th { own = r } in
      let d = record c { threads = slice_set c.threads u.thread (Some upon) } in
      let long = length-set c.threads u.thread (Some upon) in
      let more : Grows (world p.tables c) (world p.tables d) = record { objects = λ n o e. some_is _ _ o e refl; signatures = refl; stacks = omega arith; threads = omega (arith, long) } in
      let fits = whole p t d (parts_thread p t c u.thread (Some upon) (parts_of p t c g.fits) g.awake h.0) (owned_same c.threads c.stacks u.thread th upon g.fits.owners there refl) (omega (arith, g.fits.most, long)) in
      subst (λ ts. GoesWell p t v (has_results p (record c { threads = ts }) u [])) (sym (changed_set (option_map (with_own r)) c.threads u.thread (Some th) there))
      (later_good v c d u [] [] more (record { fits = fits; frames = g.frames; there = g.there; awake = g.awake }) k h.1 tt)

  pub kills_stack_good : (v : World) (c : Configuration) (u : Turn) (s : Scalar) → Going p t c u → Turned p t (world p.tables c) u → ActFits p t (world p.tables c) u.top.block u.top.at (acts.KillsStack s) → GoesWell p t v (kills_stack p c u s)
  kills_stack_good v c u s g k h =
      tried_good p t typed v c u _ _ (λ x. slice_get c.stacks x.0 ≡ Some (Ready x.1)) g k (ready_fits p t typed c s h.0) (λ x same there. killed x.0 x.1 there)
    where
      killed : (n : ℕ) (fs : List Activation) → slice_get c.stacks n ≡ Some (Ready fs) → GoesWell p t v (has_results p (stack_dies n fs c) u [])
      killed n fs there =
          let e = stack_becomes n Dead c in
          let d = stack_dies n fs c in
          let more : Grows (world p.tables c) (world p.tables d) = subst (λ w. Grows w (world p.tables d)) (world_set p.tables c n Dead) (ended_grows p t typed e fs) in
          let parts = parts_ended p t e fs typed (parts_stack p t c n u.thread (Ready fs) Dead (parts_of p t c g.fits) there tt g.awake tt) in
          let stays = set_other c.stacks n u.stack Dead (λ same. other (slice_get c.stacks n) there (ap (slice_get c.stacks) same ∙ g.there)) ∙ g.there in
          later_good v c d u [] [] more (record { fits = whole p t d parts (owned_dead c.threads c.stacks n fs g.fits.owners there) g.fits.most; frames = g.frames; there = stays; awake = g.awake }) k h.1 tt
        where
          other : (o : Option Stack) → o ≡ Some (Ready fs) → o ≡ Some (Active u.thread g.frames) → ⊥
          other o a b = cc

  pub makes_stack_good : (v : World) (c : Configuration) (u : Turn) (f : ℕ) (th : Thread) → Going p t c u → Turned p t (world p.tables c) u → slice_get c.threads u.thread ≡ Some (Some th) → is_thread c.log u.thread ≡ true → ActFits p t (world p.tables c) u.top.block u.top.at (acts.MakesStack f) → GoesWell p t v (makes_stack p c u f)
  makes_stack_good v c u f th g k there known h =
      tried_good p t typed v c u _ _ (λ b. p.body f ≡ Some (Some b)) g k (body_fits p t typed f h.1) (λ b same at. made b at)
    where
      made : (b : ℕ) → p.body f ≡ Some (Some b) → GoesWell p t v (has_results p (logged u.thread (kinds.NewStack (length c.stacks)) (record c { stacks = c.stacks ++ Ready (fresh_frame p f b ∷ []) ∷ [] })) u ((scalars.Stack (length c.stacks) ∷ []) ∷ []))
      made b at =
          let fs = fresh_frame p f b ∷ [] in
          let e = record c { stacks = c.stacks ++ Ready fs ∷ [] } in
          let w = world p.tables c in
          let x = world p.tables e in
          let long = length-append c.stacks (Ready fs ∷ []) in
          let more : Grows w x = record { objects = λ n o q. some_is _ _ o q refl; signatures = refl; stacks = omega (arith, long); threads = omega arith } in
          let l = g.fits.log in
          let parts : PartsFit p t e = record {
            globals = globals_more p.tables w x more g.fits.globals;
            stacks = All-push (StackFits p t x) c.stacks (Ready fs) (All-weaker (StackFits p t w) (StackFits p t x) (λ s. stack_more p t w x more s) c.stacks g.fits.stacks) (record { function = f; entry = at; first = refl; values = refl; waits = refl; handler = refl; kept = refl }, tt);
            objects = All-weaker (ObjectFits (type_graph p.tables) w) (ObjectFits (type_graph p.tables) x) (λ o. object_more p t w x more o) c.objects g.fits.objects;
            log = record { events = All-weaker (LoggedFits (type_graph p.tables) w) (LoggedFits (type_graph p.tables) x) (λ q. logged_more p t w x more q) c.log l.events; sound = l.sound; follows = l.follows; threads = l.threads };
            threads = All-weaker (ThreadFits p.tables w) (ThreadFits p.tables x) (λ o. thread_more p t w x more o) c.threads g.fits.threads;
            waiters = waiters_more p c.threads c.stacks (Ready fs ∷ []) c.waiters g.fits.waiters;
            client = g.fits.client;
            steps = g.fits.steps;
          } in
          let d = logged u.thread (kinds.NewStack (length c.stacks)) e in
          let all = parts_logged p t e u.thread (kinds.NewStack (length c.stacks)) parts tt known in
          later_good v c d u _ _ more
          (record { fits = whole p t d all (owned_more c.threads c.stacks fs g.fits.owners) g.fits.most; frames = g.frames; there = first_same c.stacks (Ready fs ∷ []) u.stack (Active u.thread g.frames) g.there; awake = g.awake })
          k h.0 (one_fits (type_graph p.tables) x (stackref p.tables.types) (scalars.Stack (length c.stacks)) typed.types.stackref.leaf (some_is _ _ _ typed.types.stackref.definition (omega (arith, long))))
