-- An access of memory is good: it has an option, whose value fits, and its event fits the log.
use Rattle.std.specs.Prelude.{◌≡◌, ◌≢◌, ◌⊎◌, ◌≤◌, ◌<◌, ◌%◌, ◌^◌, ℕ, suc, Bool, true, false, nat_le, List, [], ◌∷◌, ◌++◌, Option, Some, None, IsSomeAnd, length, slice_get, map, Ok, Err, IfOk, refl, if◌then◌else◌}
use Rattle.std.proofs.Common.{sym, ◌∙◌, ap, subst, arith}
use Rattle.std.proofs.Math.Nat.{mod-lt}
use Rattle.std.proofs.lemmas.Bool.Decides.{nat_tests}
use Rattle.mu_values.specs.declared.scalars.Scalar.TheVariants.{Int}
use Rattle.mu_values.specs.declared.cells.CellId.{CellId}
use Rattle.check_tables.specs.Types.{int1}
use Rattle.mem_axioms.specs.declared.types.Kind.{Kind}
use Rattle.mem_axioms.specs.declared.types.Kind.TheVariants as kinds
use Rattle.mem_axioms.specs.declared.types.Mode.TheVariants.{Read, Update}
use Rattle.mem_axioms.specs.declared.types.Chosen.{Chosen}
use Rattle.mem_axioms.specs.Races.{race}
use Rattle.mem_axioms.specs.Logs.{newest}
use Rattle.mem_axioms.specs.Choices.{choices, is_option}
use Rattle.mem_axioms.specs.EventFits.{is_thread, EventFits}
use Rattle.mem_axioms.specs.OptionTheorems.{ChoiceStands}
use Rattle.mem_axioms.specs.Lemmas.Options.{choices-some, choice-stands}
use Rattle.std.specs.Prelude.{option_map}
use Rattle.typed_heap.specs.declared.faults.PlaceFault.TheVariants as faults
use Rattle.frames.specs.Activations.{Activation}
use Rattle.model_laws.specs.Lemmas.Basics.{and_then, some_below, some_is}
use Rattle.model_laws.specs.Lemmas.Fitting.{one_fits, values_append}
use Rattle.model_laws.specs.Lemmas.FrameLaws.{given_fits}
use Rattle.model_laws.specs.Lemmas.Happening.{has_cell, value_fits}
use Rattle.model_laws.specs.Lemmas.Keeps.{Going, log_event, next_good, on_good}
use Rattle.model_laws.specs.Lemmas.Turning.{Turned, onto_fits, tried_good}
use Rattle.model_laws.specs.AccessesFit.{AccessFits, AccessOf, CellFits, access_gives}
use Rattle.model_laws.specs.FramesFit.{ActiveFit}
use Rattle.model_laws.specs.LogFits.{KindFits}
use Rattle.model_laws.specs.Places.{Places}
use Rattle.model_laws.specs.Programs.{IsTyped}
use Rattle.model_laws.specs.Values.{ValuesFit, leaf_at, world}
use Rattle.model_laws.specs.WellTyped.{GoesWell, WellTyped}
use Rattle.mu_model.specs.Accesses.{access_results, accessed, accesses_cell, initial, kind_of, picking_option, raced, takes_option, updated, wanted}
use Rattle.mu_model.specs.Acts.{Access, Compares, Loads, Program, Stores, Updates}
use Rattle.mu_model.specs.Answers.{typed}
use Rattle.mu_threads.specs.Picks.{pick, picked_from}
use Rattle.mu_model.specs.Changes.{event, logged_event}
use Rattle.mu_model.specs.ComputationForms.{bit}
use Rattle.mu_model.specs.Configuration.{Configuration}
use Rattle.mu_model.specs.Frames.{passed}
use Rattle.mu_model.specs.Outcomes.{onto, or_case}
use Rattle.mu_model.specs.Turns.{Turn}
use Rattle.mu_model.specs.Types.{type_graph}
use Rattle.typed_heap.specs.Fits.{ScalarFits, World, fits}
use Rattle.typed_heap.specs.Objects.{HeapObject, leaf_classes}
use Rattle.typed_heap.specs.Places.{alive, cell_in, with_some}

-- the pick among n options is below n
pub pick_below : (n : ℕ) (ps : List ℕ) → 0 < n → (pick n ps).0 < n
pick_below n ps h = by (nat_le n 1) ps
  where
    chosen_of : Bool → List ℕ → ℕ × List ℕ
    chosen_of b ps = if b then (0, ps) else picked_from n ps

    by : (b : Bool) (ps : List ℕ) → (chosen_of b ps).0 < n
    by true ps = h
    by false [] = h
    by false (x ∷ xs) = mod-lt x h

-- a cell that is not an object's end has its class
pub alive_fits : (w : World) (cell : CellId) (k : ℕ) → CellFits w cell k → IsSomeAnd (option_map or_case (cell_in w.objects cell)) (λ r. IfOk r (λ d. (d ≡ cell) × (leaf_at w.objects cell ≡ Some k)))
alive_fits w cell k h = by (slice_get w.objects cell.object) h
  where
    in_object : (o : HeapObject) → (cell.at < length o.leaves → slice_get o.leaves cell.at ≡ Some k) → IfOk (or_case (alive o cell)) (λ d. (d ≡ cell) × (slice_get o.leaves cell.at ≡ Some k))
    in_object o f = tests (nat_le (length o.leaves) cell.at) refl o.dead
      where
        tests : (b : Bool) → nat_le (length o.leaves) cell.at ≡ b → (dead : Bool) → IfOk (or_case (if b then Err faults.OutOfRange else (if dead then Err faults.DeadCell else Ok cell))) (λ d. (d ≡ cell) × (slice_get o.leaves cell.at ≡ Some k))
        tests true e dead = tt
        tests false e true = tt
        tests false e false = (refl, f (grind (arith, nat_tests)))

    by : (x : Option HeapObject) → IsSomeAnd x (λ o. cell.at < length o.leaves → slice_get o.leaves cell.at ≡ Some k) →
        IsSomeAnd (option_map or_case (with_some x (λ o. Some (alive o cell)))) (λ r. IfOk r (λ d. (d ≡ cell) × (with_some x (λ o. slice_get o.leaves cell.at) ≡ Some k)))
    by None h = absurd h
    by (Some o) h = in_object o h

-- what an access of a cell logs
pub record LogsFit (p : Program) (c : Configuration) (u : Turn) (k : Kind) : Type 0 where
  pub fits : EventFits c.rule (map (λ (o : HeapObject). o.initial) c.objects) c.log (event u.thread k)
  pub kind : KindFits (type_graph p.tables) (world p.tables c) k
  pub same : (i : ℕ) → is_thread (event u.thread k ∷ c.log) i ≡ is_thread c.log i

module _ (p : Program) (t : Places) (typed : IsTyped p t) where
  pub logged_going : (c : Configuration) (u : Turn) (k : Kind) → Going p t c u → LogsFit p c u k → race c.rule c.log (event u.thread k) ≡ None → Going p t (logged_event (event u.thread k) c) u
  logged_going c u k g fit none = let f = g.fits in record {
    fits = record {
      globals = f.globals;
      stacks = f.stacks;
      owners = f.owners;
      objects = f.objects;
      log = log_event p c (event u.thread k) f.log fit.fits none fit.kind fit.same;
      threads = f.threads;
      waiters = f.waiters;
      most = f.most;
      client = f.client;
      steps = f.steps;
    };
    frames = g.frames;
    there = g.there;
    awake = g.awake;
  }

  pub raced_good : (v : World) (c : Configuration) (u : Turn) (k : Kind) (fs : List Activation) (r : Option ℕ) → race c.rule c.log (event u.thread k) ≡ r → Going p t c u → LogsFit p c u k → ActiveFit p t (world p.tables c) fs →
      GoesWell p t v (raced c u (event u.thread k) fs r)
  raced_good v c u k fs (Some n) e g fit h = tt
  raced_good v c u k fs None e g fit h = next_good p t v (logged_event (event u.thread k) c) u (Some fs) (logged_going c u k g fit e) h

  pub accessed_good : (v : World) (c : Configuration) (u : Turn) (k : Option Kind) (fs : Option (List Activation)) → Going p t c u → IsSomeAnd k (LogsFit p c u) → IsSomeAnd fs (ActiveFit p t (world p.tables c)) →
      GoesWell p t v (accessed c u k fs)
  accessed_good v c u k fs g hk hf =
      on_good p t v k _ (LogsFit p c u) hk (λ x ex fit. on_good p t v fs _ (ActiveFit p t (world p.tables c)) hf (λ gs es h. raced_good v c u x gs (race c.rule c.log (event u.thread x)) refl g fit h))

  -- the values of results
  results_fit : (w : World) (k : ℕ) (a : Access) (x : Chosen) → leaf_classes (type_graph p.tables) k ≡ k ∷ [] → ScalarFits (type_graph p.tables) w k x.value → ValuesFit (type_graph p.tables) w (access_gives p.tables k a) (access_results a x)
  results_fit w k (Loads o) x leaf fit = one_fits (type_graph p.tables) w k x.value leaf fit
  results_fit w k (Stores o s) x leaf fit = tt
  results_fit w k (Updates o op s) x leaf fit = one_fits (type_graph p.tables) w k x.value leaf fit
  results_fit w k (Compares weak o f e s) x leaf fit =
      values_append (type_graph p.tables) w (k ∷ []) (int1 p.tables.types ∷ []) ((x.value ∷ []) ∷ []) ((Int 1 (bit x.success) ∷ []) ∷ []) (one_fits (type_graph p.tables) w k x.value leaf fit)
      (one_fits (type_graph p.tables) w (int1 p.tables.types) (Int 1 (bit x.success)) typed.types.int1.leaf (some_is _ _ _ typed.types.int1.definition (refl, small x.success)))
    where
      small : (b : Bool) → bit b < 2 ^ 1
      small true = omega arith
      small false = omega arith

  -- what is logged of the option that was picked
  pub logs_fit : (c : Configuration) (u : Turn) (a : Access) (cell : CellId) (k : ℕ) (x : Chosen) → WellTyped p t c → is_thread c.log u.thread ≡ true → leaf_at c.objects cell ≡ Some k → AccessOf (type_graph p.tables) (world p.tables c) k a →
      ScalarFits (type_graph p.tables) (world p.tables c) k x.value → ChoiceStands c.rule (initial c) c.log u.thread cell (wanted a) x → IsSomeAnd (kind_of a cell x) (LogsFit p c u)
  logs_fit c u (Loads o) cell k x f is at access fit s = record {
    fits = record { thread = is; child = tt; cell = has_cell p c cell k f.objects at; wake = tt; position = (s.failure s.certain, s.value) };
    kind = some_is _ _ k at fit;
    same = λ i. refl;
  }
  logs_fit c u (Stores o y) cell k x f is at access fit s = record {
    fits = record { thread = is; child = tt; cell = has_cell p c cell k f.objects at; wake = tt; position = ap suc (s.success s.certain) };
    kind = some_is _ _ k at access;
    same = λ i. refl;
  }
  logs_fit c u (Updates o op y) cell k x f is at access fit s =
      and_then (updated op x.value y) _ (ScalarFits (type_graph p.tables) (world p.tables c) k) _ (access x.value fit) (λ z zf. record {
        fits = record { thread = is; child = tt; cell = has_cell p c cell k f.objects at; wake = tt; position = ap suc (s.success s.certain) };
        kind = some_is _ _ k at zf;
        same = λ i. refl;
      })
  logs_fit c u (Compares weak o o' e y) cell k x f is at access fit s = by x.success s.success s.failure
    where
      by : (b : Bool) → (b ≡ true → x.position ≡ newest c.log cell) → (b ≡ false → is_option c.rule (initial c) c.log u.thread cell o' x.position ≡ true) →
          LogsFit p c u (if b then kinds.Access Update cell o (suc x.position) y else kinds.Access Read cell o' x.position x.value)
      by true won lost = record {
        fits = record { thread = is; child = tt; cell = has_cell p c cell k f.objects at; wake = tt; position = ap suc (won refl) };
        kind = some_is _ _ k at access;
        same = λ i. refl;
      }
      by false won lost = record {
        fits = record { thread = is; child = tt; cell = has_cell p c cell k f.objects at; wake = tt; position = (lost refl, s.value) };
        kind = some_is _ _ k at fit;
        same = λ i. refl;
      }

  picked_going : (c : Configuration) (u : Turn) (ps : List ℕ) → Going p t c u → Going p t (record c { picks = ps }) u
  picked_going c u ps g = let f = g.fits in record {
    fits = record {
      globals = f.globals;
      stacks = f.stacks;
      owners = f.owners;
      objects = f.objects;
      log = record { events = f.log.events; sound = f.log.sound; follows = f.log.follows; threads = f.log.threads };
      threads = f.threads;
      waiters = f.waiters;
      most = f.most;
      client = f.client;
      steps = f.steps;
    };
    frames = g.frames;
    there = g.there;
    awake = g.awake;
  }

  pub accesses_good : (v : World) (c : Configuration) (u : Turn) (a : Access) (cell : CellId) → Going p t c u → Turned p t (world p.tables c) u → is_thread c.log u.thread ≡ true → AccessFits p t (world p.tables c) u.top.block u.top.at a cell →
      GoesWell p t v (accesses_cell p c u a cell)
  accesses_good v c u a cell g k is h =
      tried_good p t typed v c u _ _ (λ d. (d ≡ cell) × (leaf_at c.objects cell ≡ Some h.class)) g k (alive_fits (world p.tables c) cell h.class h.there) (λ d same fit.
      subst (λ d. GoesWell p t v (picking_option p c u a d (choices c.rule (initial c) c.log u.thread d (wanted a)))) (sym fit.0) (picks fit.1))
    where
      one : (ps : List ℕ) (x : Chosen) → leaf_at c.objects cell ≡ Some h.class → ChoiceStands c.rule (initial c) c.log u.thread cell (wanted a) x → GoesWell p t v (takes_option p (record c { picks = ps }) u a cell x)
      one ps x at s =
          let fit : ScalarFits (type_graph p.tables) (world p.tables c) h.class x.value = subst (ScalarFits (type_graph p.tables) (world p.tables c) h.class) (sym s.value) (value_fits p c cell h.class x.position g.fits.objects g.fits.log at) in
          accessed_good v (record c { picks = ps }) u (kind_of a cell x) (with_some (passed p u.top (access_results a x)) (onto u)) (picked_going c u ps g)
          (logs_fit (record c { picks = ps }) u a cell h.class x (picked_going c u ps g).fits is at h.access fit s)
          (onto_fits p t typed (world p.tables c) u _ k.below (given_fits p t typed (world p.tables c) g.fits.globals u.top _ (access_results a x) k.top h.gives (results_fit (world p.tables c) h.class a x h.leaf fit)))

      picks : leaf_at c.objects cell ≡ Some h.class → GoesWell p t v (picking_option p c u a cell (choices c.rule (initial c) c.log u.thread cell (wanted a)))
      picks at =
          let ks = choices c.rule (initial c) c.log u.thread cell (wanted a) in
          let n = pick (length ks) c.picks in
          let some : 0 < length ks = choices-some c.rule (initial c) c.log u.thread cell g.fits.log.sound.axioms (wanted a) in
          let x = some_below ks n.0 (pick_below (length ks) c.picks some) in
          on_good p t v (slice_get ks n.0) (takes_option p (record c { picks = n.1 }) u a cell) (λ y. y ≡ x.0) (some_is _ (λ y. y ≡ x.0) x.0 x.1 refl)
          (λ y e same. one n.1 y at (choice-stands c.rule (initial c) c.log u.thread cell (wanted a) n.0 y e))
