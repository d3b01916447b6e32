-- Objects that are made.
use Rattle.std.specs.Prelude.{◌≡◌, ◌≢◌, ◌⊎◌, ◌≤◌, ◌<◌, ◌==◌, ◌&&◌, ◌+◌, ◌*◌, ℕ, zero, suc, Bool, true, false, nat_le, List, [], ◌∷◌, ◌++◌, Option, Some, None, IsSomeAnd, All, length, slice_get, slice_index_or, map, refl, if◌then◌else◌}
use Rattle.std.proofs.Common.{sym, ◌∙◌, ap, subst, arith}
use Rattle.std.proofs.lemmas.Bool.{false≢true}
use Rattle.std.proofs.lemmas.List.Elements.{All-push, All-weaker, All-head, All-tail}
use Rattle.type_definitions.specs.Leaves.{times}
use Rattle.type_definitions.specs.declared.definition.TypeDef.{TypeDef}
use Rattle.mu_values.specs.declared.scalars.Scalar.{Scalar}
use Rattle.mu_values.specs.declared.scalars.Scalar.TheVariants.{Null, Object, Place}
use Rattle.mu_values.specs.declared.cells.CellId.{CellId}
use Rattle.mu_values.specs.CellLaws.{same_cell-true}
use Rattle.mem_axioms.specs.Events.{accesses}
use Rattle.mem_axioms.specs.Logs.{event_at}
use Rattle.mem_axioms.specs.Objects.{initial_of}
use Rattle.mem_axioms.specs.declared.types.Event.{Event}
use Rattle.mem_axioms.specs.declared.types.Kind.{Kind}
use Rattle.mem_axioms.specs.declared.types.Kind.TheVariants as kinds
use Rattle.mem_axioms.specs.Lemmas.Initials.{meets-same}
use Rattle.check_tables.specs.TypeTests.{repeated_of}
use Rattle.mu_model.specs.Acts as acts
use Rattle.model_laws.specs.Lemmas.Basics.{first_same, last_is, some_is, some_more, some_of}
use Rattle.model_laws.specs.Lemmas.Fitting.{Grows, globals_more, one_fits}
use Rattle.model_laws.specs.Lemmas.Growing.{below_more, logged_more, object_more, stack_more, stands_more, thread_more}
use Rattle.model_laws.specs.Lemmas.Keeps.{Going}
use Rattle.model_laws.specs.Lemmas.Turning.{Turned, faulted_good, given_good}
use Rattle.model_laws.specs.ActsFit.{ActFits}
use Rattle.model_laws.specs.FramesFit.{BelowWait, StackFits, Stands}
use Rattle.model_laws.specs.LogFits.{KindFits, LoggedFits, ObjectFits}
use Rattle.model_laws.specs.Places.{Places}
use Rattle.model_laws.specs.Programs.{IsTyped}
use Rattle.model_laws.specs.ThreadsFit.{ThreadFits, is_waiting}
use Rattle.model_laws.specs.Values.{leaf_at, world}
use Rattle.model_laws.specs.WellTyped.{GoesWell, WellTyped}
use Rattle.mu_model.specs.Acts.{Program}
use Rattle.mu_model.specs.Answers.{typed}
use Rattle.mu_model.specs.Configuration.{Active, Configuration}
use Rattle.frames.specs.Chains.{stands}
use Rattle.mu_model.specs.Objects.{object_added, asks_cells, makes, makes_hybrid, makes_own, owning}
use Rattle.mu_model.specs.Outcomes.{Outcome, faulted, has_results, has_result}
use Rattle.mu_model.specs.Turns.{Turn}
use Rattle.mu_model.specs.Types.{type_graph}
use Rattle.mu_model.specs.declared.endings.Ending.TheVariants.{HeapFull}
use Rattle.typed_heap.specs.Fits.{ScalarFits, ScalarsFit, World}
use Rattle.typed_heap.specs.Objects.{HeapObject, leaf_classes, object_of, run_classes, run_of, zeros}
use Rattle.typed_heap.specs.Places.{with_some}

scalars_append : (graph : List TypeDef) (w : World) (cs ds : List ℕ) (ss rs : List Scalar) → ScalarsFit graph w cs ss → ScalarsFit graph w ds rs → ScalarsFit graph w (cs ++ ds) (ss ++ rs)
scalars_append graph w [] ds [] rs h k = k
scalars_append graph w [] ds (s ∷ ss) rs h k = absurd h
scalars_append graph w (c ∷ cs) ds [] rs h k = absurd h
scalars_append graph w (c ∷ cs) ds (s ∷ ss) rs h k = (h.0, scalars_append graph w cs ds ss rs h.1 k)

-- leaves that fit what they begin with
abbrev pub BeginsRight : List TypeDef → World → List ℕ → Type 0
BeginsRight graph w cs = ScalarsFit graph w cs (zeros graph cs)

right_append : (graph : List TypeDef) (w : World) (cs ds : List ℕ) → BeginsRight graph w cs → BeginsRight graph w ds → BeginsRight graph w (cs ++ ds)
right_append graph w [] ds h k = k
right_append graph w (c ∷ cs) ds h k = (h.0, right_append graph w cs ds h.1 k)

right_times : (graph : List TypeDef) (w : World) (n : ℕ) (cs : List ℕ) → BeginsRight graph w cs → BeginsRight graph w (times n cs)
right_times graph w zero cs h = tt
right_times graph w (suc n) cs h = right_append graph w cs (times n cs) h (right_times graph w n cs h)

event_of : (P : Event → Type 0) (log : List Event) (i : ℕ) (e : Event) → All P log → event_at log i ≡ Some e → P e
event_of P [] i e h at = cc
event_of P (x ∷ log) i e h at = by (i == length log) at (All-head P x log h) (λ k. event_of P log i e (All-tail P x log h) k)
  where
    by : (b : Bool) → (elim b as (λ _. Option Event) [ true ↦ Some x | false ↦ event_at log i ]) ≡ Some e → P x → (event_at log i ≡ Some e → P e) → P e
    by true k here rest = let same : x ≡ e = cc in subst P same here
    by false k here rest = rest k

-- the cells of a log are those of objects that were there
initial_more : (os : List HeapObject) (o : HeapObject) (cell : CellId) (c : ℕ) → leaf_at os cell ≡ Some c →
    initial_of (map (λ (o : HeapObject). o.initial) os) cell ≡ initial_of (map (λ (o : HeapObject). o.initial) (os ++ o ∷ [])) cell
initial_more os o cell c e = ap (λ (ss : List Scalar). slice_index_or ss cell.at Null) (by os cell.object e)
  where
    by : (os : List HeapObject) (n : ℕ) → with_some (slice_get os n) (λ o. slice_get o.leaves cell.at) ≡ Some c →
        slice_index_or (map (λ (o : HeapObject). o.initial) os) n [] ≡ slice_index_or (map (λ (o : HeapObject). o.initial) (os ++ o ∷ [])) n []
    by [] n e = cc
    by (x ∷ os) zero e = refl
    by (x ∷ os) (suc n) e = by os n e

access_cell : (graph : List TypeDef) (w : World) (k : Kind) (thread : ℕ) (cell : CellId) → KindFits graph w k → accesses cell (record { thread = thread; kind = k }) ≡ true → IsSomeAnd (leaf_at w.objects cell) (λ c. Unit {0})
access_cell graph w (kinds.Access mode of order position value) thread cell h e =
    subst (λ d. IsSomeAnd (leaf_at w.objects d) (λ c. Unit {0})) (same_cell-true of cell e) (some_more _ (λ c. ScalarFits graph w c value) (λ c. Unit {0}) (λ c k. tt) h)
access_cell graph w _ thread cell h e = absurd (false≢true e)

module _ (p : Program) (t : Places) (typed : IsTyped p t) where
  added_grows : (c : Configuration) (cs : List ℕ) → Grows (world p.tables c) (world p.tables (object_added p c cs))
  added_grows c cs = record { objects = λ n o e. some_is _ _ o (first_same c.objects (object_of (type_graph p.tables) cs ∷ []) n o e) refl; signatures = refl; stacks = omega arith; threads = omega arith }

  added_fits : (c : Configuration) (cs : List ℕ) → WellTyped p t c → BeginsRight (type_graph p.tables) (world p.tables (object_added p c cs)) cs → WellTyped p t (object_added p c cs)
  added_fits c cs h right =
      let w = world p.tables c in
      let v = world p.tables (object_added p c cs) in
      let o = object_of (type_graph p.tables) cs in
      let g : Grows w v = added_grows c cs in
      record {
        globals = globals_more p.tables w v g h.globals;
        stacks = All-weaker (StackFits p t w) (StackFits p t v) (λ s. stack_more p t w v g s) c.stacks h.stacks;
        owners = h.owners;
        objects = All-push (ObjectFits (type_graph p.tables) v) c.objects o (All-weaker (ObjectFits (type_graph p.tables) w) (ObjectFits (type_graph p.tables) v) (λ q. object_more p t w v g q) c.objects h.objects) right;
        log = record {
          events = All-weaker (LoggedFits (type_graph p.tables) w) (LoggedFits (type_graph p.tables) v) (λ e. logged_more p t w v g e) c.log h.log.events;
          sound = record { axioms = sym (meets-same c.rule _ _ c.log (λ i e cell at acc. cells e cell o (event_of (LoggedFits (type_graph p.tables) w) c.log i e h.log.events at) acc)) ∙ h.log.sound.axioms; race_free = h.log.sound.race_free };
          follows = h.log.follows;
          threads = h.log.threads;
        };
        threads = All-weaker (ThreadFits p.tables w) (ThreadFits p.tables v) (λ q. thread_more p t w v g q) c.threads h.threads;
        waiters = h.waiters;
        most = h.most;
        client = h.client;
        steps = h.steps;
      }
    where
      cells : (e : Event) (cell : CellId) (o : HeapObject) → LoggedFits (type_graph p.tables) (world p.tables c) e → accesses cell e ≡ true →
          initial_of (map (λ (o : HeapObject). o.initial) c.objects) cell ≡ initial_of (map (λ (o : HeapObject). o.initial) (c.objects ++ o ∷ [])) cell
      cells e cell o l acc =
          let r : (k : ℕ) × (leaf_at c.objects cell ≡ Some k) × Unit {0} = some_of _ (λ c. Unit {0}) (access_cell (type_graph p.tables) (world p.tables c) e.kind e.thread cell l acc) in
          initial_more c.objects o cell r.0 r.1

  -- an object is made, and the instruction gives a reference to it
  made_good : (v : World) (c : Configuration) (u x : Turn) (cs : List ℕ) (s : Scalar) (class : ℕ) → Going p t c u → Turned p t (world p.tables c) u → x.thread ≡ u.thread → x.stack ≡ u.stack → x.below ≡ u.below → x.top ≡ record u.top { objects = x.top.objects } →
      BeginsRight (type_graph p.tables) (world p.tables (object_added p c cs)) cs → leaf_classes (type_graph p.tables) class ≡ class ∷ [] → t.gives u.top.block u.top.at ≡ Some (class ∷ []) → ScalarFits (type_graph p.tables) (world p.tables (object_added p c cs)) class s → GoesWell p t v (has_results p (object_added p c cs) x ((s ∷ []) ∷ []))
  made_good v c u x cs s class g k thread stack below top right leaf gives fit =
      let d = object_added p c cs in
      let more = added_grows c cs in
      let old = stands_more p t (world p.tables c) (world p.tables d) more u.top k.top in
      let stands : Stands p t (world p.tables d) (record u.top { objects = x.top.objects }) = record { classes = old.classes; place = old.place; values = old.values; entered = old.entered; waits = old.waits; handler = old.handler; kept = old.kept } in
      given_good p t typed v d x (class ∷ []) ((s ∷ []) ∷ [])
      (record { fits = added_fits c cs g.fits right; frames = g.frames; there = ap (slice_get c.stacks) stack ∙ g.there ∙ ap (λ i. Some (Active i g.frames)) (sym thread); awake = ap (λ i. is_waiting c.waiters i) thread ∙ g.awake })
      (subst (Stands p t (world p.tables d)) (sym top) stands)
      (subst (λ f. BelowWait p t (world p.tables d) (t.results f.block) x.below) (sym top) (subst (BelowWait p t (world p.tables d) (t.results u.top.block)) (sym below) (below_more p t (world p.tables c) (world p.tables d) more (t.results u.top.block) u.below k.below)))
      (subst (λ f. t.gives f.block f.at ≡ Some (class ∷ [])) (sym top) gives)
      (one_fits (type_graph p.tables) (world p.tables d) class s leaf fit)

  asked_good : (v : World) (c : Configuration) (u : Turn) (n : ℕ) (go : Outcome) → Going p t c u → Turned p t (world p.tables c) u → GoesWell p t v go → GoesWell p t v (asks_cells p c u n go)
  asked_good v c u n go g k h = by (nat_le n c.cells)
    where
      by : (b : Bool) → GoesWell p t v (if b then go else faulted p c u (HeapFull u.thread n c.cells))
      by true = h
      by false = faulted_good p t typed v c u (HeapFull u.thread n c.cells) g k

  pub makes_good : (v : World) (c : Configuration) (u : Turn) (x : ℕ) → Going p t c u → Turned p t (world p.tables c) u → ActFits p t (world p.tables c) u.top.block u.top.at (acts.Makes x) → GoesWell p t v (makes p c u x)
  makes_good v c u x g k h =
      let cs = leaf_classes (type_graph p.tables) x in
      asked_good v c u (length cs) _ g k (made_good v c u u cs (Object (length c.objects)) h.class g k refl refl refl refl (typed.zeros (world p.tables (object_added p c cs)) x) h.leaf h.gives
      (some_is _ _ _ h.definition (some_is _ _ (object_of (type_graph p.tables) cs) (last_is c.objects (object_of (type_graph p.tables) cs)) h.there)))

  pub makes_hybrid_good : (v : World) (c : Configuration) (u : Turn) (x n : ℕ) → Going p t c u → Turned p t (world p.tables c) u → ActFits p t (world p.tables c) u.top.block u.top.at (acts.MakesHybrid x n) → GoesWell p t v (makes_hybrid p c u x n)
  makes_hybrid_good v c u x n g k h =
      let cs = leaf_classes (type_graph p.tables) x ++ times n (run_classes (type_graph p.tables) x) in
      let w = world p.tables (object_added p c cs) in
      asked_good v c u _ _ g k (made_good v c u u cs (Object (length c.objects)) h.class g k refl refl refl refl
      (right_append (type_graph p.tables) w (leaf_classes (type_graph p.tables) x) (times n (run_classes (type_graph p.tables) x)) (typed.zeros w x) (right_times (type_graph p.tables) w n (run_classes (type_graph p.tables) x) (runs w (repeated_of (slice_get (type_graph p.tables) x))))) h.leaf h.gives
      (some_is _ _ _ h.definition (some_is _ _ (object_of (type_graph p.tables) cs) (last_is c.objects (object_of (type_graph p.tables) cs)) h.there)))
    where
      runs : (w : World) (o : Option ℕ) → BeginsRight (type_graph p.tables) w (run_of (type_graph p.tables) o)
      runs w None = tt
      runs w (Some e) = typed.zeros w e

  pub makes_own_good : (v : World) (c : Configuration) (u : Turn) (x : ℕ) → Going p t c u → Turned p t (world p.tables c) u → ActFits p t (world p.tables c) u.top.block u.top.at (acts.MakesOwn x) → GoesWell p t v (makes_own p c u x)
  makes_own_good v c u x g k h =
      let cs = leaf_classes (type_graph p.tables) x in
      asked_good v c u (length cs) _ g k (made_good v c u (owning u (length c.objects)) cs (Place (length c.objects) 0) h.class g k refl refl refl refl (typed.zeros (world p.tables (object_added p c cs)) x) h.leaf h.gives
      (some_is _ _ _ h.definition (some_is _ _ (object_of (type_graph p.tables) cs) (last_is c.objects (object_of (type_graph p.tables) cs)) h.there)))
