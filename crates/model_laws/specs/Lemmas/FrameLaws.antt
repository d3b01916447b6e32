-- Frames stay well typed.
use Rattle.std.specs.Prelude.{◌≡◌, ℕ, Bool, true, false, List, [], ◌∷◌, ◌++◌, Option, Some, None, IsSomeAnd, Result, Ok, Err, IfOk, if◌then◌else◌, option_map, refl}
use Rattle.std.proofs.Common.{sym, ◌∙◌, ap, subst, append-nil}
use Rattle.mu_values.specs.declared.scalars.Scalar.{Scalar}
use Rattle.check_tables.specs.Types.{ref_void}
use Rattle.mu_model.specs.Acts as acts
use Rattle.frames.specs.Activations.{Activation, Goal, Value}
use Rattle.model_laws.specs.Lemmas.Basics.{and_then, itself, some_at, some_is, with_same}
use Rattle.model_laws.specs.Lemmas.Fitting.{one_fits, values_append}
use Rattle.model_laws.specs.ActsFit.{ActFits}
use Rattle.model_laws.specs.FramesFit.{ActiveFit, BelowWait, FrameWaits, FreshOrWaits, ReadyFit, Stands, Waits, waits_for}
use Rattle.model_laws.specs.Places.{CatchFits, GoalFits, HandlerFits, OnwardFits, Places, handler_class}
use Rattle.model_laws.specs.Programs.{DoingFits, IsTyped}
use Rattle.model_laws.specs.Values.{HasGlobals, TypedFit, ValuesFit}
use Rattle.mu_model.specs.Acts.{Act, Program}
use Rattle.mu_model.specs.Answers.{typed}
use Rattle.mu_model.specs.Exceptions.{EnteredFrames, unwinding}
use Rattle.model_laws.specs.Unwinding.{also_ended, caught_by, unwinding_more}
use Rattle.mu_model.specs.Frames.{arrived, called, caught, onward, passed, with_exception}
use Rattle.frames.specs.Chains.{stands}
use Rattle.mu_model.specs.Outcomes.{has_result}
use Rattle.mu_model.specs.Turns.{Turn, waiting}
use Rattle.mu_model.specs.Types.{type_graph, classes_taken, classes_given}
use Rattle.mu_model.specs.declared.endings.Case.{Case}
use Rattle.typed_heap.specs.Fits.{ScalarFits, World}
use Rattle.typed_heap.specs.Places.{with_some}

-- it stands, in a function that gives this
pub record StandsFor (p : Program) (t : Places) (w : World) (rs : List ℕ) (f : Activation) : Type 0 where
  pub stands : Stands p t w f
  pub results : t.results f.block ≡ rs

-- it waits for these values, in a function that gives this
pub record WaitsFor (p : Program) (t : Places) (w : World) (rs cs : List ℕ) (f : Activation) : Type 0 where
  pub waits : FrameWaits p t w f
  pub classes : f.waits ≡ cs
  pub results : t.results f.block ≡ rs

module _ (p : Program) (t : Places) (typed : IsTyped p t) (w : World) (globals : HasGlobals p.tables w) where
  pub arrived_fits : (f : Activation) (block : ℕ) (g : Goal) → GoalFits p t w block g → StandsFor p t w (t.results block) (arrived f g)
  arrived_fits f block g h = record { stands = record { classes = h.takes; place = h.there; values = h.values; entered = refl; waits = refl; handler = refl; kept = refl }; results = h.results }

  onward_fits : (f : Activation) (ks : List ℕ) (vs : List Value) (g : Option Goal) → OnwardFits p t w f.block f.at ks g → ValuesFit (type_graph p.tables) w ks vs → StandsFor p t w (t.results f.block) (onward f vs g)
  onward_fits f ks vs None h k = record { stands = record { classes = ks; place = h; values = k; entered = refl; waits = refl; handler = refl; kept = refl }; results = refl }
  onward_fits f ks vs (Some g) h k = arrived_fits f f.block g h

  -- a frame that stands has its results
  pub going_fits : (f : Activation) (ks gs : List ℕ) (vs : List Value) → t.before f.block f.at ≡ Some ks → ValuesFit (type_graph p.tables) w ks f.vars → t.gives f.block f.at ≡ Some gs → ValuesFit (type_graph p.tables) w gs vs →
      IsSomeAnd (with_some (p.going_on f.block f.at (f.vars ++ vs)) (λ g. Some (onward f (f.vars ++ vs) g))) (StandsFor p t w (t.results f.block))
  going_fits f ks gs vs place values gives fit =
      let all : ValuesFit (type_graph p.tables) w (ks ++ gs) (f.vars ++ vs) = values_append (type_graph p.tables) w ks gs f.vars vs values fit in
      and_then _ _ (OnwardFits p t w f.block f.at (ks ++ gs)) _ (typed.going_on w f.block f.at ks gs (f.vars ++ vs) globals place gives all) (λ g h. onward_fits f (ks ++ gs) (f.vars ++ vs) g h all)

  pub given_fits : (f : Activation) (gs : List ℕ) (vs : List Value) → Stands p t w f → t.gives f.block f.at ≡ Some gs → ValuesFit (type_graph p.tables) w gs vs → IsSomeAnd (passed p f vs) (StandsFor p t w (t.results f.block))
  given_fits f gs vs s gives fit =
      subst (λ b. IsSomeAnd (if b then Some (stands f f.block 0 vs) else with_some (p.going_on f.block f.at (f.vars ++ vs)) (λ g. Some (onward f (f.vars ++ vs) g))) (StandsFor p t w (t.results f.block)))
      (sym s.entered) (going_fits f s.classes gs vs s.place s.values gives fit)

  -- an instruction that waits gives what it waits for
  act_gives : (block at : ℕ) (a : Act) (cs : List ℕ) → waits_for p.tables a ≡ Some cs → ActFits p t w block at a → t.gives block at ≡ Some cs
  act_gives block at (acts.Calls f vs) cs e h = h.1 ∙ e
  act_gives block at (acts.Traps ds) cs e h = h ∙ e
  act_gives block at (acts.Watches n ds g) cs e h = h.0 ∙ e
  act_gives block at (acts.Swaps s ds x) cs e h = h.1 ∙ e
  act_gives block at _ cs e h = cc

  -- what the instruction of a frame that waits does
  pub doing_of : (f : Activation) (h : Waits p t w f) → DoingFits p t w f.block f.at h.doing
  doing_of f h = some_at _ (DoingFits p t w f.block f.at) h.doing h.there (typed.doing w f.block f.at h.classes f.vars globals h.place h.values)

  pub gives_of_wait : (f : Activation) → Waits p t w f → t.gives f.block f.at ≡ Some f.waits
  gives_of_wait f h = by h.doing.act h.waits (doing_of f h).act
    where
      by : (o : Option Act) → with_some o (waits_for p.tables) ≡ Some f.waits → IsSomeAnd o (ActFits p t w f.block f.at) → t.gives f.block f.at ≡ Some f.waits
      by None e k = cc
      by (Some a) e k = act_gives f.block f.at a f.waits e k

  -- a frame that waits gets what it waits for
  pub passed_fits : (f : Activation) (vs : List Value) → FrameWaits p t w f → ValuesFit (type_graph p.tables) w f.waits vs → IsSomeAnd (passed p f vs) (StandsFor p t w (t.results f.block))
  passed_fits f vs h fit = by f.fresh h
    where
      by : (b : Bool) → FreshOrWaits p t w f b →
          IsSomeAnd (if b then Some (stands f f.block 0 vs) else with_some (p.going_on f.block f.at (f.vars ++ vs)) (λ g. Some (onward f (f.vars ++ vs) g))) (StandsFor p t w (t.results f.block))
      by true k = record { stands = record { classes = f.waits; place = (typed.body k.function f.block k.entry).0 ∙ ap Some (sym k.waits); values = fit; entered = refl; waits = refl; handler = refl; kept = refl }; results = refl }
      by false k = going_fits f k.classes f.waits vs k.place k.values (gives_of_wait f k) fit

  handled_fits : (b : Bool) (e : Scalar) (cs : List ℕ) (vs : List Value) → ScalarFits (type_graph p.tables) w (ref_void p.tables.types) e → ValuesFit (type_graph p.tables) w cs vs →
      ValuesFit (type_graph p.tables) w (cs ++ handler_class p.tables b) (with_exception b e vs)
  handled_fits true e cs vs fit values = values_append (type_graph p.tables) w cs (ref_void p.tables.types ∷ []) vs ((e ∷ []) ∷ []) values (one_fits (type_graph p.tables) w (ref_void p.tables.types) e typed.types.ref_void.leaf fit)
  handled_fits false e cs vs fit values = subst (λ ks. ValuesFit (type_graph p.tables) w ks vs) (sym (append-nil cs)) values

  pub caught_fits : (f : Activation) (block : ℕ) (g : Goal) (e : Scalar) → CatchFits p t w block g → ScalarFits (type_graph p.tables) w (ref_void p.tables.types) e → IsSomeAnd (caught p f g e) (StandsFor p t w (t.results block))
  caught_fits f block g e h fit =
      some_is _ _ _ (ap (λ o. with_some o (λ b. Some (stands f g.block 0 (with_exception b e g.values)))) h.head) (record {
        stands = record { classes = h.takes ++ handler_class p.tables h.handler; place = h.there; values = handled_fits h.handler e h.takes g.values fit h.values; entered = refl; waits = refl; handler = refl; kept = refl };
        results = h.results;
      })

  -- the top frame, which waits behind its instruction
  pub waiting_fits : (u : Turn) (cs : List ℕ) → Stands p t w u.top → DoingFits p t w u.top.block u.top.at u.doing → p.doing u.top.block u.top.at u.top.vars ≡ Some u.doing →
      with_some u.doing.act (waits_for p.tables) ≡ Some cs → IsSomeAnd (waiting u cs) (WaitsFor p t w (t.results u.top.block) cs)
  waiting_fits u cs s d does waits =
      and_then u.doing.exceptional _ (λ h. u.doing.exceptional ≡ Some h) _ (itself u.doing.exceptional (HandlerFits p t w u.top.block) d.exceptional) (λ h he.
      and_then u.doing.kept _ (λ ks. TypedFit (type_graph p.tables) w ks × (u.doing.kept ≡ Some ks)) _ (with_same u.doing.kept (TypedFit (type_graph p.tables) w) d.kept) (λ ks kf. record {
        waits = subst (FreshOrWaits p t w (record u.top { waits = cs; handler = h; kept = ks })) (sym s.entered)
            (record { classes = s.classes; place = s.place; values = s.values; doing = u.doing; there = does; waits = waits; handler = he; kept = kf.1; kept_fit = kf.0 });
        classes = refl;
        results = refl;
      }))

  -- a function that is called
  pub called_fits : (f b : ℕ) (vs : List Value) → p.body f ≡ Some (Some b) → ValuesFit (type_graph p.tables) w (classes_taken p.tables f) vs → StandsFor p t w (classes_given p.tables f) (called p f vs b)
  called_fits f b vs e h =
      let r = typed.body f b e in
      record { stands = record { classes = classes_taken p.tables f; place = r.0; values = h; entered = refl; waits = refl; handler = refl; kept = refl }; results = r.1 }

  -- ---- exceptions

  abbrev pub EnteredFits : Result EnteredFrames Case → Type 0
  EnteredFits r = IfOk r (λ en. ActiveFit p t w en.frames)

  active_of : (f : Activation) (fs : List Activation) (rs : List ℕ) → StandsFor p t w rs f → BelowWait p t w rs fs → ActiveFit p t w (f ∷ fs)
  active_of f fs rs h k = (h.stands, subst (λ ks. BelowWait p t w ks fs) (sym h.results) k)

  handler_of : (f : Activation) (g : Goal) → f.handler ≡ Some g → FrameWaits p t w f → CatchFits p t w f.block g
  handler_of f g e h = by f.fresh h
    where
      by : (b : Bool) → FreshOrWaits p t w f b → CatchFits p t w f.block g
      by true k = let same : Some g ≡ None = sym e ∙ k.handler in cc
      by false k = subst (HandlerFits p t w f.block) e (some_at _ (HandlerFits p t w f.block) f.handler k.handler (doing_of f k).exceptional)

  ended_too : (f : Activation) (o : Option (Result EnteredFrames Case)) → IsSomeAnd o EnteredFits → IsSomeAnd (option_map (also_ended f) o) EnteredFits
  ended_too f None h = h
  ended_too f (Some (Err k)) h = tt
  ended_too f (Some (Ok r)) h = h

  -- frames that wait
  pub below_unwinds : (e : Scalar) (rs : List ℕ) (fs : List Activation) → ScalarFits (type_graph p.tables) w (ref_void p.tables.types) e → BelowWait p t w rs fs → IsSomeAnd (unwinding p e fs) EnteredFits
  below_unwinds e rs [] fit h = tt
  below_unwinds e rs (f ∷ fs) fit h = subst (λ o. IsSomeAnd o EnteredFits) (sym (unwinding_more p e f fs)) (by f.handler refl (below_unwinds e (t.results f.block) fs fit h.2))
    where
      by : (o : Option Goal) → f.handler ≡ o → IsSomeAnd (unwinding p e fs) EnteredFits → IsSomeAnd (caught_by p e f fs o (unwinding p e fs)) EnteredFits
      by None q lower = ended_too f (unwinding p e fs) lower
      by (Some g) q lower = and_then (caught p f g e) _ (StandsFor p t w (t.results f.block)) _ (caught_fits f f.block g e (handler_of f g q h.0) fit) (λ x s. active_of x fs (t.results f.block) s h.2)

  -- a frame that stands catches nothing itself
  pub active_unwinds : (e : Scalar) (fs : List Activation) → ScalarFits (type_graph p.tables) w (ref_void p.tables.types) e → ActiveFit p t w fs → IsSomeAnd (unwinding p e fs) EnteredFits
  active_unwinds e [] fit h = absurd h
  active_unwinds e (f ∷ fs) fit h =
      subst (λ o. IsSomeAnd o EnteredFits) (sym (unwinding_more p e f fs ∙ ap (λ o. caught_by p e f fs o (unwinding p e fs)) h.0.handler)) (ended_too f (unwinding p e fs) (below_unwinds e (t.results f.block) fs fit h.1))

  pub ready_unwinds : (e : Scalar) (fs : List Activation) → ScalarFits (type_graph p.tables) w (ref_void p.tables.types) e → ReadyFit p t w fs → IsSomeAnd (unwinding p e fs) EnteredFits
  ready_unwinds e [] fit h = absurd h
  ready_unwinds e (f ∷ fs) fit h = below_unwinds e f.waits (f ∷ fs) fit (h.0, refl, h.1)
