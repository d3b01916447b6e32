-- The first configuration is well typed.
use Rattle.std.specs.Prelude.{◌≡◌, ◌≤◌, ◌<◌, ◌⊎◌, ℕ, zero, suc, nat_lt, List, [], ◌∷◌, Some, IsSomeAnd, All, slice_get, map, refl}
use Rattle.std.proofs.Common.{sym, ◌∙◌, subst, arith}
use Rattle.std.proofs.lemmas.Bool.Decides.{nat_tests}
use Rattle.std.proofs.lemmas.List.Elements.{All-nil, All-cons}
use Rattle.mu_values.specs.declared.scalars.Scalar.TheVariants.{Null}
use Rattle.mem_axioms.specs.EventFits.{is_thread}
use Rattle.mem_axioms.specs.Lemmas.Growing.{sound-none}
use Rattle.frames.specs.Activations.{Activation}
use Rattle.model_laws.specs.Lemmas.Basics.{some_is}
use Rattle.model_laws.specs.Lemmas.FrameLaws.{called_fits}
use Rattle.model_laws.specs.ClientsFit.{ClientFits}
use Rattle.model_laws.specs.FramesFit.{StackFits}
use Rattle.model_laws.specs.LogFits.{LoggedFits, ObjectFits}
use Rattle.model_laws.specs.Places.{Places}
use Rattle.model_laws.specs.Programs.{IsTyped}
use Rattle.model_laws.specs.ThreadsFit.{IsActiveOn, IsOn, Owned, ThreadFits}
use Rattle.model_laws.specs.Values.{HasGlobals, ValuesFit, world}
use Rattle.model_laws.specs.WellTyped.{WellTyped}
use Rattle.mu_model.specs.Acts.{Program}
use Rattle.mu_model.specs.Answers.{typed}
use Rattle.mu_model.specs.Configuration.{Active, Thread}
use Rattle.mu_model.specs.Frames.{called}
use Rattle.mu_model.specs.Run.{Setting, begins_in}
use Rattle.mu_model.specs.Types.{type_graph, classes_taken}
use Rattle.typed_heap.specs.Fits.{World}
use Rattle.typed_heap.specs.Objects.{HeapObject}

first_owned : (fs : List Activation) → Owned (Some (record { stack = 0; own = Null }) ∷ []) (Active 0 fs ∷ [])
first_owned fs = record { stacks = upon; threads = of }
  where
    upon : (i : ℕ) (t : Thread) → slice_get (Some (record { stack = 0; own = Null }) ∷ []) i ≡ Some (Some t) → IsSomeAnd (slice_get (Active 0 fs ∷ []) t.stack) (IsActiveOn i)
    upon zero t e = let stack : 0 ≡ t.stack = cc in subst (λ n. IsSomeAnd (slice_get (Active 0 fs ∷ []) n) (IsActiveOn 0)) stack refl
    upon (suc i) t e = cc

    of : (i k : ℕ) (gs : List Activation) → slice_get (Active 0 fs ∷ []) k ≡ Some (Active i gs) → IsSomeAnd (slice_get (Some (record { stack = 0; own = Null }) ∷ []) i) (IsOn k)
    of i zero gs e = let same : 0 ≡ i = cc in subst (λ n. IsSomeAnd (slice_get (Some (record { stack = 0; own = Null }) ∷ []) n) (IsOn 0)) same refl
    of i (suc k) gs e = cc

-- its objects fit, and the places of the globals are there; its function takes nothing
pub first_fits : (p : Program) (t : Places) (s : Setting) (f block : ℕ) → IsTyped p t →
    HasGlobals p.tables (world p.tables (begins_in p s f block)) → All (ObjectFits (type_graph p.tables) (world p.tables (begins_in p s f block))) s.objects → p.body f ≡ Some (Some block) → classes_taken p.tables f ≡ [] → ClientFits p.tables s.client →
    WellTyped p t (begins_in p s f block)
first_fits p t s f block typed globals fit body none client =
    let w : World = world p.tables (begins_in p s f block) in
    let r = called_fits p t typed w globals f block [] body (subst (λ cs. ValuesFit (type_graph p.tables) w cs []) (sym none) tt) in
    record {
      globals = globals;
      stacks = All-cons (StackFits p t w) (Active 0 (called p f [] block ∷ [])) [] (r.stands, tt) (All-nil (StackFits p t w));
      owners = first_owned (called p f [] block ∷ []);
      objects = fit;
      log = record { events = All-nil (LoggedFits (type_graph p.tables) w); sound = sound-none s.rule (map (λ (o : HeapObject). o.initial) s.objects); follows = tt; threads = only };
      threads = All-cons (ThreadFits p.tables w) (Some (record { stack = 0; own = Null })) [] (some_is _ _ _ typed.types.ref_void.definition tt) (All-nil (ThreadFits p.tables w));
      waiters = tt;
      most = omega arith;
      client = client;
      steps = omega arith;
    }
  where
    only : (i : ℕ) → is_thread [] i ≡ nat_lt i 1
    only i = grind (arith, nat_tests)
