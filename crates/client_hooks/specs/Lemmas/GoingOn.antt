-- Where a trap asks, the trapped stack is entered again by values of the types that are asked.
use Rattle.std.specs.Prelude.{◌≡◌, ◌⊎◌, ℕ, zero, suc, Bool, List, [], ◌∷◌, Option, Some, None, Result, Ok, Err, slice_get, slice_set, refl, if◌then◌else◌}
use Rattle.std.proofs.Common.{sym, ◌∙◌, ap, subst, inl, inr}
use Rattle.std.proofs.lemmas.Slice.Eq.{bytes_eq-Decides}
use Rattle.mu_values.specs.declared.scalars.Scalar.TheVariants as scalars
use Rattle.mu_values.specs.Slots.{TypedValues}
use Rattle.frames.specs.Activations.{Value, Goal, Activation}
use Rattle.typed_heap.specs.Places.{with_some}
use Rattle.mu_model.specs.declared.endings.Case.{Case}
use Rattle.mu_model.specs.declared.endings.Case.TheVariants.{StackTypes}
use Rattle.mu_model.specs.Clients.{Classed, With, Pass, Throw, Reply, Resume, Rebind, Exit, Stop, Answer, Edit}
use Rattle.mu_model.specs.Configuration.{Stack, Ready, Configuration}
use Rattle.mu_model.specs.Acts.{Passes, Program}
use Rattle.mu_model.specs.Frames.{passed}
use Rattle.mu_model.specs.Turns.{Turn}
use Rattle.mu_model.specs.Outcomes.{Outcome, Next, Asks, on, tried, View}
use Rattle.mu_model.specs.Exceptions.{EnteredFrames}
use Rattle.mu_model.specs.EnteringStacks.{entered, enters, ready, ready_at, leaving}
use Rattle.mu_model.specs.Changes.{noted}
use Rattle.mu_model.specs.Edits.{edited}
use Rattle.mu_model.specs.Traps.{answered, edits, replied, taken, trap_note, trapped}
use Rattle.client_hooks.specs.Handlers.{PassesAsked, ResumesAsked, OnlyResumes}
use Rattle.client_hooks.specs.AutoAnswers.{GoesOn}

-- a frame takes values of the classes for which it waits
enters_top : (p : Program) (c : Configuration) (u : Turn) (f : Activation) (fs : List Activation) (cs : List ℕ) (vs : List Value) (go : EnteredFrames → Outcome) → cs ≡ f.waits → ((r : EnteredFrames) → GoesOn (go r))
    → GoesOn (tried p c u (entered p (f ∷ fs) (Passes cs vs)) go)
unfolding tried on
enters_top p c u f fs cs vs go same further =
    subst (λ (b : Bool). GoesOn (tried p c u (if b then with_some (passed p f vs) (λ g. Some (Ok (record { frames = g ∷ fs; ended = [] }))) else Some (Err StackTypes)) go)) (sym ((bytes_eq-Decides cs f.waits).1 same)) (by (passed p f vs))
  where
    by : (o : Option Activation) → GoesOn (tried p c u (with_some {B = Result EnteredFrames Case} o (λ g. Some (Ok (record { frames = g ∷ fs; ended = [] })))) go)
    by None = tt
    by (Some g) = further (record { frames = g ∷ fs; ended = [] })

-- what was set stands at its number, if there is one
set_there : {A : Type 0} (xs : List A) (k : ℕ) (a : A) → (slice_get (slice_set xs k a) k ≡ Some a) ⊎ (slice_get (slice_set xs k a) k ≡ None)
set_there [] k a = inr refl
set_there (x ∷ xs) zero a = inl refl
set_there (x ∷ xs) (suc k) a = set_there xs k a

-- a stack that was left is ready
enters_left : (p : Program) (c : Configuration) (u : Turn) (ss : List Stack) (k : ℕ) (fs : List Activation) (go : ℕ × List Activation → Outcome) → GoesOn (go (k, fs)) → GoesOn (tried p c u (ready (slice_set ss k (Ready fs)) (scalars.Stack k)) go)
unfolding tried on
enters_left p c u ss k fs go further =
    elim (set_there ss k (Ready fs)) [
      | inl e ↦ subst (λ (o : Option Stack). GoesOn (tried p c u (with_some o (λ s. Some (ready_at k s))) go)) (sym e) found
      | inr e ↦ subst (λ (o : Option Stack). GoesOn (tried p c u (with_some o (λ s. Some (ready_at k s))) go)) (sym e) missing
    ]
  where
    found : GoesOn (tried p c u (with_some (Some (Ready fs)) (λ s. Some (ready_at k s))) go)
    found = further

    missing : GoesOn (tried p c u (with_some None (λ s. Some (ready_at k s))) go)
    missing = tt

resumed : (p : Program) (c : Configuration) (u : Turn) (ss : List Stack) (f : Activation) (view : View) (w : With TypedValues Classed) → c.stacks ≡ slice_set ss u.stack (Ready (f ∷ u.below)) → view.asked ≡ f.waits → PassesAsked p.tables view w
    → GoesOn (replied p c u (Resume w))
unfolding on
resumed p c u ss f view (Pass vs) left waits h =
    subst (λ (now : List Stack). GoesOn (tried p c u (ready now (scalars.Stack u.stack)) (λ r. tried p c u (entered p r.1 (Passes vs.types vs.values)) (λ q. Next (enters u.thread r.0 q c))))) (sym left)
    (enters_left p c u ss u.stack (f ∷ u.below) (λ r. tried p c u (entered p r.1 (Passes vs.types vs.values)) (λ q. Next (enters u.thread r.0 q c)))
    (enters_top p c u f u.below vs.types vs.values (λ q. Next (enters u.thread u.stack q c)) (h.0 ∙ waits) (λ q. tt)))
resumed p c u ss f view (Throw v) left waits h = absurd h

answers_on : (p : Program) (c : Configuration) (u : Turn) (ss : List Stack) (f : Activation) (view : View) (r : Reply TypedValues Classed) → c.stacks ≡ slice_set ss u.stack (Ready (f ∷ u.below)) → view.asked ≡ f.waits → ResumesAsked p.tables view r
    → GoesOn (replied p c u r)
answers_on p c u ss f view (Resume w) left waits h = resumed p c u ss f view w left waits h
answers_on p c u ss f view (Rebind t w) left waits h = absurd h
answers_on p c u ss f view Exit left waits h = absurd h
answers_on p c u ss f view Stop left waits h = absurd h

abbrev view_or : View → Outcome → View
view_or v (Asks view go) = view
view_or v _ = v

abbrev go_or : (Option Answer → Outcome) → Outcome → Option Answer → Outcome
go_or g (Asks view go) = go
go_or g _ = g

abbrev view_at : Turn → Option ℕ → List ℕ → Activation → View
view_at u n cs f = record { thread = u.thread; watchpoint = n; asked = cs; frames = f ∷ u.below }

abbrev goes_from : Program → Configuration → Turn → Option ℕ → Activation → Option Answer → Outcome
goes_from p c u n f = answered p (noted (trap_note u n) (leaving u f c)) u (f ∷ u.below)

-- an answer that only resumes
pub goes_on : (p : Program) (c : Configuration) (u : Turn) (n : Option ℕ) (cs : List ℕ) (view : View) (go : Option Answer → Outcome) (o : Option Answer) (a : Answer) → trapped p c u n cs ≡ Asks view go → o ≡ Some a → OnlyResumes p.tables view a → GoesOn (go o)
unfolding on tried
goes_on p c u n cs view go o a e is only = by u.doing.exceptional u.doing.kept e
  where
    asked : (f : Activation) → cs ≡ f.waits → Asks (view_at u n cs f) (goes_from p c u n f) ≡ Asks view go → GoesOn (go o)
    asked f waits e =
        let same : view_at u n cs f ≡ view = ap (view_or view) e in
        let goes : goes_from p c u n f ≡ go = ap (go_or go) e in
        let d : Configuration = taken a (noted (trap_note u n) (leaving u f c)) in
        subst (λ (g : Option Answer → Outcome). GoesOn (g o)) goes
        (subst (λ (x : Option Answer). GoesOn (goes_from p c u n f x)) (sym is)
        (subst (λ (e : Edit). GoesOn (tried p d u (edited p e (f ∷ u.below)) (λ r. replied p (edits u r d) u a.reply))) (sym only.1)
        (answers_on p (edits u (record { frames = f ∷ u.below; ended = [] }) d) u d.stacks f view a.reply refl (sym (ap (λ (v : View). v.asked) same) ∙ waits) only.2)))

    by : (h : Option (Option Goal)) (kept : Option TypedValues)
        → on (with_some h (λ h. with_some kept (λ ks. Some (record u.top { waits = cs; handler = h; kept = ks })))) (λ f. Asks (view_at u n cs f) (goes_from p c u n f)) ≡ Asks view go → GoesOn (go o)
    by None kept e = cc
    by (Some h) None e = cc
    by (Some h) (Some ks) e = asked (record u.top { waits = cs; handler = h; kept = ks }) refl e
