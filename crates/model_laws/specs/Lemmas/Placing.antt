-- The turn of a thread that is left.
use Rattle.std.specs.Prelude.{◌≡◌, ◌≢◌, ◌⊎◌, ◌≤◌, ◌<◌, ◌==◌, ◌+◌, ◌||◌, ℕ, true, nat_lt, List, [], ◌∷◌, ◌++◌, Option, Some, None, IsSomeAnd, length, slice_get, refl, if◌then◌else◌}
use Rattle.std.proofs.Common.{sym, ◌∙◌, subst, inl, inr, arith}
use Rattle.std.proofs.lemmas.Bool.Decides.{eqb_tells, nat_tests}
use Rattle.std.proofs.lemmas.Option.{slice_get_within}
use Rattle.mem_axioms.specs.EventFits.{is_thread}
use Rattle.frames.specs.Activations.{Activation}
use Rattle.model_laws.specs.Lemmas.Basics.{and_then, with_same}
use Rattle.model_laws.specs.Lemmas.Keeps.{Going, at_place}
use Rattle.model_laws.specs.Lemmas.Turning.{Turned}
use Rattle.model_laws.specs.FramesFit.{ActiveFit, StackFits}
use Rattle.model_laws.specs.Places.{Places}
use Rattle.model_laws.specs.Programs.{DoingFits, IsTyped}
use Rattle.model_laws.specs.ThreadsFit.{IsActiveOn}
use Rattle.model_laws.specs.Values.{world}
use Rattle.model_laws.specs.WellTyped.{WellTyped}
use Rattle.mu_model.specs.Acts.{Program}
use Rattle.mu_model.specs.Answers.{typed}
use Rattle.mu_model.specs.Configuration.{Active, Configuration, Dead, Ready, Stack, Thread}
use Rattle.frames.specs.Chains.{stands}
use Rattle.mu_model.specs.Step.{turned}
use Rattle.mu_model.specs.Turns.{Turn, active_on, turn_at, turn_of}
use Rattle.typed_heap.specs.Places.{with_some}

-- the frames of a thread, where they stand
pub record Placed (p : Program) (t : Places) (c : Configuration) (u : Turn) : Type 0 where
  pub turned : Turned p t (world p.tables c) u
  pub stands : slice_get c.stacks u.stack ≡ Some (Active u.thread (u.top ∷ u.below))
  pub thread : Thread
  pub there : slice_get c.threads u.thread ≡ Some (Some thread)
  pub known : is_thread c.log u.thread ≡ true

-- the turn of a thread
pub record HasTurn (p : Program) (t : Places) (c : Configuration) (u : Turn) : Type 0 where
  pub going : Going p t c u
  pub turned : Turned p t (world p.tables c) u
  pub thread : Thread
  pub there : slice_get c.threads u.thread ≡ Some (Some thread)
  pub known : is_thread c.log u.thread ≡ true

module _ (p : Program) (t : Places) (typed : IsTyped p t) where
  known_of : (c : Configuration) (i : ℕ) (o : Option Thread) → WellTyped p t c → slice_get c.threads i ≡ Some o → is_thread c.log i ≡ true
  known_of c i o h e = h.log.threads i ∙ below (slice_get_within c.threads i o e)
    where
      below : i < length c.threads → nat_lt i (length c.threads) ≡ true
      below l = grind (arith, nat_tests)

  -- the place of a thread that is left
  pub has_place : (c : Configuration) (i : ℕ) (th : Thread) → WellTyped p t c → slice_get c.threads i ≡ Some (Some th) → IsSomeAnd (turn_of p c i) (λ u. Placed p t c u × (u.thread ≡ i))
  has_place c i th h there =
      subst (λ o. IsSomeAnd (with_some o (λ t'. with_some t' (λ (t' : Thread). with_some (slice_get c.stacks t'.stack) (λ s. with_some (active_on i s) (turn_at p i t'.stack))))) (λ u. Placed p t c u × (u.thread ≡ i))) (sym there)
      (upon (slice_get c.stacks th.stack) refl (h.owners.stacks i th there))
    where
      at : (fs : List Activation) → slice_get c.stacks th.stack ≡ Some (Active i fs) → ActiveFit p t (world p.tables c) fs → IsSomeAnd (turn_at p i th.stack fs) (λ u. Placed p t c u × (u.thread ≡ i))
      at [] e fit = absurd fit
      at (f ∷ fs) e fit =
          and_then (p.doing f.block f.at f.vars) _ (λ d. DoingFits p t (world p.tables c) f.block f.at d × (p.doing f.block f.at f.vars ≡ Some d)) _ (with_same _ (DoingFits p t (world p.tables c) f.block f.at) (typed.doing (world p.tables c) f.block f.at fit.0.classes f.vars h.globals fit.0.place fit.0.values)) (λ d k. (
            record {
              turned = record { top = fit.0; below = fit.1; doing = k.0; does = k.1 };
              stands = e;
              thread = th;
              there = there;
              known = known_of c i (Some th) h there;
            },
            refl,
          ))

      upon : (o : Option Stack) → slice_get c.stacks th.stack ≡ o → IsSomeAnd o (IsActiveOn i) → IsSomeAnd (with_some o (λ s. with_some (active_on i s) (turn_at p i th.stack))) (λ u. Placed p t c u × (u.thread ≡ i))
      upon None e a = absurd a
      upon (Some (Ready fs)) e a = absurd a
      upon (Some Dead) e a = absurd a
      upon (Some (Active j fs)) e a = elim (eqb_tells j i) [
        | inl r ↦ subst (λ b. IsSomeAnd (with_some (if b then Some fs else None) (turn_at p i th.stack)) (λ u. Placed p t c u × (u.thread ≡ i))) (sym r.0) (at fs (subst (λ n. slice_get c.stacks th.stack ≡ Some (Active n fs)) a e) (at_place (StackFits p t (world p.tables c)) c.stacks th.stack (Active j fs) h.stacks e))
        | inr r ↦ absurd (r.1 a)
      ]
