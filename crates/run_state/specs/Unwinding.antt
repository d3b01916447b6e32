-- Laws of an exception that looks for a frame.
use Rattle.std.specs.Prelude.{◌≡◌, ℕ, suc, Bool, true, List, [], ◌∷◌, Option, Some, None, Result, Ok, Err, is_some, slice_get, take, drop, refl}
use Rattle.std.proofs.Common.{◌∙◌, ap, get_or}
use Rattle.std.specs.Option.{option_map_or}
use Rattle.std.proofs.lemmas.List.Quantifiers.{position-Some}
use Rattle.std.proofs.lemmas.Option.{slice_get-get_or}
use Rattle.mu_values.specs.declared.scalars.Scalar.{Scalar}
use Rattle.typed_heap.specs.Places.{with_some}
use Rattle.frames.specs.Activations.{Goal, Activation}
use Rattle.frames.specs.Handlers.{first_handler}
use Rattle.mu_model.specs.declared.endings.Case.{Case}
use Rattle.mu_model.specs.declared.endings.Case.TheVariants.{Uncaught}
use Rattle.mu_model.specs.Acts.{Program}
use Rattle.mu_model.specs.Frames.{caught}
use Rattle.mu_model.specs.Exceptions.{EnteredFrames, caught_at, unwinding}

-- the frame with that number is there, and has a handler
pub record Catches (fs : List Activation) (n : ℕ) : Type 0 where
  pub frame : Activation
  pub goal : Goal
  pub there : slice_get fs n ≡ Some frame
  pub handler : frame.handler ≡ Some goal

goal_there : (o : Option Goal) → is_some o ≡ true → (g : Goal) × (o ≡ Some g)
goal_there None h = cc
goal_there (Some g) h = (g, refl)

-- the first that has a handler does
pub catches_first : (fs : List Activation) (n : ℕ) → first_handler fs ≡ Some n → Catches fs n
catches_first [] n h = cc
catches_first (f ∷ fs) n h =
    let found = position-Some (λ (x : Activation). is_some x.handler) (f ∷ fs) n f h in
    let goal = goal_there ((get_or (f ∷ fs) n f).handler) found.1 in
    record { frame = get_or (f ∷ fs) n f; goal = goal.0; there = slice_get-get_or (f ∷ fs) n f found.0; handler = goal.1 }

-- the frames once this one caught the exception at its goal
pub unwinds : (p : Program) (e : Scalar) (fs : List Activation) (n : ℕ) (f : Activation) (g : Goal) → first_handler fs ≡ Some n → slice_get fs n ≡ Some f → f.handler ≡ Some g
    → unwinding p e fs ≡ with_some (caught p f g e) (λ h. Some (Ok (record { frames = h ∷ drop (suc n) fs; ended = take n fs })))
unwinds p e fs n f g first there handler =
    let left : Activation → Option (Result EnteredFrames Case) = λ h. Some (Ok (record { frames = h ∷ drop (suc n) fs; ended = take n fs })) in
    ap (λ (o : Option ℕ). option_map_or (caught_at p e fs) o (Some (Err Uncaught))) first
    ∙ ap (λ (o : Option Activation). with_some o (λ x. with_some x.handler (λ g. with_some (caught p x g e) left))) there
    ∙ ap (λ (o : Option Goal). with_some o (λ g. with_some (caught p f g e) left)) handler

-- where no frame has one, it is uncaught
pub uncaught : (p : Program) (e : Scalar) (fs : List Activation) → first_handler fs ≡ None → unwinding p e fs ≡ Some (Err Uncaught)
uncaught p e fs h = ap (λ (o : Option ℕ). option_map_or (caught_at p e fs) o (Some (Err Uncaught))) h
