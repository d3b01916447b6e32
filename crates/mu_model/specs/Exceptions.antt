-- Calls, returns, and exceptions that look for a frame.
use Rattle.std.specs.Prelude.{ℕ, suc, List, [], ◌∷◌, Option, Some, Result, Ok, Err, ok_or, option_map, slice_get, take, drop}
use Rattle.std.specs.Option.{option_map_or}
use Rattle.mu_values.specs.declared.scalars.Scalar.{Scalar}
use Rattle.mu_values.specs.Slots.{TypedValues}
use Rattle.typed_heap.specs.Places.{with_some}
use Rattle.frames.specs.Activations.{Value, Activation}
use Rattle.frames.specs.Handlers.{first_handler}
use Rattle.mu_model.specs.declared.lines.Note.{Note}
use Rattle.mu_model.specs.declared.lines.Note.TheVariants.{Returned}
use Rattle.mu_model.specs.declared.endings.Case.{Case}
use Rattle.mu_model.specs.declared.endings.Case.TheVariants.{NoBody, Uncaught}
use Rattle.mu_model.specs.Types.{classes_given}
use Rattle.mu_model.specs.Configuration.{Configuration}
use Rattle.mu_model.specs.Acts.{Program}
use Rattle.mu_model.specs.Frames.{called, passed, caught}
use Rattle.mu_model.specs.Changes.{noted, frames_end, stack_dies, thread_ends}
use Rattle.mu_model.specs.Turns.{Turn, waiting}
use Rattle.mu_model.specs.Outcomes.{Outcome, Next, next, onto, tried}

-- ---- calls

-- the first block of a function, where it has one
abbrev pub body_or_case : Option (Option ℕ) → Option (Result ℕ Case)
body_or_case b = option_map (λ o. ok_or o NoBody) b

-- a frame above this one, which waits for what the function gives
abbrev pub calls : Program → Configuration → Turn → ℕ → List Value → Outcome
calls p c u f vs = tried p c u (body_or_case (p.body f)) (λ b. next c u (with_some (waiting u (classes_given p.tables f)) (λ w. Some (called p f vs b ∷ w ∷ u.below))))

-- a frame in place of this one, which ends
abbrev pub replaces : Program → Configuration → Turn → ℕ → List Value → Outcome
replaces p c u f vs = tried p c u (body_or_case (p.body f)) (λ b. next (frames_end (u.top ∷ []) c) u (onto u (called p f vs b)))

-- ---- returns

-- the thread ends, its stack is dead, and a record says so
abbrev pub finishes : Configuration → Turn → Note → Outcome
finishes c u n = Next (noted n (thread_ends u.thread (stack_dies u.stack (u.top ∷ u.below) c)))

-- to the frame below, or from the bottom frame
abbrev pub returns : Program → Configuration → Turn → TypedValues → List Activation → Outcome
returns p c u vs [] = finishes c u (Returned u.thread vs)
returns p c u vs (f ∷ fs) = next (frames_end (u.top ∷ []) c) u (with_some (passed p f vs.values) (λ g. Some (g ∷ fs)))

-- ---- exceptions

-- the frames that are left, and those that ended
pub record EnteredFrames : Type 0 where
  pub frames : List Activation
  pub ended : List Activation

-- the frame with that number catches an exception at its handler, and the frames above it end
abbrev pub caught_at : Program → Scalar → List Activation → ℕ → Option (Result EnteredFrames Case)
caught_at p e fs n =
    with_some (slice_get fs n) (λ f. with_some f.handler (λ g. with_some (caught p f g e) (λ h. Some (Ok (record { frames = h ∷ drop (suc n) fs; ended = take n fs })))))

-- an exception goes to the first frame from the top that has a handler
abbrev pub unwinding : Program → Scalar → List Activation → Option (Result EnteredFrames Case)
unwinding p e fs = option_map_or (caught_at p e fs) (first_handler fs) (Some (Err Uncaught))

abbrev pub throws : Program → Configuration → Turn → Scalar → Outcome
throws p c u e = tried p c u (unwinding p e (u.top ∷ u.below)) (λ r. next (frames_end r.ended c) u (Some r.frames))
