-- An exception from frame to frame: one that has a handler catches it, and below any other the next frame is asked.
use Rattle.std.specs.Prelude.{◌≡◌, ℕ, suc, ◌+◌, Bool, true, false, cond, List, [], ◌∷◌, Option, Some, None, Result, Ok, Err, is_some, option_map, slice_get, take, drop, refl}
use Rattle.std.proofs.Common.{sym, ◌∙◌, ap, add-one}
use Rattle.std.specs.Option.{option_map_or}
use Rattle.std.specs.List.{position_from}
use Rattle.std.proofs.lemmas.Iterator.Adapters.{position_from-zero}
use Rattle.mu_values.specs.declared.scalars.Scalar.{Scalar}
use Rattle.typed_heap.specs.Places.{with_some}
use Rattle.frames.specs.Activations.{Goal, Activation}
use Rattle.frames.specs.Handlers.{first_handler}
use Rattle.mu_model.specs.declared.endings.Case.{Case}
use Rattle.mu_model.specs.declared.endings.Case.TheVariants.{Uncaught}
use Rattle.mu_model.specs.Acts.{Program}
use Rattle.mu_model.specs.Frames.{caught}
use Rattle.mu_model.specs.Exceptions.{EnteredFrames, caught_at, unwinding}

-- a frame ended above what is left
abbrev pub also_ended : Activation → Result EnteredFrames Case → Result EnteredFrames Case
also_ended f (Err k) = Err k
also_ended f (Ok r) = Ok (record r { ended = f ∷ r.ended })

abbrev pub caught_by : Program → Scalar → Activation → List Activation → Option Goal → Option (Result EnteredFrames Case) → Option (Result EnteredFrames Case)
caught_by p e f fs (Some g) below = with_some (caught p f g e) (λ h. Some (Ok (record { frames = h ∷ fs; ended = [] })))
caught_by p e f fs None below = option_map (also_ended f) below

abbrev catches : Activation → Bool
catches f = is_some f.handler

from_more : (i : ℕ) (fs : List Activation) → position_from catches (i + 1) fs ≡ option_map (λ n. n + 1) (position_from catches i fs)
from_more i [] = refl
from_more i (f ∷ fs) = by (catches f) (position_from catches (i + 1 + 1) fs) (position_from catches (i + 1) fs) (from_more (i + 1) fs)
  where
    by : (b : Bool) (later shown : Option ℕ) → later ≡ option_map (λ n. n + 1) shown → cond b (Some (i + 1)) later ≡ option_map (λ n. n + 1) (cond b (Some i) shown)
    by true later shown e = refl
    by false later shown e = e

first_more : (f : Activation) (fs : List Activation) → first_handler (f ∷ fs) ≡ cond (is_some f.handler) (Some 0) (option_map (λ n. n + 1) (first_handler fs))
first_more f fs = position_from-zero catches (f ∷ fs) ∙ ap (cond (is_some f.handler) (Some 0)) (from_more 0 fs ∙ ap (option_map (λ n. n + 1)) (sym (position_from-zero catches fs)))

abbrev caught_first : Program → Scalar → List Activation → Option ℕ → Option (Result EnteredFrames Case)
caught_first p e fs first = option_map_or (caught_at p e fs) first (Some (Err Uncaught))

module _ (p : Program) (e : Scalar) (f : Activation) (fs : List Activation) where
  -- what the frames below come to, and what they come to with this one above
  abbrev left : ℕ → Activation → Option (Result EnteredFrames Case)
  left n h = Some (Ok (record { frames = h ∷ drop (suc n) fs; ended = take n fs }))

  abbrev left_more : ℕ → Activation → Option (Result EnteredFrames Case)
  left_more n h = Some (Ok (record { frames = h ∷ drop (suc n) fs; ended = f ∷ take n fs }))

  stands : (n : ℕ) (o : Option Activation) → with_some o (left_more n) ≡ option_map (also_ended f) (with_some o (left n))
  stands n None = refl
  stands n (Some h) = refl

  handled : (n : ℕ) (x : Activation) (o : Option Goal) → with_some o (λ g. with_some (caught p x g e) (left_more n)) ≡ option_map (also_ended f) (with_some o (λ g. with_some (caught p x g e) (left n)))
  handled n x None = refl
  handled n x (Some g) = stands n (caught p x g e)

  below : (n : ℕ) (o : Option Activation)
      → with_some o (λ x. with_some x.handler (λ g. with_some (caught p x g e) (left_more n))) ≡ option_map (also_ended f) (with_some o (λ x. with_some x.handler (λ g. with_some (caught p x g e) (left n))))
  below n None = refl
  below n (Some x) = handled n x x.handler

  by : (o : Option Goal) (first : Option ℕ) → f.handler ≡ o → caught_first p e (f ∷ fs) (cond (is_some o) (Some 0) (option_map (λ n. n + 1) first)) ≡ caught_by p e f fs o (caught_first p e fs first)
  by (Some g) first same = ap (λ o. with_some o (λ g. with_some (caught p f g e) (λ h. Some (Ok (record { frames = h ∷ fs; ended = [] }))))) same
  by None None same = refl
  by None (Some n) same = ap (caught_at p e (f ∷ fs)) (add-one n) ∙ below n (slice_get fs n)

  pub unwinding_more : unwinding p e (f ∷ fs) ≡ caught_by p e f fs f.handler (unwinding p e fs)
  unwinding_more = ap (caught_first p e (f ∷ fs)) (first_more f fs) ∙ by f.handler (first_handler fs) refl
