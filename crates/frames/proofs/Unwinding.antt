-- The first frame that has a handler, in the list of a stack.
use Rattle.std.specs.Prelude.{◌≡◌, ℕ, ◌+◌, Bool, true, false, cond, List, [], ◌∷◌, Option, Some, None, is_some, option_map, map, position, refl}
use Rattle.std.proofs.Common.{sym, ◌∙◌, ap}
use Rattle.std.specs.List.{position_from}
use Rattle.std.proofs.lemmas.Iterator.Adapters.{position_from-zero}
use Rattle.frames.specs.Activations.{Activation}
use Rattle.frames.specs.Handlers.{first_handler}
use Rattle.frames.specs.FrameOf.{frame_of, goal_of}
use Rattle.frames.specs.declared.frame.Handler.{Handler}
use Rattle.frames.specs.declared.frame.Frame.{Frame}

-- whether a frame has a handler
abbrev catches : Frame → Bool
catches f = is_some f.handler

abbrev catches_shown : Activation → Bool
catches_shown f = is_some f.handler

handled : (o : Option Handler) → is_some (option_map goal_of o) ≡ is_some o
handled None = refl
handled (Some h) = refl

one_more : (b : Bool) (i : ℕ) (later : Option ℕ) (shown : Option ℕ) → shown ≡ option_map (λ n. n + 1) later → cond b (Some (i + 1)) shown ≡ option_map (λ n. n + 1) (cond b (Some i) later)
one_more true i later shown e = refl
one_more false i later shown e = e

from_more : (i : ℕ) (fs : List Frame) → position_from catches_shown (i + 1) (map frame_of fs) ≡ option_map (λ n. n + 1) (position_from catches i fs)
from_more i [] = refl
from_more i (f ∷ fs) = rw (handled f.handler) (one_more (is_some f.handler) i _ _ (from_more (i + 1) fs))

pub top_catches : (t : Activation) (bs : List Activation) → is_some t.handler ≡ true → Some 0 ≡ first_handler (t ∷ bs)
top_catches t bs e = let from = position_from-zero catches_shown (t ∷ bs) in sym (from ∙ rw e refl)

pub below_catches : (t : Activation) (fs : List Frame) → is_some t.handler ≡ false → option_map (λ n. n + 1) (position (λ f. is_some f.handler) fs) ≡ first_handler (t ∷ map frame_of fs)
below_catches t fs e =
    let from = position_from-zero catches_shown (t ∷ map frame_of fs) in
    let here = position_from-zero catches fs in
    sym (from ∙ rw e (from_more 0 fs ∙ ap (option_map (λ n. n + 1)) (sym here)))
