-- The frames below the top, which are kept from the bottom up and seen from the top down.
use Rattle.std.specs.Prelude.{◌≡◌, ℕ, zero, suc, ◌-◌, ◌<◌, ◌≤◌, List, [], ◌∷◌, ◌++◌, Some, option_map, map, reverse, length, slice_get}
use Rattle.std.proofs.Common.{sym, ◌∙◌, ap, arith, get_or}
use Rattle.std.proofs.lemmas.List.{reverse-append, length-reverse, get_or-reverse}
use Rattle.std.proofs.lemmas.Option.{slice_get-map, slice_get-get_or}
use Rattle.frames.specs.Activations.{Activation}
use Rattle.frames.specs.FrameOf.{frame_of}
use Rattle.frames.specs.declared.frame.Frame.{Frame}

pub pushed : (fs : List Frame) (f : Frame) → map frame_of (reverse (fs ++ f ∷ [])) ≡ frame_of f ∷ map frame_of (reverse fs)
pushed fs f = ap (map frame_of) (reverse-append fs (f ∷ []))

pub below_at : (t : Activation) (fs : List Frame) (n : ℕ) (f : Frame) → 0 < n → n ≤ length fs → f ≡ get_or fs (length fs - n) f → slice_get (t ∷ map frame_of (reverse fs)) n ≡ Some (frame_of f)
below_at t fs zero f more within e = absurd (omega arith)
below_at t fs (suc k) f more within e =
    let lt : k < length fs = omega arith in
    let in_reverse : k < length (reverse fs) = rw (length-reverse fs) lt in
    let at : length fs - 1 - k ≡ length fs - suc k = omega arith in
    let read : get_or (reverse fs) k f ≡ f = get_or-reverse fs k f lt ∙ rw at (sym e) in
    slice_get-map frame_of (reverse fs) k ∙ ap (λ o. option_map frame_of o) (slice_get-get_or (reverse fs) k f in_reverse ∙ ap Some read)
