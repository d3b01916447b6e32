-- Another thread's frames come into the hand.
use Rattle.std.specs.Prelude.{◌≡◌, ℕ, false, true, Some, slice_get, slice_set}
use Rattle.std.proofs.Common.{◌∙◌, ap, subst, sym}
use Rattle.frames.specs.Chains.{Chain, frames_of}
use Rattle.mu_model.specs.Configuration.{Active}
use Rattle.seats.specs.Seats.{Seats}
use Rattle.run_state.specs.Held.{Held}
use Rattle.run_state.specs.Hand.{IsTakenUp, lifted_up}

pub lifted_into : (s w : Held) (i k : ℕ) (frames : Chain) (seats : Seats) → w ≡ s → s.left ≡ false → slice_get w.seats.stacks k ≡ Some (Active i (frames_of frames))
    → seats ≡ record w.seats { stacks = slice_set w.seats.stacks k (Active i (frames_of w.frames)) } → IsTakenUp s (record w { thread = i; stack = k; frames = frames; left = true; seats = seats }) i
lifted_into s w i k frames seats same empty there now =
    subst (λ (x : Held). IsTakenUp x (record w { thread = i; stack = k; frames = frames; left = true; seats = seats }) i) same
    (subst (λ (q : Seats). IsTakenUp w (record w { thread = i; stack = k; frames = frames; left = true; seats = q }) i) (sym now)
    (lifted_up w i k frames (ap (λ (x : Held). x.left) same ∙ empty) there))
