use Rattle.std.proofs.Common.{◌≡◌, ◌++◌, drop}
use Rattle.frames.specs.Chains.{frames_in}
use Rattle.mu_model.specs.Answers.{frame_notes}
use Rattle.client_script.proofs.actions.note_frames.Given as goal

abbrev pub invariant-loop-n : goal.invariant-loop-n
invariant-loop-n l = l.initial.notes ++ frame_notes 0 (frames_in l.frames) ≡ l.notes ++ frame_notes l.n (drop l.n (frames_in l.frames))
