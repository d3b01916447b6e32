use Rattle.std.proofs.Common.{◌≡◌, map, drop}
use Rattle.frames.specs.Chains.{frames_in}
use Rattle.client_script.specs.Meaning.{action_meant}
use Rattle.client_script.specs.Plans.{noted}
use Rattle.client_script.proofs.Planning.{after}
use Rattle.client_script.proofs.actions.notes.Given as goal

abbrev pub invariant-loop-action : goal.invariant-loop-action
invariant-loop-action l = (l.copies ≡ frames_in l.frames) × (noted (frames_in l.frames) (map action_meant l.actions) ≡ after l.notes (noted (frames_in l.frames) (map action_meant (drop l.action-index l.actions))))
