use Rattle.std.proofs.Common.{◌≡◌, ◌++◌, map, drop}
use Rattle.mu_model.specs.Answers.{watches_of}
use Rattle.client_script.specs.Meaning.{action_meant}
use Rattle.client_script.proofs.actions.watches.Given as goal

abbrev pub invariant-loop-action : goal.invariant-loop-action
invariant-loop-action l = watches_of (map action_meant l.actions) ≡ l.watches ++ watches_of (map action_meant (drop l.action-index l.actions))
